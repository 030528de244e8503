-- Document 01, "The curve and its card": the numbers given for an end, "two binary64 numbers", as numbers that an exact solution has there.
-- Assumes nothing.
use Rattle.std.specs.Prelude.{◌≡◌, ℕ, ◌*◌, ℤ, Float}
use Rattle.std.specs.Float.{nan, inf, fin}
use Rattle.std.specs.Float.Ieee.{up, down}
use Rattle.whole.specs.Whole.{◌·◌}
use Rattle.curve.specs.Kind.{quintic}
use Rattle.curve.specs.Card.{Card}
use Rattle.curve.specs.Exact.{Exact}
use Rattle.rows.specs.declared.End.{End}
use Rattle.rows.specs.declared.End.TheVariants.{Free, Both, Curvature}
use Rattle.units.specs.Units.{signed}

-- The fraction z/q is the float's number. A finite float is ±m · 2^e, and 2^e is the fraction up e / down e: so z/q = ±(m · up e) / down e.
-- No fraction is an infinity or a NaN.
unfoldable pub Equals : ℤ → ℕ → Float → Type 0
Equals z q (fin sign m e) = down e · z ≡ q · signed sign (m * up e)
Equals z q (inf sign) = ⊥
Equals z q nan = ⊥

module _ {card : Card} (e : Exact quintic card) where
  -- at place i the solution has exactly what an end gives: "free"; "slope and curvature given"; "curvature alone given"
  unfoldable pub HasGiven : ℕ → End → Type 0
  HasGiven i Free = Unit {0}
  HasGiven i (Both slope curvature) = Equals (e.s i) e.q slope × Equals (e.c i) e.q curvature
  HasGiven i (Curvature curvature) = Equals (e.c i) e.q curvature
