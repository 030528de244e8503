-- The parts of a reading fit: together, each counted positive, they keep within 64 bits, and so does what they
-- are over. Assumes nothing.
use mathlib.Core.List.{List}
use Prim.Native.Nat.{ℕ, ◌+◌, ◌-◌, ◌*◌, ◌≤◌, ◌<◌, ◌^◌}
use native.Mathlib.Nat.{pow-le-pow_left}
use native.Mathlib.Omega.{arith}
use lib.IntN.{ℤ, pos}
use lib.ListN.{get_or}
use Rattle.whole.proofs.Order.{linear}
use Rattle.curve.specs.Card.{knot, gap}
use Rattle.knots.specs.Lent.{lent}
use Rattle.gaps.specs.Limits.{widest, InGap}
use Rattle.weights.specs.declared.Quantity.TheVariants.{Value}
use Rattle.parts.specs.Parts.{size}
use Rattle.parts.proofs.Numerators.{parts_fit}
use Rattle.lists.specs.Lists.{Checked, InPlace}
use Rattle.lists.proofs.Settled.{settled_minute, settled_gap}
use Rattle.explain.specs.Explain.{parts_from, parted, sizes}

module _ {xs : List ℕ} {ys ms cs : List ℤ} (k : Checked xs ys ms cs) {i minute : ℕ} (p : InPlace xs i minute) where
  abbrev h : ℕ
  h = get_or xs (i + 1) 0 - get_or xs i 0

  here : InGap (pos h) (pos (minute - get_or xs i 0))
  here = settled_minute k i minute p

  pub whole_gap : InGap (pos h) (pos h)
  whole_gap = record { wide = here.wide; narrow = here.narrow; from = omega linear; to = omega linear }

  pub under_fits : 8192 * h ^ 5 < 2 ^ 63
  under_fits = let n : h ≤ widest = omega (linear, here.narrow) in omega (arith, pow-le-pow_left n 5)

  pub parted_fits : sizes (parted (lent xs ys ms cs 0 0) i minute) < 2 ^ 63
  unfolding sizes parted parts_from knot gap size
  parted_fits = omega (arith, parts_fit Value here (settled_gap k i minute p))
