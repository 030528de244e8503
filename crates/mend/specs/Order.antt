-- The order of mending: "17 .. 18 ..; in that order, after 3, 1, 2 and the per-knot checks, and before 7" (document 02, order 1); 7 has nothing to look at, since the ends are free.
-- Assumes nothing.
use Rattle.std.specs.Prelude.{ℕ, List, ℤ, ltb, length}
use Rattle.answer.specs.Answer.{Answer, Verdict, ◌then◌, refuse, each}
use Rattle.curve.specs.Kind.{quintic}
use Rattle.curve.specs.Card.{Card}
use Rattle.curve.specs.Steps.{lengths, counted, stands}
use Rattle.rows.specs.declared.End.TheVariants.{Free}
use Rattle.fit.specs.Fit.{fit_between}
use Rattle.holes.specs.Hole.{bridged, holes, passable, mended}

module _ (xs : List ℕ) (ys : List ℤ) where
  -- per knot 4, 5, 6; 17; 18 of a list with so many places
  unfoldable pub mendable : ℕ → Verdict
  mendable room =
      each (stands quintic xs (passable xs ys)) 0 (length xs)
      then each (bridged ys) 0 (length ys)
      then refuse 18 0 (ltb room (holes ys))

  -- into lists of ms and Ms places: 3, 1, 2 before that
  unfoldable pub mend_order : (ms Ms room : ℕ) → Verdict
  mend_order ms Ms room =
      lengths (length xs) (length ys) ms Ms
      then counted quintic (length xs)
      then mendable room

  -- "The tool then fits the sheet": the mended one, between free ends
  unfoldable pub mend : (ms Ms room : ℕ) → Answer Card
  mend ms Ms room = mend_order ms Ms room then fit_between xs (mended xs ys) ms Ms Free Free
