-- Document 02, order 8, "Values with measured slopes": the card that the elimination gives where the slopes
-- are given, and the order in which it is tested: "those of document 01 in its order, with .. 9 for the given
-- slopes before 8". What a fit leaves its caller is `fit`'s promise, of slopes that are at exit what they
-- were. Assumes nothing.
use Rattle.std.specs.Prelude.{ℕ, List, length, ℤ}
use Rattle.answer.specs.Answer.{Answer, given, Verdict, accepted, ◌then◌, each}
use Rattle.curve.specs.Kind.{sloped}
use Rattle.curve.specs.Card.{Card}
use Rattle.curve.specs.Steps.{stands, slope_in_range}
use Rattle.curve.specs.Orders.{fit_order}
use Rattle.front.specs.Front.{listed}
use Rattle.knots.specs.Lent.{lent}
use Rattle.lines.specs.Lines.{line_back}
use Rattle.passes.specs.Sheet.{line_at}
use Rattle.passes.specs.Passes.{Solved, pairs_in, verdict_in, passes}
use Rattle.numbers.specs.Numbers.{curvature_at}

module _ (xs : List ℕ) (ys ms : List ℤ) where
  -- the elimination of the knots by the slopes given, forward then back
  unfoldable pub solved : Solved
  solved = passes (line_at xs ys ms) line_back (length xs)

  -- 8
  unfoldable pub eliminated : Verdict
  eliminated = verdict_in solved

  -- the card that it gives: the slopes as they were given, "both codes 0"
  unfoldable pub card_of : Card
  card_of = lent xs ys ms (listed (curvature_at (pairs_in solved)) (length xs)) 0 0

  -- "9 for the given slopes"
  unfoldable pub ranged : Verdict
  ranged = each (slope_in_range sloped card_of) 0 (length xs)

  -- into a list of Ms places; no code comes as a number
  unfoldable pub slopes_fit : (Ms : ℕ) → Answer Card
  slopes_fit Ms = fit_order sloped (length ms) Ms accepted ranged eliminated card_of then given card_of

  -- per knot 4, 5, 6; 9 for the given slopes
  unfoldable pub standing : Verdict
  standing = each (stands sloped xs ys) 0 (length xs) then ranged
