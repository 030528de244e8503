-- Table 3 of document 000 as document 01 scales it, by computation of the definitions: between free ends the fit of its knots is its card, and without ends it is the card that starts at
-- rest; and P7's. Assumes nothing.
use Prim.Native.Nat.{ℕ}
use mathlib.Core.Path.{◌≡◌, refl}
use mathlib.Core.List.{[], ◌∷◌}
use lib.IntN.{pos}
use lib.Ieee.{add, sub, mul, div, neg, of_bits, of_int, ne, lt}
use Rattle.whole.specs.Whole.{minus, beyond, nearest}
use Rattle.answer.specs.Answer.{refused, given, ◌then◌, refuse, each}
use Rattle.curve.specs.Formula.{power, worth, ∂, ∂^, amount}
use Rattle.curve.specs.Curve.{degree, rightward, leftward, allowance}
use Rattle.curve.specs.Kind.{quintic_asks, quintic}
use Rattle.curve.specs.Card.{Card, knots, knot, back, on, gap, spot, joint}
use Rattle.curve.specs.Jump.{inverse, clear, over, rise, jump, allowed, jumps}
use Rattle.curve.specs.Steps.{slope_beyond, curvature_beyond, lengths, counted, stands, in_range, smooth}
use Rattle.curve.specs.Orders.{numbers_sound, fit_order}
use Rattle.curve.proofs.Cases.{table_3, line, p1}
use Rattle.rows.specs.declared.End.TheVariants.{Free}
use Rattle.rows.specs.Equations as Equations
use Rattle.elimination.specs.Elimination.{system}
use Rattle.elimination.specs.Refusal as Refusal
use Rattle.passes.specs.Sheet.{end_of, knot_between, right_gap, left_gap, knot_at}
use Rattle.passes.specs.Forward.{run_to}
use Rattle.passes.specs.Back.{turned, back_to}
use Rattle.passes.specs.Passes.{back_from, passes}
use Rattle.units.specs.Units.{units_of}
use Rattle.ends.specs.Ends.{ends}
use Rattle.fit.specs.Fit.{solved, eliminated, card_of, fit_of, fit_between, fit}

-- its knots at rest on the left and free on the right, with this code of the left end. The numbers are those of the exact solution, rounded to card units: tests/independent solves for it
-- in fractions
unfoldable pub at_rest : ℕ → Card
at_rest left =
    record {
      minutes = p1.minutes;
      ordinates = p1.ordinates;
      slopes = pos 0 ∷ minus 146_579 ∷ pos 174_611 ∷ minus 333_611 ∷ pos 960_634 ∷ [];
      curvatures = pos 0 ∷ pos 160_836 ∷ minus 140_373 ∷ pos 89_891 ∷ pos 185_744 ∷ [];
      left = left;
      right = 0;
    }

-- both fits; with the code of a free end on the left the second is no sound card; and between free ends the
-- fit of P7's knots is its card
pub fits_are :
    (fit_between p1.minutes p1.ordinates 5 5 Free Free ≡ given p1) × (fit p1.minutes p1.ordinates 5 5 ≡ given (at_rest 1))
    × (numbers_sound quintic (at_rest 0) ≡ refused 10 0) × (fit_between line.minutes line.ordinates 3 3 Free Free ≡ given line)
unfolding p1 table_3 line at_rest add sub mul div neg of_bits of_int ne lt beyond nearest ◌then◌ refuse each power worth ∂ ∂^ amount degree rightward leftward allowance quintic_asks quintic knots
    knot back on gap spot joint inverse clear over rise jump allowed jumps slope_beyond curvature_beyond lengths counted stands in_range smooth numbers_sound fit_order
    Equations.gap Equations.no_gap Equations.equations system Refusal.solved Refusal.eliminated end_of knot_between right_gap left_gap knot_at run_to turned back_to back_from passes
    units_of ends solved eliminated card_of fit_of
fits_are = (refl, refl, refl, refl)
