-- Order 8's fit by computation of its definition: Table 3's slopes give Table 3's card; Table 4 of document
-- 000, its minutes 3 more and its slopes times 4096, gives its printed halves of the second derivatives times
-- 8192, rounded; an uneven sheet; and refusals in their order. The curvatures are those of the exact
-- solution, rounded to card units. Assumes nothing.
use Prim.Native.Nat.{ℕ}
use mathlib.Core.Path.{◌≡◌, refl}
use mathlib.Core.List.{List, [], ◌∷◌}
use lib.IntN.{ℤ, pos}
use lib.ListN.{replicate}
use lib.Ieee.{add, sub, mul, div, neg, of_bits, of_int, ne}
use Rattle.whole.specs.Whole.{minus, beyond, nearest}
use Rattle.answer.specs.Answer.{Answer, refused, given, ◌then◌, refuse, each}
use Rattle.curve.specs.Formula.{power, worth, ∂, ∂^, amount}
use Rattle.curve.specs.Curve.{degree, rightward, leftward, allowance}
use Rattle.curve.specs.Kind.{quintic_asks, quintic, sloped_asks, sloped_allowance, sloped}
use Rattle.curve.specs.Card.{knots, knot, back, on, gap, spot, joint}
use Rattle.curve.specs.Jump.{inverse, clear, over, rise, jump, allowed, jumps}
use Rattle.curve.specs.Steps.{slope_beyond, curvature_beyond, lengths, counted, stands, in_range, slope_in_range, smooth}
use Rattle.curve.specs.Orders.{numbers_sound, fit_order}
use Rattle.curve.proofs.Cases.{shown, table_3, p1}
use Rattle.rows.specs.Equations as Equations
use Rattle.lines.specs.Lines.{line_solved, line_eliminated}
use Rattle.passes.specs.Sheet.{slope_before, slope_after, line_between, right_gap, left_gap, line_at}
use Rattle.passes.specs.Forward.{run_to}
use Rattle.passes.specs.Back.{turned, back_to}
use Rattle.passes.specs.Passes.{back_from, passes}
use Rattle.units.specs.Units.{units_of}
use Rattle.slope_fit.specs.SlopesFit.{solved, eliminated, card_of, ranged, slopes_fit}

-- the curvatures, or the refusal
abbrev fitted : List ℕ → (ys ms : List ℤ) → ℕ → Answer (List ℤ)
fitted xs ys ms Ms = shown (λ c. c.curvatures) (slopes_fit xs ys ms Ms)

abbrev table_4 : Answer (List ℤ)
table_4 = fitted (0 ∷ 2 ∷ 3 ∷ 6 ∷ 7 ∷ []) (pos 7 ∷ pos 11 ∷ pos 26 ∷ pos 56 ∷ pos 29 ∷ []) (pos 8_192 ∷ pos 61_440 ∷ pos 40_960 ∷ minus 110_592 ∷ minus 122_880 ∷ []) 5

-- gaps of one minute and of an hour, with this minute for the last knot and this slope in the middle
abbrev uneven : ℕ → ℤ → Answer (List ℤ)
uneven last m = fitted (0 ∷ 1 ∷ last ∷ []) (pos 0 ∷ pos 7 ∷ minus 300 ∷ []) (pos 5_000 ∷ m ∷ pos 999 ∷ []) 3

-- a straight line, but for its first slope
abbrev straight : ℤ → Answer (List ℤ)
straight m = fitted (0 ∷ 1 ∷ 2 ∷ []) (pos 0 ∷ pos 256 ∷ pos 512 ∷ []) (m ∷ pos 1_048_576 ∷ pos 1_048_576 ∷ []) 3

-- 200 hundredths up and down again in two minutes, level at each knot, into a list of so many places
abbrev steep : ℕ → Answer (List ℤ)
steep Ms = fitted (0 ∷ 1 ∷ 2 ∷ []) (pos 0 ∷ pos 200 ∷ pos 0 ∷ []) (pos 0 ∷ pos 0 ∷ pos 0 ∷ []) Ms

-- so many knots at one minute
abbrev still : ℕ → Answer (List ℤ)
still n = fitted (replicate n 0) (replicate n (pos 0)) (replicate n (pos 0)) n

pub rows_hold :
    (slopes_fit p1.minutes p1.ordinates p1.slopes 5 ≡ given p1)
    × (table_4 ≡ given (minus 50_040 ∷ pos 62_873 ∷ minus 15_637 ∷ minus 43_126 ∷ minus 63_527 ∷ []))
    × (uneven 61 (minus 3_000) ≡ given (pos 131_151 ∷ minus 143_987 ∷ minus 45_734 ∷ []))
    × (straight (pos 1_048_576) ≡ given (pos 0 ∷ pos 0 ∷ pos 0 ∷ []))
    -- 9 for a slope before 9 for a curvature, 5 before both; 9 for a curvature; 3
    × (straight (pos 1_048_577) ≡ refused 9 0)
    × (uneven 61 (minus 1_048_577) ≡ refused 9 1)
    × (uneven 62 (minus 1_048_577) ≡ refused 5 2)
    × (steep 3 ≡ refused 9 0)
    × (steep 2 ≡ refused 3 0)
    × (still 2 ≡ refused 1 0)
    × (still 65 ≡ refused 2 0)
    × (still 64 ≡ refused 4 1)
unfolding shown p1 table_3 add sub mul div neg of_bits of_int ne beyond nearest ◌then◌ refuse each power worth ∂ ∂^ amount degree rightward leftward allowance
    quintic_asks quintic sloped_asks sloped_allowance sloped knots knot back on gap spot joint inverse clear over rise jump allowed jumps slope_beyond
    curvature_beyond lengths counted stands in_range slope_in_range smooth numbers_sound fit_order Equations.gap Equations.no_gap line_solved line_eliminated
    slope_before slope_after line_between right_gap left_gap line_at run_to turned back_to back_from passes units_of solved eliminated card_of ranged slopes_fit
rows_hold = (refl, refl, refl, refl, refl, refl, refl, refl, refl, refl, refl, refl)
