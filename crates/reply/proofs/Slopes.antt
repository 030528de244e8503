-- Sheets whose lines have slopes: Table 3's knots and slopes are answered with its curvatures, in a card of
-- kind 6; and 9 for a slope, with its line. Computed from the definitions; assumes nothing.
use Prim.Native.Nat.{ℕ}
use Prim.Native.String.{String}
use mathlib.Core.Path.{◌≡◌, refl}
use mathlib.Core.List.{List, [], ◌∷◌, ◌++◌}
use lib.IntN.{pos}
use lib.ListN.{take, replicate}
use lib.Ieee.{add, sub, mul, div, neg, of_bits, of_int, ne}
use Rattle.whole.specs.Whole.{minus, beyond, nearest}
use Rattle.little_endian.specs.Numbers.{le, signed_bytes}
use Rattle.record.specs.Record.{header}
use Rattle.answer.specs.Answer.{number, place, ◌then◌, refuse, each}
use Rattle.answer.specs.Lent.{lent_after}
use Rattle.curve.specs.Formula.{power, worth, ∂, ∂^, amount}
use Rattle.curve.specs.Curve.{degree, rightward, leftward, allowance}
use Rattle.curve.specs.Kind.{quintic_asks, quintic, sloped_asks, sloped_allowance, sloped}
use Rattle.curve.specs.Card.{knots, knot, back, on, gap, spot, joint}
use Rattle.curve.specs.Jump.{inverse, clear, over, rise, jump, allowed, jumps}
use Rattle.curve.specs.Steps.{slope_beyond, curvature_beyond, lengths, counted, codes, stands, in_range, slope_in_range, smooth, room}
use Rattle.curve.specs.Orders.{numbers_sound, sound, verdict, fit_order, write_order}
use Rattle.curve.proofs.Cases.{table_3, p1}
use Rattle.card_bytes.specs.Bytes.{head_bytes, knot_bytes, end_bytes, rows, knot_row, bytes_of}
use Rattle.writer.specs.Promise.{written}
use Rattle.rows.specs.declared.End.TheVariants.{Free}
use Rattle.rows.specs.Equations as Equations
use Rattle.lines.specs.Lines.{line_solved, line_eliminated}
use Rattle.passes.specs.Sheet.{slope_before, slope_after, line_between, right_gap, left_gap, line_at}
use Rattle.passes.specs.Forward.{run_to}
use Rattle.passes.specs.Back.{turned, back_to}
use Rattle.passes.specs.Passes.{back_from, passes}
use Rattle.units.specs.Units.{units_of}
use Rattle.slope_fit.specs.SlopesFit.{solved, eliminated, card_of, ranged, slopes_fit}
use Rattle.listing.specs.Text.{no_log, listing}
use Rattle.words.specs.Said.{refused_line}
use Rattle.gather.specs.Gathered.{plain, logs, filled, gathering, settled}
use Rattle.decimal.specs.Decimal.{spelled, value_from}
use Rattle.split.specs.Parts.{marks, stop, split, some, words}
use Rattle.numeral.specs.Number.{starts, at_most, natural, above, below, signed_number, narrowed, ordinate}
use Rattle.text.specs.Sheet.{with_ordinate, behind, knot_by, with_slope, line_by, line, no_knots, with_knot, without_slope, sloping, taken, blaming, line_taken, then, read, sheet}
use Rattle.reply.specs.Knots.{knot_at, knots_from}
use Rattle.reply.specs.Reply.{blamed, Reply, refusing, listing_of, reply_of, gathered_reply, sheet_answer, reply}

abbrev typed : List String → List ℕ
typed [] = []
typed (s ∷ ss) = spelled s ++ (10 ∷ typed ss)

-- into a buffer of five knots' size
abbrev to_sheet : List String → Reply
to_sheet ss = reply Free Free (typed ss) [] (replicate 94 0)

abbrev measured : Reply
measured = to_sheet ("0 500 -819200" ∷ "8 0 230400" ∷ "16 500 0" ∷ "24 0 -230400" ∷ "32 500 819200" ∷ [])

-- a straight line, but for its second slope, which stands on line 3
abbrev too_steep : Reply
too_steep = to_sheet ("0 0 1048576" ∷ "# 1048576 is the most" ∷ "1 256 1048577" ∷ "2 512 1048576" ∷ [])

pub by_slopes_said :
    (measured.status ≡ 48) × (measured.words ≡ listing 0 0 p1.minutes p1.ordinates p1.slopes p1.curvatures (replicate 5 no_log)) × (measured.size ≡ 94)
    × (take 10 measured.card ≡ 6 ∷ 0 ∷ 6 ∷ 0 ∷ 5 ∷ 0 ∷ 0 ∷ 0 ∷ 0 ∷ 0 ∷ []) × (p1.curvatures ≡ pos 147_200 ∷ pos 83_200 ∷ minus 108_800 ∷ pos 83_200 ∷ pos 147_200 ∷ [])
    × (too_steep.status ≡ 49) × (too_steep.words ≡ refused_line 9 1 3)
unfolding p1 table_3 add sub mul div neg of_bits of_int ne beyond nearest ◌then◌ refuse each number place lent_after power worth ∂ ∂^ amount degree rightward leftward allowance
    quintic_asks quintic sloped_asks sloped_allowance sloped knots knot back on gap spot joint inverse clear over rise jump allowed jumps slope_beyond
    curvature_beyond lengths counted codes stands in_range slope_in_range smooth room numbers_sound sound verdict fit_order write_order
    le signed_bytes header head_bytes knot_bytes end_bytes rows knot_row bytes_of written Equations.gap Equations.no_gap line_solved line_eliminated
    slope_before slope_after line_between right_gap left_gap line_at run_to turned back_to back_from passes units_of solved eliminated card_of ranged slopes_fit
    plain logs filled gathering settled spelled value_from marks stop split some words starts at_most natural above below signed_number narrowed ordinate with_ordinate behind knot_by with_slope
    line_by line no_knots with_knot without_slope sloping taken blaming line_taken then read sheet knot_at knots_from blamed refusing listing_of reply_of gathered_reply sheet_answer
by_slopes_said = (refl, refl, refl, refl, refl, refl, refl)
