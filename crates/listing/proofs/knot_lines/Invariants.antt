-- `listing::knot_lines` meets its contract. The loop's invariant: the lines of the first i knots stand in the buffer, with the faults that were answered. Assumes nothing.
use Rattle.std.proofs.Common.{ℕ, List}
use Rattle.std.specs.Prelude.{Option}
use Rattle.listing.specs.Text.{line_of, Lines, Answered}
use Rattle.listing.proofs.knot_lines.Given as goal

abbrev pub invariant-loop-i : goal.invariant-loop-i
invariant-loop-i g l =
    (fs : List (Option ℕ)) × Answered (λ i. g.F.Fn.post l.faults (i, tt)) l.i fs
    × Lines (line_of l.minutes l.ordinates l.slopes l.curvatures fs) l.i l.initial.text l.text l.next
