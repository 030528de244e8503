-- `swing::widest_on`: the gap before place j that goes furthest.
-- Assumes nothing.
use Rattle.std.proofs.Common.{◌≡◌, ◌-◌}
use Rattle.knots.specs.Lent.{lent}
use Rattle.swing.specs.Swing.{gap_swing}
use Rattle.swing.proofs.Peak.{widest_so_far}
use Rattle.swing.proofs.widest_on.Given as goal

abbrev pub invariant-loop-j : goal.invariant-loop-j
invariant-loop-j l = l.widest ≡ widest_so_far (gap_swing (lent l.lists.minutes.now l.lists.ordinates.now l.lists.slopes.now l.lists.curvatures.now 0 0)) (l.j - 1)
