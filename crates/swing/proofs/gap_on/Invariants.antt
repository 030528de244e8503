-- `swing::gap_on`: what was reached to either side before minute t.
-- Assumes nothing.
use Rattle.std.proofs.Common.{◌≡◌, ◌-◌}
use Rattle.curve.specs.Card.{Card}
use Rattle.knots.specs.Lent.{lent}
use Rattle.lists.specs.declared.Lists.{Lists}
use Rattle.swing.specs.Swing.{below_at, above_at}
use Rattle.swing.proofs.Peak.{reached}
use Rattle.swing.proofs.gap_on.Given as goal

abbrev pub card : Lists → Card
card lists = lent lists.minutes.now lists.ordinates.now lists.slopes.now lists.curvatures.now 0 0

abbrev pub invariant-loop-t : goal.invariant-loop-t
invariant-loop-t l = (l.low ≡ reached (below_at (card l.lists) l.j) (l.t - 1)) × (l.high ≡ reached (above_at (card l.lists) l.j) (l.t - 1))
