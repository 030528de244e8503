-- `unknowns::first`: (3.13) over the last k inner values.
-- Assumes nothing.
use Rattle.std.proofs.Common.{◌≡◌, ◌-◌, length}
use Rattle.cubic.specs.Cubic.{sum}
use Rattle.unknowns.proofs.first.Given as goal

abbrev pub invariant-loop-k : goal.invariant-loop-k
invariant-loop-k l = l.total ≡ sum l.ys (length l.ys - 2 - l.k) l.k
