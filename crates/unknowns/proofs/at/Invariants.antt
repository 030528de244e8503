-- `unknowns::at`: the unknowns at place i and the next.
-- Assumes nothing.
use Rattle.std.proofs.Common.{◌≡◌, suc}
use Rattle.cubic.specs.Cubic.{unknown}
use Rattle.unknowns.proofs.at.Given as goal

abbrev pub invariant-loop-i : goal.invariant-loop-i
invariant-loop-i l = (l.here ≡ unknown l.ys l.i) × (l.next ≡ unknown l.ys (suc l.i))
