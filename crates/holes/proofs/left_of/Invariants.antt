-- `holes::left_of`: the knots from k to i are holes.
-- Assumes nothing.
use Rattle.std.proofs.Common.{◌≡◌}
use Rattle.holes.specs.Hole.{before}
use Rattle.holes.proofs.left_of.Given as goal

abbrev pub invariant-loop-k : goal.invariant-loop-k
invariant-loop-k l = before l.ys l.k ≡ before l.ys l.i
