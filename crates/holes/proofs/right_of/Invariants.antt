-- `holes::right_of`: the knots from i + 1 to j are holes.
-- Assumes nothing.
use Rattle.std.proofs.Common.{◌≡◌, ◌-◌, length}
use Rattle.holes.specs.Hole.{after, right_of}
use Rattle.holes.proofs.right_of.Given as goal

abbrev pub invariant-loop-j : goal.invariant-loop-j
invariant-loop-j l = after l.ys l.j (length l.ys - l.j) ≡ right_of l.ys l.i
