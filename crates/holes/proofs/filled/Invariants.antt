-- `holes::filled`: the first i places are filled.
-- Assumes nothing.
use Rattle.std.proofs.Common.{pos}
use Rattle.std.specs.Prelude.{replicate}
use Rattle.front.proofs.Filled.{Filled}
use Rattle.holes.specs.Hole.{filled_at}
use Rattle.holes.specs.Needs.{most}
use Rattle.holes.proofs.filled.Given as goal

abbrev pub invariant-loop-i : goal.invariant-loop-i
invariant-loop-i l = Filled (filled_at l.xs l.ys l.fill) l.i (replicate most (pos 0)) l.out
