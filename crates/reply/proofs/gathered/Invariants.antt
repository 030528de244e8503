-- `reply::gathered` meets its contract: a loop over the knots. Assumes nothing.
use Prim.Native.Nat.{◌≤◌}
use Rattle.text.specs.Sheet.{most}
use Rattle.reply.proofs.Gathers.{Going}
use Rattle.reply.proofs.gathered.Given as goal

abbrev pub invariant-loop-i : goal.invariant-loop-i
invariant-loop-i l = (l.sheet.knots ≤ most) × Going l.sheet l.logs l.so_far l.i
