-- `moves::copy_in` meets its contract.
-- Assumes nothing.
use Prim.Native.Nat.{◌≤◌}
use lib.ListN.{length}
use Rattle.moves.proofs.Shift.{Moved}
use Rattle.moves.proofs.copy_in.Given as goal

abbrev pub invariant-loop-i : goal.invariant-loop-i
invariant-loop-i l = (l.i ≤ length l.part) × (Moved l.initial.list l.at l.part l.i l.list)
