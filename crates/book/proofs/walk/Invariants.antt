-- `walk`: what it has met so far. Assumes nothing.
use Prim.Native.Nat.{◌-◌}
use lib.ListN.{length}
use Rattle.answer.specs.Judge.{verdict_of}
use Rattle.book.proofs.Walks.{Going}
use Rattle.book.proofs.walk.Given as goal

abbrev pub invariant-loop-here : goal.invariant-loop-here
invariant-loop-here l = Going l.book l.room (verdict_of l.rising) l.low l.slot

abbrev pub decreases-loop-here : goal.decreases-loop-here
decreases-loop-here l = length l.book - l.slot.bytes
