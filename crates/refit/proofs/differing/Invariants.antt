-- `refit::differing` meets its contract. Assumes nothing.
use Prim.Native.Nat.{◌-◌}
use lib.IntN.{ℤ_discrete}
use lib.ListN.{length}
use Rattle.refit.proofs.Places.{Counted}
use Rattle.refit.proofs.differing.Given as goal

abbrev pub invariant-loop-i : goal.invariant-loop-i
invariant-loop-i l = Counted ℤ_discrete l.held l.anew l.i l.count

abbrev pub decreases-loop-i : goal.decreases-loop-i
decreases-loop-i l = length l.held - l.i
