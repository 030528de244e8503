-- `text::Sheet::read` meets its contract: a loop over the lines. Assumes nothing.
use Prim.Native.Nat.{◌+◌, ◌-◌}
use lib.ListN.{length}
use Rattle.text.proofs.Readings.{Reading}
use Rattle.text.proofs.Sheet.read.Given as goal

abbrev pub invariant-loop-sheet : goal.invariant-loop-sheet
invariant-loop-sheet l = Reading l.mends l.text l.sheet l.line l.at

abbrev pub decreases-loop-sheet : goal.decreases-loop-sheet
decreases-loop-sheet l = length l.text + 1 - l.at
