-- `mend::Plan::of`: the changes of the first i knots stand at the front of the array. Assumes nothing.
use Rattle.mend.specs.Changes.{changes_to}
use Rattle.mend.proofs.Columns.{Holds}
use Rattle.mend.proofs.Plan.of.Given as goal

abbrev pub invariant-loop-i : goal.invariant-loop-i
invariant-loop-i l = Holds (changes_to l.sheet l.mended l.i) l.changes l.count
