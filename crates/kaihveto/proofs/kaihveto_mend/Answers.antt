-- `kaihveto::kaihveto_mend` meets its contract: the plan's changes fit the list, and what is put over its front is what mending leaves. Assumes nothing.
use Rattle.mend.proofs.Mending.{count_within, mends}
use Rattle.kaihveto.proofs.kaihveto_mend.Goals as goal

pub fill-requires : goal.fill-requires
fill-requires c = rw c.len.ensures (count_within _ _ _ _ _ c.mend-plan.ensures)

pub returns : goal.returns
returns c = mends _ _ _ _ _ c.mend-plan.ensures c.answer.ensures (rw c.len.ensures at c.fill.ensures)
