-- `mend::mend_into` meets its contract. Assumes nothing.
use Rattle.std.proofs.Common.{refl, ◌∙◌}
use Rattle.answer.specs.Answer.{accepted}
use Rattle.answer.proofs.Chain.{step_accepts, step_refuses, step_passes}
use Rattle.fit.proofs.Order.{sized_alike}
use Rattle.mend.proofs.Planning.{in_groups, plans_along, plans_exit}
use Rattle.mend.proofs.mend_into.Goals as goal

pub returns-in_err-sized : goal.returns-in_err-sized
returns-in_err-sized c = plans_exit _ _ c.from_residual.ensures.1 (step_refuses _ c.sized.ensures c.in_err-sized.was ∙ in_groups _ _ _ _ _)

pub mend_alike-requires : goal.mend_alike-requires
mend_alike-requires c = sized_alike _ _ _ _ accepted (step_accepts c.sized.ensures c.in_ok-sized.was)

pub returns : goal.returns
returns c = plans_along (step_passes _ c.sized.ensures c.in_ok-sized.was refl ∙ in_groups _ _ _ _ _) c.mend_alike.ensures
