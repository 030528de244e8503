-- `fit::fit_into` meets its contract. Assumes nothing.
use Rattle.std.proofs.Common.{refl, ◌∙◌}
use Rattle.answer.proofs.Chain.{step_accepts, step_refuses, step_passes}
use Rattle.fit.proofs.Fitting.{fits_along, fits_exit}
use Rattle.fit.proofs.Order.{in_groups, sized_alike}
use Rattle.fit.proofs.fit_into.Goals as goal

pub returns-in_err-sized : goal.returns-in_err-sized
returns-in_err-sized c = fits_exit _ _ c.from_residual.ensures.1 (step_refuses _ c.sized.ensures c.in_err-sized.was ∙ in_groups _ _ _ _ _ _ _)

pub fit_alike-requires : goal.fit_alike-requires
fit_alike-requires c = sized_alike _ _ _ _ _ (step_accepts c.sized.ensures c.in_ok-sized.was)

pub returns : goal.returns
returns c = fits_along (step_passes _ c.sized.ensures c.in_ok-sized.was refl ∙ in_groups _ _ _ _ _ _ _) c.fit_alike.ensures
