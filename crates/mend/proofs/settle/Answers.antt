-- `mend::settle` meets its contract: the sheet is written only where its fit is accepted. Assumes nothing.
use Rattle.std.proofs.Common.{refl, ap}
use Rattle.answer.specs.Answer.{number}
use Rattle.fit.specs.Promise.{fitted_of}
use Rattle.mend.proofs.Planning.{plans_fitted, plans_unfitted_exit}
use Rattle.mend.proofs.settle.Goals as goal

pub returns-in_err-fit_into : goal.returns-in_err-fit_into
returns-in_err-fit_into c = plans_unfitted_exit _ _ _ _ c.fit_into.ensures refl _ c.in_err-fit_into.was _ c.from_residual.ensures.1 refl

pub returns : goal.returns
unfolding number
returns c = plans_fitted _ _ _ _ c.fit_into.ensures (ap (λ j. (fitted_of j).number) c.in_ok-fit_into.was) c.copy_from_slice.ensures.after c.of-plan.ensures
