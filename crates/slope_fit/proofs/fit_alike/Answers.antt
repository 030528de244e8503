-- `slope_fit::fit_alike` meets its contract. Assumes nothing.
use Rattle.std.proofs.Common.{refl, take, sym, ap, ◌∙◌}
use Rattle.answer.proofs.Chain.{step_refuses, step_passes}
use Rattle.passes.specs.declared.Job.TheVariants.{Slopes}
use Rattle.worked.specs.Jobs.{handed}
use Rattle.fit.proofs.Fitting.{fits_along, fits_exit, fits_given}
use Rattle.slope_fit.proofs.Order.{by_steps}
use Rattle.slope_fit.proofs.fit_alike.Goals as goal

pub returns-in_err-stand : goal.returns-in_err-stand
returns-in_err-stand c = fits_exit _ _ c.from_residual.ensures.1 (step_refuses _ c.stand.ensures c.in_err-stand.was ∙ by_steps _ _ _)

pub returns-in_err-in_range : goal.returns-in_err-in_range
returns-in_err-in_range c =
    fits_exit _ _ c.from_residual-in_err-in_range.ensures.1
    (step_passes _ c.stand.ensures c.in_ok-stand.was (step_refuses _ (c.in_range.ensures _) c.in_err-in_range.was) ∙ by_steps _ _ _)

pub returns-in_err-numbers : goal.returns-in_err-numbers
returns-in_err-numbers c =
    let s = c.args in
    let out = sym (ap (handed s.minutes.now s.ordinates.now s.slopes.now Slopes) c.in_err-numbers.was) ∙ c.work_out.ensures.card in
    fits_exit _ _ c.from_residual-in_err-numbers.ensures.1
    (step_passes _ c.stand.ensures c.in_ok-stand.was (step_passes _ (c.in_range.ensures _) c.in_ok-in_range.was out) ∙ by_steps _ _ _)

pub returns : goal.returns
returns c =
    let s = c.args in
    let x = c.in_ok-numbers.numbers in
    let out = sym (ap (handed s.minutes.now s.ordinates.now s.slopes.now Slopes) c.in_ok-numbers.was) ∙ c.work_out.ensures.card in
    fits_along
    (step_passes _ c.stand.ensures c.in_ok-stand.was (step_passes _ (c.in_range.ensures _) c.in_ok-in_range.was out) ∙ by_steps _ _ _)
    (fits_given refl (c.write.ensures ∙ ap (λ n. take n x.curvatures) c.requires.curvatures))
