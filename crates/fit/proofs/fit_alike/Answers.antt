-- `fit::fit_alike` meets its contract. Assumes nothing.
use Rattle.std.proofs.Common.{take, sym, ap, ◌∙◌}
use Rattle.answer.proofs.Chain.{step_refuses, step_passes}
use Rattle.passes.specs.declared.Job.TheVariants.{Ends}
use Rattle.worked.specs.Jobs.{handed}
use Rattle.fit.proofs.Fitting.{fits_along, fits_exit, fits_given}
use Rattle.fit.proofs.Order.{by_steps}
use Rattle.fit.proofs.fit_alike.Goals as goal

pub returns-in_err-stand : goal.returns-in_err-stand
returns-in_err-stand c = fits_exit _ _ c.from_residual.ensures.1 (step_refuses _ c.stand.ensures c.in_err-stand.was ∙ by_steps _ _ _ _ c.args.slopes.now)

pub returns-in_err-given_ends : goal.returns-in_err-given_ends
returns-in_err-given_ends c =
    fits_exit _ _ c.from_residual-in_err-given_ends.ensures.1
    (step_passes _ c.stand.ensures c.in_ok-stand.was (step_refuses _ c.given_ends.ensures c.in_err-given_ends.was) ∙ by_steps _ _ _ _ c.args.slopes.now)

pub returns-in_err-numbers : goal.returns-in_err-numbers
returns-in_err-numbers c =
    let s = c.args in
    let out = sym (ap (handed s.minutes.now s.ordinates.now s.slopes.now (Ends s.left s.right)) c.in_err-numbers.was) ∙ c.work_out.ensures.card in
    fits_exit _ _ c.from_residual-in_err-numbers.ensures.1
    (step_passes _ c.stand.ensures c.in_ok-stand.was (step_passes _ c.given_ends.ensures c.in_ok-given_ends.was out) ∙ by_steps _ _ _ _ s.slopes.now)

pub returns : goal.returns
returns c =
    let s = c.args in
    let x = c.in_ok-numbers.numbers in
    let out = sym (ap (handed s.minutes.now s.ordinates.now s.slopes.now (Ends s.left s.right)) c.in_ok-numbers.was) ∙ c.work_out.ensures.card in
    fits_along
    (step_passes _ c.stand.ensures c.in_ok-stand.was (step_passes _ c.given_ends.ensures c.in_ok-given_ends.was out) ∙ by_steps _ _ _ _ s.slopes.now)
    (fits_given (c.write.ensures ∙ ap (λ n. take n x.slopes) c.requires.slopes) (c.write-2.ensures ∙ ap (λ n. take n x.curvatures) c.requires.curvatures))
