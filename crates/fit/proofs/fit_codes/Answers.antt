-- `fit::fit_codes` meets its contract. Assumes nothing.
use mathlib.Core.Path.{ap, ap₂, ◌∙◌}
use lib.ListN.{length}
use Rattle.curve.specs.Kind.{quintic}
use Rattle.curve.specs.Steps.{codes}
use Rattle.knots.specs.Kinds.{kind_of}
use Rattle.knots.proofs.Carried.{quintic_is}
use Rattle.fit.specs.Fit.{fit_of}
use Rattle.fit.proofs.Fitting.{fits_along}
use Rattle.fit.proofs.fit_codes.Goals as goal

pub returns : goal.returns
returns c =
    let s = c.args in
    let xs = s.minutes.now in
    let ys = s.ordinates.now in
    let ms = length s.slopes.now in
    let Ms = length s.curvatures.now in
    let from = c.end_by-from in
    let to = c.end_by-to in
    let named =
    c.codes-named.ensures
    ∙ ap (λ k. codes (kind_of k) s.left s.right) c.quintic.ensures
    ∙ ap (λ K. codes K s.left s.right) quintic_is in
    rw c.into.ensures
    (fits_along
    (ap (fit_of xs ys from.result to.result ms Ms) named ∙ ap₂ (λ l r. fit_of xs ys l r ms Ms (codes quintic s.left s.right)) from.ensures to.ensures)
    c.fit_into.ensures)
