-- `parts_at` meets its contract: 11, then the parts of the minute's gap.
-- Assumes nothing.
use mathlib.Core.Path.{◌≡◌, ◌∙◌, ap}
use native.Mathlib.Omega.{arith}
use Rattle.answer.specs.Answer.{accepted}
use Rattle.answer.proofs.Chain.{step_accepts, step_refused}
use Rattle.curve.specs.Card.{knot}
use Rattle.curve.specs.Reading.{gap_of}
use Rattle.curve.specs.Steps.{outside}
use Rattle.knots.specs.Lent.{lent}
use Rattle.lists.specs.Lists.{InPlace}
use Rattle.lists.proofs.Settled.{found_place}
use Rattle.explain.specs.Explain.{parted, parts_from, sizes}
use Rattle.explain.proofs.Told.{outside_explained, inside_explained}
use Rattle.explain.proofs.parts_at.Goals as goal
use Rattle.explain.proofs.parts_at.Goals.{After-find-gap, In-Ok, Start}

abbrev start : In-Ok → Start
start c = (goal.at.In-Ok c).Start

inside : (c : In-Ok) → outside (start c).args.lists.minutes.now (start c).args.minute ≡ accepted
inside c = step_accepts c.outside.ensures c.in-Ok.is

-- the gap that the looks leave is the minute's
left_is : (c : After-find-gap) → (let a = (start (goal.at.After-find-gap c).In-Ok).args in (c.find-gap.result.first ≡ gap_of a.lists.minutes.now a.minute) × InPlace a.lists.minutes.now c.find-gap.result.first a.minute)
left_is c = let d = start (goal.at.After-find-gap c).In-Ok in found_place d.args.lists.checked d.requires (inside (goal.at.After-find-gap c).In-Ok) c.find-gap.ensures

pub returns-in-Err : goal.returns-in-Err
unfolding sizes
returns-in-Err c =
    let d = (goal.at.returns-in-Err c).Start in
    let a = d.args in
    let e = step_refused c.outside.ensures c.in-Err.is in record { value = λ K left right. c.from.ensures ∙ outside_explained K (lent a.lists.minutes.now a.lists.ordinates.now a.lists.slopes.now a.lists.curvatures.now left right) a.minute e; fits = rw c.from.ensures (omega arith) }

pub returns-in-Ok : goal.returns-in-Ok
unfolding parted parts_from knot
returns-in-Ok c =
    let a = c.args in
    record {
      value =
          λ K left right.
          let card = lent a.lists.minutes.now a.lists.ordinates.now a.lists.slopes.now a.lists.curvatures.now left right in
          c.parted.ensures.value ∙ ap (λ i. parted card i a.minute) (left_is (goal.at.returns-in-Ok c).After-find-gap).0 ∙ inside_explained K card a.minute (inside (goal.at.returns-in-Ok c).In-Ok);
      fits = c.parted.ensures.fits;
    }

pub parted-requires : goal.parted-requires
parted-requires c = (left_is c).1
