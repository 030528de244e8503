-- `worked::work_out` meets its contract. Assumes nothing.
use Rattle.std.proofs.Common.{◌≡◌, ◌∙◌, refl}
use Rattle.std.proofs.lemmas.Result.{err_from_is_err_and}
use Rattle.answer.proofs.Chain.{step_refuses, step_passes}
use Rattle.knots.proofs.Accepted.{stood}
use Rattle.worked.specs.Jobs.{tested, kind_by, card_with, worked, numbers_by}
use Rattle.worked.proofs.Worked.{refused_8, all_finite, numbers_are, worked_out}
use Rattle.worked.proofs.work_out.Goals as goal
use Rattle.worked.proofs.work_out.Goals.{After-scale-numbers}

pub pairs_of-requires-clause-rising : goal.pairs_of-requires-clause-rising
pairs_of-requires-clause-rising c = (stood c.requires.stand).rising

pub returns-in_err-pairs-clause-card : goal.returns-in_err-pairs-clause-card
returns-in_err-pairs-clause-card c =
    let p = err_from_is_err_and c.from_residual.result c.from_residual.ensures.1 in
    rw (p.1, p.2) (refused_8 _ _ _ _ c.pairs_of.ensures.whole c.in_err-pairs.was)

pub scale-numbers-requires-clause-all_finite : goal.scale-numbers-requires-clause-all_finite
scale-numbers-requires-clause-all_finite c = all_finite _ _ _ _ c.pairs_of.ensures.whole c.in_ok-pairs.was c.requires.minutes_len_bound.0

module _ (c : After-scale-numbers) where
  whole : (let s = c.args in c.scale-numbers.result ≡ numbers_by s.minutes.now s.ordinates.now s.slopes.now s.job)
  whole = numbers_are _ _ _ _ c.pairs_of.ensures.whole c.in_ok-pairs.was c.scale-numbers.ensures

  out : (let s = c.args in tested (kind_by s.job) (card_with s.minutes.now s.ordinates.now s.slopes.now s.job c.scale-numbers.result) ≡ worked s.minutes.now s.ordinates.now s.slopes.now s.job)
  out = worked_out _ _ _ _ c.pairs_of.ensures.whole c.in_ok-pairs.was whole

pub returns-in_err-judge-clause-card : goal.returns-in_err-judge-clause-card
unfolding tested
returns-in_err-judge-clause-card c =
    let p = err_from_is_err_and c.from_residual-in_err-judge.result c.from_residual-in_err-judge.ensures.1 in
    rw (p.1, p.2) (step_refuses _ c.judge.ensures c.in_err-judge.was ∙ out (goal.at.returns-in_err-judge-clause-card c).After-scale-numbers)

pub returns-clause-card : goal.returns-clause-card
unfolding tested
returns-clause-card c = step_passes _ c.judge.ensures c.in_ok-judge.was refl ∙ out (goal.at.returns-clause-card c).After-scale-numbers

pub returns-clause-numbers : goal.returns-clause-numbers
returns-clause-numbers c = whole (goal.at.returns-clause-numbers c).After-scale-numbers
