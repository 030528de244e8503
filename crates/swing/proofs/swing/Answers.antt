-- `swing::swing` meets its contract: refused, zeros; accepted, the opened card's gap that goes furthest.
-- Assumes nothing.
use mathlib.Core.Path.{◌≡◌}
use native.Mathlib.Omega.{arith}
use Rattle.answer.specs.Answer.{accepted}
use Rattle.answer.proofs.Chain.{step_accepts}
use Rattle.decode.specs.Decoded.{decoded, Holds}
use Rattle.card.specs.Answers.{own}
use Rattle.opened.proofs.Fronts.{knots_decoded}
use Rattle.opened.proofs.Opening.{accepted_holds, accepted_readable}
use Rattle.swing.proofs.Swings.{knot_inside, swung_given}
use Rattle.swing.proofs.swing.Goals as goal
use Rattle.swing.proofs.swing.Goals.{In-Ok}

module _ (c : In-Ok) where
  accepts : own c.args.card.now ≡ accepted
  accepts = step_accepts c.by_head-opened.ensures.judged c.in-Ok.is

  holds : Holds c.by_head-opened.result.card c.args.card.now
  holds = accepted_holds c.by_head-opened.ensures accepts

pub widest-widest-requires : goal.widest-widest-requires
widest-widest-requires c = accepted_readable c.by_head-opened.ensures (accepts (goal.at.widest-widest-requires c).In-Ok)

pub overflow_cast-result : goal.overflow_cast-result
overflow_cast-result c =
    let e = (goal.at.overflow_cast-result c).In-Ok in
    let d = e.by_head-opened.result.card in
    let f = (holds e).full in
    omega (arith, knot_inside (decoded d) c.widest-widest.ensures, knots_decoded d f, f.few)

pub returns-in-Ok : goal.returns-in-Ok
returns-in-Ok c =
    let e = (goal.at.returns-in-Ok c).In-Ok in
    swung_given (accepts e) (holds e).is c.widest-widest.ensures c.first_minute.ensures
