-- `mend::mendable` meets its contract. Assumes nothing.
use Rattle.std.proofs.Common.{◌≡◌, length, ap, ◌∙◌}
use lib.Dec.{ltb}
use Rattle.answer.proofs.Chain.{step_refuses, step_passes}
use Rattle.answer.proofs.Orders.{exits}
use Rattle.answer.specs.Answer.{each, refuse}
use Rattle.answer.specs.Judge.{verdict_of}
use Rattle.curve.specs.Kind.{quintic}
use Rattle.curve.specs.Steps.{stands}
use Rattle.holes.specs.declared.Fill.TheVariants.{Zero}
use Rattle.holes.specs.Hole.{passable}
use Rattle.mend.specs.Order.{mendable}
use Rattle.mend.proofs.Bridges.{front_filled}
use Rattle.mend.proofs.mendable.Goals as goal
use Rattle.mend.proofs.mendable.Goals.{After-stand}

stood : (c : After-stand) → (let a = c.args in verdict_of c.stand.result ≡ each (stands quintic a.minutes.now (passable a.minutes.now a.ordinates.now)) 0 (length a.minutes.now))
stood c = c.stand.ensures ∙ ap (λ ys. each (stands quintic c.args.minutes.now ys) 0 (length c.args.minutes.now)) (front_filled _ _ Zero c.filled-passable.ensures)

pub returns-in_err-stand : goal.returns-in_err-stand
unfolding mendable
returns-in_err-stand c = exits _ _ c.from_residual.ensures.1 ∙ step_refuses _ (stood (goal.at.returns-in_err-stand c).After-stand) c.in_err-stand.was

pub returns-in_err-bridged : goal.returns-in_err-bridged
unfolding mendable
returns-in_err-bridged c =
    exits _ _ c.from_residual-in_err-bridged.ensures.1
    ∙ step_passes _ (stood (goal.at.returns-in_err-bridged c).After-stand) c.in_ok-stand.was (step_refuses _ c.bridged.ensures c.in_err-bridged.was)

pub returns : goal.returns
unfolding mendable
returns c =
    let roomy = c.refuse.ensures ∙ ap (λ n. refuse 18 0 (ltb c.args.room n)) c.count.ensures in
    step_passes _ (stood (goal.at.returns c).After-stand) c.in_ok-stand.was (step_passes _ c.bridged.ensures c.in_ok-bridged.was roomy)
