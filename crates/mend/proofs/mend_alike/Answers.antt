-- `mend::mend_alike` meets its contract. Assumes nothing.
use Rattle.std.proofs.Common.{refl}
use Rattle.answer.proofs.Chain.{step_accepts, step_refuses, step_passes}
use Rattle.holes.specs.declared.Fill.TheVariants.{Line}
use Rattle.mend.proofs.Bridges.{has_bridges, fillable, front_filled}
use Rattle.mend.proofs.Planning.{plans_along, plans_exit}
use Rattle.mend.proofs.mend_alike.Goals as goal

pub returns-in_err-mendable : goal.returns-in_err-mendable
returns-in_err-mendable c = plans_exit _ _ c.from_residual.ensures.1 (step_refuses _ c.mendable.ensures c.in_err-mendable.was)

pub filled-mended-requires-clause-fillable : goal.filled-mended-requires-clause-fillable
filled-mended-requires-clause-fillable c = fillable c.requires.ordinates (has_bridges _ _ _ (step_accepts c.mendable.ensures c.in_ok-mendable.was))

pub returns : goal.returns
returns c = plans_along (step_passes _ c.mendable.ensures c.in_ok-mendable.was refl) (rw (front_filled _ _ Line c.filled-mended.ensures) at c.settle.ensures)
