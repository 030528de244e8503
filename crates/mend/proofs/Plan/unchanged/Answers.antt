-- `mend::Plan::unchanged` meets its contract. Assumes nothing.
use Rattle.std.proofs.Common.{replicate, ap}
use Rattle.mend.specs.declared.Plan.{Plan}
use Rattle.holes.specs.Needs.{most}
use Rattle.mend.specs.Promise.{column}
use Rattle.mend.proofs.Plan.unchanged.Goals as goal

pub returns : goal.returns
unfolding column
returns c = ap (λ x. let plan : Plan = record { number = c.args.number; place = c.args.place; count = 0; changes = replicate most x } in plan) c.no_change.ensures
