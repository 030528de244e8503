-- `slope_fit::in_range` meets its contract. Assumes nothing.
use Rattle.std.proofs.Common.{◌∙◌}
use Rattle.passes.specs.Sheet.{most}
use Rattle.slope_fit.proofs.Given.{ranged_is}
use Rattle.slope_fit.proofs.in_range.Goals as goal

pub returns : goal.returns
returns c ys = c.in_range.ensures ys 0 0 ∙ ranged_is c.args.minutes.now ys c.args.slopes.now most c.requires.0
