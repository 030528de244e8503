-- `holes::is_hole` meets its contract.
-- Assumes nothing.
use Rattle.holes.proofs.Marks.{hole_bits}
use Rattle.holes.proofs.is_hole.Goals as goal

pub returns : goal.returns
returns c = hole_bits c.args.y c.ranges.y
