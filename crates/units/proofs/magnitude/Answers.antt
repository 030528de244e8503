-- `units::magnitude` meets its contract. Assumes nothing.
use native.Mathlib.Omega.{arith}
use mathlib.Core.Path.{◌∙◌}
use Rattle.units.proofs.Scale.{farthest_from, nothing_below, between}
use Rattle.units.proofs.magnitude.Goals as goal

pub returns-then-k-ge1040 : goal.returns-then-k-ge1040
returns-then-k-ge1040 c = farthest_from c.args.q c.args.k c.if-k-ge1040.true (c.requires.1 (omega arith))

pub returns-then-k-lt1008 : goal.returns-then-k-lt1008
returns-then-k-lt1008 c = nothing_below c.args.q c.args.k c.if-k-lt1008.true c.requires.0

pub returns : goal.returns
returns c =
    let s = c.before.before.before in
    c.nearest_unsigned.ensures ∙ between s.args.q s.args.k (omega arith) (omega arith) s.requires.0
