-- `Lists::curve` asks only what its lists keep.
-- Assumes nothing.
use Prim.Native.Nat.{◌+◌}
use native.Mathlib.Nat.{le_refl, le_of_lt}
use lib.ListN.{get_or}
use Rattle.lists.specs.Lists.{InPlace}
use Rattle.lists.proofs.Settled.{minutes_rise, settled_minute, settled_gap, gap_signed}
use Rattle.lists.proofs.Lists.curve.Goals as goal
use Rattle.lists.proofs.Lists.curve.Goals.{Start, After-knot-2}

pub overflow_sub-h : goal.overflow_sub-h
overflow_sub-h c = le_of_lt (minutes_rise c.args.self.checked c.args.i c.requires)

-- the last minute of the gap
last : (c : After-knot-2) → (let xs = c.args.self.minutes.now in InPlace xs c.args.i (get_or xs (c.args.i + 1) 0))
last c = record { inside = c.requires; from = le_of_lt (minutes_rise c.args.self.checked c.args.i c.requires); to = le_refl _ }

pub of-requires-clause-in_gap : goal.of-requires-clause-in_gap
of-requires-clause-in_gap c = rw (gap_signed c.args.self.checked c.args.i _ (last c)) (settled_minute c.args.self.checked c.args.i _ (last c))

pub of-requires-clause-tame : goal.of-requires-clause-tame
of-requires-clause-tame c = rw (gap_signed c.args.self.checked c.args.i _ (last c), c.knot.ensures, c.knot-2.ensures) (settled_gap c.args.self.checked c.args.i _ (last c))
