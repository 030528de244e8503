-- `decimal::put_field` meets its contract: a number, and a byte behind it. Assumes nothing.
use mathlib.Core.List.{[], ◌∷◌}
use native.Mathlib.Omega.{arith}
use Rattle.decimal.specs.Decimal.{signed, field}
use Rattle.decimal.proofs.Puts.{put_then, room_before, room_behind}
use Rattle.decimal.proofs.Minus.{passed}
use Rattle.decimal.proofs.put_field.Goals as goal
use Rattle.decimal.proofs.put_field.Goals.{After-put_signed-next, Start}

pub put_signed-next-requires : goal.put_signed-next-requires
unfolding field
put_signed-next-requires c =
    let a = (goal.at.put_signed-next-requires c).Start in
    rw (passed _ a.ranges.number) (room_before (signed a.args.number) (a.args.parting ∷ []) _ a.requires)

pub put_byte-requires : goal.put_byte-requires
unfolding field
put_byte-requires c =
    let a = (goal.at.put_byte-requires c).Start in
    let p = rw (passed _ a.ranges.number) at c.put_signed-next.ensures in
    omega (arith, room_behind p (a.args.parting ∷ []) a.requires)

pub returns : goal.returns
unfolding field
returns c =
    let q = (goal.at.returns c).After-put_signed-next in
    put_then (rw (passed _ q.ranges.number) at q.put_signed-next.ensures) c.put_byte.ensures
