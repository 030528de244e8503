-- `decimal::put_signed` meets its contract, by the sign. Assumes nothing.
use mathlib.Core.List.{[], ◌∷◌}
use native.Mathlib.Omega.{arith}
use lib.IntN.{nat_abs}
use Rattle.decimal.specs.Decimal.{decimal, minus}
use Rattle.decimal.proofs.Puts.{put_then, room_before, room_behind}
use Rattle.decimal.proofs.Minus.{passed, negative, not_negative}
use Rattle.decimal.proofs.put_signed.Goals as goal
use Rattle.decimal.proofs.put_signed.Goals.{After-magnitude-2, After-put_byte-next, Start}

pub put_byte-next-requires : goal.put_byte-next-requires
put_byte-next-requires c =
    let a = (goal.at.put_byte-next-requires c).Start in
    let t = (negative _ a.ranges.number c.if-number-lt0.true) in
    omega (arith, room_before (minus ∷ []) (decimal (nat_abs a.args.number)) a.args.at (rw t at a.requires))

pub put_decimal-requires : goal.put_decimal-requires
put_decimal-requires c =
    let q = (goal.at.put_decimal-requires c).After-put_byte-next in
    let a = (goal.at.After-put_byte-next q).Start in
    let f = a.ranges.number in
    let t = (negative _ f q.if-number-lt0.true) in
    rw (c.magnitude.ensures, passed _ f) (room_behind q.put_byte-next.ensures (decimal (nat_abs a.args.number)) (rw t at a.requires))

pub returns-then-number-lt0 : goal.returns-then-number-lt0
returns-then-number-lt0 c =
    let q = (goal.at.returns-then-number-lt0 c).After-put_byte-next in
    let a = (goal.at.After-put_byte-next q).Start in
    let f = a.ranges.number in
    rw ((negative _ f q.if-number-lt0.true), ← passed _ f, ← c.magnitude.ensures)
    (put_then q.put_byte-next.ensures c.put_decimal.ensures)

pub put_decimal-requires-2 : goal.put_decimal-requires-2
put_decimal-requires-2 c =
    let a = (goal.at.put_decimal-requires-2 c).Start in
    let f = a.ranges.number in
    rw (c.magnitude-2.ensures, passed _ f, ← not_negative _ f c.if-number-lt0.false) a.requires

pub returns : goal.returns
returns c =
    let m = (goal.at.returns c).After-magnitude-2 in
    let a = (goal.at.After-magnitude-2 m).Start in
    let f = a.ranges.number in
    rw (not_negative _ f m.if-number-lt0.false, ← passed _ f, ← m.magnitude-2.ensures) c.put_decimal-2.ensures
