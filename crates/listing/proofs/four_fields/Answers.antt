-- `listing::four_fields` meets its contract: the fields, one behind the other. Assumes nothing.
use Prim.Native.Nat.{◌+◌, ◌≤◌}
use mathlib.Core.List.{◌++◌}
use native.Mathlib.Omega.{arith}
use lib.IntN.{pos}
use lib.ListN.{length}
use mir.Syntax.{w32, w64}
use mir.Facts.{to_z_pos}
use Rattle.decimal.specs.Put.{Put}
use Rattle.decimal.specs.Decimal.{field}
use Rattle.listing.specs.Text.{space, four_fields}
use Rattle.decimal.proofs.Puts.{put_then, room_before, room_behind}
use Rattle.decimal.proofs.Widths.{wide, widened}
use Rattle.listing.proofs.four_fields.Goals as goal
use Rattle.listing.proofs.four_fields.Goals.{After-put_field-after_m, After-put_field-after_x, After-put_field-after_y, Start}

by_x : (c : After-put_field-after_x)
    → (let a = c.args in
    Put (field (pos a.x) space) a.text.now c.put_field-after_x.new.text a.at c.put_field-after_x.result)
by_x c =
    let a = (goal.at.After-put_field-after_x c).Start in
    rw (to_z_pos w64 {n = a.args.x} (omega (arith, a.ranges.x))) at c.put_field-after_x.ensures

by_y : (c : After-put_field-after_y)
    → (let a = c.args in
    Put (field (pos a.x) space ++ field a.y space) a.text.now c.put_field-after_y.new.text a.at c.put_field-after_y.result)
by_y c =
    put_then (by_x (goal.at.After-put_field-after_y c).After-put_field-after_x) (rw (widened w32 w64 tt c.ranges.y) at c.put_field-after_y.ensures)

by_m : (c : After-put_field-after_m)
    → (let a = c.args in
    Put (field (pos a.x) space ++ field a.y space ++ field a.m space) a.text.now c.put_field-after_m.new.text a.at c.put_field-after_m.result)
by_m c =
    put_then (by_y (goal.at.After-put_field-after_m c).After-put_field-after_y) (rw (widened w32 w64 tt c.ranges.m) at c.put_field-after_m.ensures)

room_before_c : (c : Start)
    → (let a = c.args in
    a.at + length (field (pos a.x) space ++ field a.y space ++ field a.m space) ≤ length a.text.now)
unfolding four_fields
room_before_c c =
    let a = c.args in
    room_before (field (pos a.x) space ++ field a.y space ++ field a.m space) (field a.c a.last) a.at c.requires

room_before_m : (c : Start)
    → (let a = c.args in
    a.at + length (field (pos a.x) space ++ field a.y space) ≤ length a.text.now)
room_before_m c =
    let a = c.args in
    room_before (field (pos a.x) space ++ field a.y space) (field a.m space) a.at (room_before_c c)

pub put_field-after_x-requires : goal.put_field-after_x-requires
put_field-after_x-requires c =
    let a = (goal.at.put_field-after_x-requires c).Start in
    let x = a.args.x in
    rw (to_z_pos w64 {n = x} (omega (arith, a.ranges.x)))
    (room_before (field (pos x) space) (field a.args.y space) a.args.at (room_before_m a))

pub overflow_cast-y : goal.overflow_cast-y
overflow_cast-y c = wide w32 w64 tt c.ranges.y

pub put_field-after_y-requires : goal.put_field-after_y-requires
put_field-after_y-requires c =
    let q = (goal.at.put_field-after_y-requires c).After-put_field-after_x in
    let a = (goal.at.After-put_field-after_x q).Start in
    rw (widened w32 w64 tt a.ranges.y) (room_behind (by_x q) (field a.args.y space) (room_before_m a))

pub overflow_cast-m : goal.overflow_cast-m
overflow_cast-m c = wide w32 w64 tt c.ranges.m

pub put_field-after_m-requires : goal.put_field-after_m-requires
put_field-after_m-requires c =
    let q = (goal.at.put_field-after_m-requires c).After-put_field-after_y in
    let a = (goal.at.After-put_field-after_y q).Start in
    rw (widened w32 w64 tt a.ranges.m) (room_behind (by_y q) (field a.args.m space) (room_before_c a))

pub overflow_cast-c : goal.overflow_cast-c
overflow_cast-c c = wide w32 w64 tt c.ranges.c

pub put_field-requires : goal.put_field-requires
unfolding four_fields
put_field-requires c =
    let q = (goal.at.put_field-requires c).After-put_field-after_m in
    let a = (goal.at.After-put_field-after_m q).Start in
    rw (widened w32 w64 tt a.ranges.c) (room_behind (by_m q) (field a.args.c a.args.last) a.requires)

pub returns : goal.returns
unfolding four_fields
returns c =
    let q = (goal.at.returns c).After-put_field-after_m in
    put_then (by_m q) (rw (widened w32 w64 tt q.ranges.c) at c.put_field.ensures)
