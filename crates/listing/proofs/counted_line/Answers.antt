-- `listing::counted_line` meets its contract: four fields, and one behind them. Assumes nothing.
use native.Mathlib.Omega.{arith}
use lib.IntN.{pos}
use mir.Syntax.{w64}
use mir.Facts.{to_z_pos, to_z-of_z}
use Rattle.decimal.specs.Decimal.{field}
use Rattle.decimal.specs.Put.{Put}
use Rattle.decimal.proofs.Puts.{put_then, room_before, room_behind}
use Rattle.listing.specs.Text.{space, line_feed, four_fields, counted_line}
use Rattle.listing.proofs.counted_line.Goals as goal
use Rattle.listing.proofs.counted_line.Goals.{After-four_fields-next, Start}

pub four_fields-next-requires : goal.four_fields-next-requires
unfolding counted_line
four_fields-next-requires c =
    let a = (goal.at.four_fields-next-requires c).Start in
    rw (to_z-of_z a.ranges.y, to_z-of_z a.ranges.m, to_z-of_z a.ranges.c)
    (room_before (four_fields a.args.x a.args.y a.args.m a.args.c space) (field (pos a.args.count) line_feed) _ a.requires)

fields_put : (c : After-four_fields-next)
    → (let a = c.args in
    Put (four_fields a.x a.y a.m a.c space) a.text.now c.four_fields-next.new.text a.at c.four_fields-next.result)
fields_put c = let a = (goal.at.After-four_fields-next c).Start in rw (to_z-of_z a.ranges.y, to_z-of_z a.ranges.m, to_z-of_z a.ranges.c) at c.four_fields-next.ensures

pub put_field-requires : goal.put_field-requires
unfolding counted_line
put_field-requires c =
    let q = (goal.at.put_field-requires c).After-four_fields-next in
    let a = (goal.at.After-four_fields-next q).Start in
    rw (to_z_pos w64 {n = a.args.count} (omega (arith, a.ranges.count))) (room_behind (fields_put q) (field (pos a.args.count) line_feed) a.requires)

pub returns : goal.returns
unfolding counted_line
returns c =
    let q = (goal.at.returns c).After-four_fields-next in
    let a = (goal.at.After-four_fields-next q).Start in
    put_then (fields_put q) (rw (to_z_pos w64 {n = a.args.count} (omega (arith, a.ranges.count))) at c.put_field.ensures)
