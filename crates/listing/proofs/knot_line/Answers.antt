-- `listing::knot_line` meets its contract: four fields, and the line's end. Assumes nothing.
use mir.Facts.{to_z-of_z}
use Rattle.listing.specs.Text.{knot_line}
use Rattle.listing.proofs.knot_line.Goals as goal
use Rattle.listing.proofs.knot_line.Goals.{Start}

pub four_fields-requires : goal.four_fields-requires
unfolding knot_line
four_fields-requires c =
    let a = (goal.at.four_fields-requires c).Start in
    rw (to_z-of_z a.ranges.y, to_z-of_z a.ranges.m, to_z-of_z a.ranges.c) a.requires

pub returns : goal.returns
unfolding knot_line
returns c =
    let a = (goal.at.returns c).Start in
    rw (to_z-of_z a.ranges.y, to_z-of_z a.ranges.m, to_z-of_z a.ranges.c) at c.four_fields.ensures
