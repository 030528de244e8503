-- `listing::accepted_line` meets its contract. Assumes nothing.
use mathlib.Core.List.{[], ◌∷◌}
use native.Mathlib.Omega.{arith}
use Rattle.decimal.specs.Decimal.{spelled, worded}
use Rattle.listing.specs.Text.{line_feed, ok_line}
use Rattle.decimal.proofs.Puts.{put_then, room_before, room_behind}
use Rattle.listing.proofs.accepted_line.Goals as goal

pub put_worded-next-requires : goal.put_worded-next-requires
unfolding ok_line spelled
put_worded-next-requires c = room_before (worded "ok " c.args.knots) (line_feed ∷ []) _ c.requires

pub put_byte-requires : goal.put_byte-requires
unfolding ok_line spelled
put_byte-requires c = omega (arith, room_behind c.put_worded-next.ensures (line_feed ∷ []) c.requires)

pub returns : goal.returns
unfolding ok_line spelled
returns c = put_then c.put_worded-next.ensures c.put_byte.ensures
