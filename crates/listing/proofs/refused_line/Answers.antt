-- `listing::refused_line` meets its contract. Assumes nothing.
use mathlib.Core.List.{[], ◌∷◌, ◌++◌}
use native.Mathlib.Omega.{arith}
use Prim.Native.Nat.{◌+◌, ◌≤◌}
use lib.ListN.{length}
use Rattle.decimal.specs.Put.{Put}
use Rattle.decimal.specs.Decimal.{spelled, worded}
use Rattle.listing.specs.Text.{line_feed, refused_line}
use Rattle.decimal.proofs.Puts.{put_then, room_before, room_behind}
use Rattle.listing.proofs.refused_line.Goals as goal
use Rattle.listing.proofs.refused_line.Goals.{After-put_worded-after_place, Start}

before_line_feed : (c : Start) → c.args.at + length (worded "refused " c.args.number ++ worded " at " c.args.place) ≤ length c.args.text.now
unfolding refused_line
before_line_feed c = room_before (worded "refused " c.args.number ++ worded " at " c.args.place) (line_feed ∷ []) c.args.at c.requires

both : (c : After-put_worded-after_place)
    → (let a = c.args in
    Put (worded "refused " a.number ++ worded " at " a.place) a.text.now c.put_worded-after_place.new.text a.at c.put_worded-after_place.result)
unfolding spelled
both c = put_then c.put_worded-after_number.ensures c.put_worded-after_place.ensures

pub put_worded-after_number-requires : goal.put_worded-after_number-requires
unfolding spelled
put_worded-after_number-requires c =
    let a = (goal.at.put_worded-after_number-requires c).Start in
    room_before (worded "refused " a.args.number) (worded " at " a.args.place) _ (before_line_feed a)

pub put_worded-after_place-requires : goal.put_worded-after_place-requires
unfolding spelled
put_worded-after_place-requires c =
    let a = (goal.at.put_worded-after_place-requires c).Start in
    room_behind c.put_worded-after_number.ensures (worded " at " a.args.place) (before_line_feed a)

pub put_byte-requires : goal.put_byte-requires
unfolding refused_line
put_byte-requires c =
    let q = (goal.at.put_byte-requires c).After-put_worded-after_place in
    omega (arith, room_behind (both q) (line_feed ∷ []) q.requires)

pub returns : goal.returns
unfolding refused_line
returns c = put_then (both (goal.at.returns c).After-put_worded-after_place) c.put_byte.ensures
