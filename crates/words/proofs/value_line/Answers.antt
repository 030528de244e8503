-- `words::value_line` meets its contract. Assumes nothing.
use native.Mathlib.Omega.{arith}
use Rattle.decimal.specs.Decimal.{spelled}
use Rattle.decimal.proofs.Lengths.{length_worded}
use Rattle.decimal.proofs.Puts.{put_then, same_room}
use Rattle.words.specs.Said.{value_line}
use Rattle.words.proofs.Lengths.{length_at_line}
use Rattle.words.proofs.value_line.Goals as goal

pub put_line-after_line-requires : goal.put_line-after_line-requires
put_line-after_line-requires c = omega (arith, c.requires, length_at_line c.args.line)

pub put_worded-after_place-requires : goal.put_worded-after_place-requires
unfolding spelled
put_worded-after_place-requires c =
    let p = c.put_line-after_line.ensures in
    omega (arith, c.requires, p.behind, same_room p, length_at_line c.args.line, length_worded "value " c.args.place)

pub put_words-next-requires : goal.put_words-next-requires
unfolding spelled
put_words-next-requires c =
    let p = c.put_line-after_line.ensures in
    let q = c.put_worded-after_place.ensures in
    omega (arith, c.requires, p.behind, same_room p, q.behind, same_room q, length_at_line c.args.line, length_worded "value " c.args.place)

pub put_refused-requires : goal.put_refused-requires
unfolding spelled
put_refused-requires c =
    let p = c.put_line-after_line.ensures in
    let q = c.put_worded-after_place.ensures in
    let r = c.put_words-next.ensures in
    omega (arith, c.requires, p.behind, same_room p, q.behind, same_room q, r.behind, same_room r, length_at_line c.args.line, length_worded "value " c.args.place)

pub returns : goal.returns
unfolding value_line spelled
returns c =
    put_then (put_then (put_then c.put_line-after_line.ensures c.put_worded-after_place.ensures) c.put_words-next.ensures) c.put_refused.ensures
