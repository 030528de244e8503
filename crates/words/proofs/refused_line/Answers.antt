-- `words::refused_line` meets its contract. Assumes nothing.
use native.Mathlib.Omega.{arith}
use Rattle.decimal.proofs.Puts.{put_then, same_room}
use Rattle.words.specs.Said.{refused_line}
use Rattle.words.proofs.Lengths.{length_at_line, length_at_place}
use Rattle.words.proofs.refused_line.Goals as goal
use Rattle.words.proofs.refused_line.Goals.{Start}

pub put_line-after_line-requires : goal.put_line-after_line-requires
put_line-after_line-requires c = omega (arith, c.requires, length_at_line c.args.line)

pub put_place-after_place-requires : goal.put_place-after_place-requires
put_place-after_place-requires c =
    let p = c.put_line-after_line.ensures in
    let a = (goal.at.put_place-after_place-requires c).Start in
    omega (arith, a.requires, p.behind, same_room p, length_at_line a.args.line)

pub put_refused-requires : goal.put_refused-requires
put_refused-requires c =
    let p = c.put_line-after_line.ensures in
    let r = c.put_place-after_place.ensures in
    let a = (goal.at.put_refused-requires c).Start in
    omega (arith, a.requires, p.behind, same_room p, r.behind, same_room r, length_at_line a.args.line, length_at_place a.args.number a.args.place a.args.line)

pub returns : goal.returns
unfolding refused_line
returns c = put_then (put_then c.put_line-after_line.ensures c.put_place-after_place.ensures) c.put_refused.ensures
