-- `words::put_place` meets its contract. Assumes nothing.
use native.Mathlib.Omega.{arith}
use Rattle.decimal.specs.Decimal.{spelled}
use Rattle.decimal.proofs.Lengths.{length_worded}
use Rattle.decimal.proofs.Puts.{put_then, same_room}
use Rattle.words.proofs.Lengths.{length_counts, no_place, a_place, put_nothing}
use Rattle.words.proofs.put_place.Goals as goal

pub returns-then-after_kind-at : goal.returns-then-after_kind-at
returns-then-after_kind-at c =
    let p = put_nothing c.put_counts-after_kind.ensures c.if-after_kind-at.true in
    rw (no_place c.args.number c.args.place c.args.line p.0) p.1

pub put_worded-after_place-requires : goal.put_worded-after_place-requires
unfolding spelled
put_worded-after_place-requires c =
    let p = c.put_counts-after_kind.ensures in
    omega (arith, c.requires, p.behind, same_room p, length_counts c.args.number c.args.line, length_worded " " c.args.place)

pub put_words-requires : goal.put_words-requires
unfolding spelled
put_words-requires c =
    let p = c.put_counts-after_kind.ensures in
    let q = c.put_worded-after_place.ensures in
    omega (arith, c.requires, p.behind, same_room p, q.behind, same_room q, length_counts c.args.number c.args.line, length_worded " " c.args.place)

pub returns : goal.returns
unfolding spelled
returns c =
    let p = c.put_counts-after_kind.ensures in
    rw (a_place c.args.number c.args.place c.args.line (λ z. c.if-after_kind-at.false (omega (arith, p.behind))))
    (put_then (put_then p c.put_worded-after_place.ensures) c.put_words.ensures)
