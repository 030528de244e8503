-- `words::put_refused` meets its contract. Assumes nothing.
use native.Mathlib.Omega.{arith}
use Rattle.decimal.specs.Decimal.{spelled}
use Rattle.decimal.proofs.Lengths.{length_worded}
use Rattle.decimal.proofs.Puts.{put_then, same_room}
use Rattle.words.specs.declared.Table.TheVariants.{Refusals}
use Rattle.words.specs.Said.{refused_words}
use Rattle.words.proofs.Rows.{sentence_short}
use Rattle.words.proofs.put_refused.Goals as goal

pub put_worded-after_number-requires : goal.put_worded-after_number-requires
unfolding spelled
put_worded-after_number-requires c = omega (arith, c.requires, length_worded "refused " c.args.number)

pub put_words-next-requires : goal.put_words-next-requires
unfolding spelled
put_words-next-requires c =
    let p = c.put_worded-after_number.ensures in
    omega (arith, c.requires, p.behind, same_room p, length_worded "refused " c.args.number)

pub put_sentence-end-requires : goal.put_sentence-end-requires
unfolding spelled
put_sentence-end-requires c =
    let p = c.put_worded-after_number.ensures in
    let r = c.put_words-next.ensures in
    omega (arith, c.requires, p.behind, same_room p, r.behind, same_room r, length_worded "refused " c.args.number)

pub put_byte-requires : goal.put_byte-requires
unfolding spelled
put_byte-requires c =
    let p = c.put_worded-after_number.ensures in
    let r = c.put_words-next.ensures in
    let s = c.put_sentence-end.ensures in
    omega (arith, c.requires, p.behind, same_room p, r.behind, same_room r, s.behind, same_room s, length_worded "refused " c.args.number, sentence_short Refusals c.args.number)

pub returns : goal.returns
unfolding refused_words spelled
returns c =
    put_then (put_then (put_then c.put_worded-after_number.ensures c.put_words-next.ensures) c.put_sentence-end.ensures) c.put_byte.ensures
