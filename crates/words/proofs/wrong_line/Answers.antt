-- `words::wrong_line` meets its contract. Assumes nothing.
use native.Mathlib.Omega.{arith}
use Rattle.decimal.specs.Decimal.{spelled}
use Rattle.decimal.proofs.Puts.{put_then, same_room}
use Rattle.words.specs.declared.Table.TheVariants.{Wrongs}
use Rattle.words.specs.Said.{wrong_line}
use Rattle.words.proofs.Rows.{sentence_short}
use Rattle.words.proofs.Lengths.{length_at_line, length_shown}
use Rattle.words.proofs.wrong_line.Goals as goal

pub put_line-after_line-requires : goal.put_line-after_line-requires
put_line-after_line-requires c = omega (arith, c.requires, length_at_line c.args.line)

pub put_shown-after_word-requires : goal.put_shown-after_word-requires
put_shown-after_word-requires c =
    let p = c.put_line-after_line.ensures in
    omega (arith, c.requires, p.behind, same_room p, length_at_line c.args.line)

pub put_words-next-requires : goal.put_words-next-requires
put_words-next-requires c =
    let p = c.put_line-after_line.ensures in
    let r = c.put_shown-after_word.ensures in
    omega (arith, c.requires, p.behind, same_room p, r.behind, same_room r, length_at_line c.args.line, length_shown c.args.line c.args.word.now)

pub put_sentence-end-requires : goal.put_sentence-end-requires
put_sentence-end-requires c =
    let p = c.put_line-after_line.ensures in
    let r = c.put_shown-after_word.ensures in
    let s = c.put_words-next.ensures in
    omega (arith, c.requires, p.behind, same_room p, r.behind, same_room r, s.behind, same_room s, length_at_line c.args.line, length_shown c.args.line c.args.word.now)

pub put_byte-requires : goal.put_byte-requires
put_byte-requires c =
    let p = c.put_line-after_line.ensures in
    let r = c.put_shown-after_word.ensures in
    let s = c.put_words-next.ensures in
    let t = c.put_sentence-end.ensures in
    omega
    (arith, c.requires, p.behind, same_room p, r.behind, same_room r, s.behind, same_room s, t.behind, same_room t, length_at_line c.args.line, length_shown c.args.line c.args.word.now, sentence_short Wrongs c.args.wrong)

pub returns : goal.returns
unfolding wrong_line spelled
returns c =
    put_then
    (put_then (put_then (put_then c.put_line-after_line.ensures c.put_shown-after_word.ensures) c.put_words-next.ensures) c.put_sentence-end.ensures)
    c.put_byte.ensures
