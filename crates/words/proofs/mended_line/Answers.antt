-- `words::mended_line` meets its contract. Assumes nothing.
use native.Mathlib.Omega.{arith}
use mir.Syntax.{w32, w64}
use Rattle.decimal.specs.Decimal.{spelled}
use Rattle.decimal.proofs.Lengths.{length_worded}
use Rattle.decimal.proofs.Puts.{put_then, same_room}
use Rattle.decimal.proofs.Widths.{widened}
use Rattle.words.specs.Said.{mended_line}
use Rattle.words.proofs.Lengths.{length_at_line, length_any_field}
use Rattle.words.proofs.mended_line.Goals as goal

pub put_line-after_line-requires : goal.put_line-after_line-requires
put_line-after_line-requires c = omega (arith, c.requires, length_at_line c.args.line)

pub put_worded-after_knot-requires : goal.put_worded-after_knot-requires
unfolding spelled
put_worded-after_knot-requires c =
    let p = c.put_line-after_line.ensures in
    omega (arith, c.requires, p.behind, same_room p, length_at_line c.args.line, length_worded "knot " c.args.knot)

pub put_words-next-requires : goal.put_words-next-requires
unfolding spelled
put_words-next-requires c =
    let p = c.put_line-after_line.ensures in
    let q = c.put_worded-after_knot.ensures in
    omega (arith, c.requires, p.behind, same_room p, q.behind, same_room q, length_at_line c.args.line, length_worded "knot " c.args.knot)

pub put_field-requires : goal.put_field-requires
unfolding spelled
put_field-requires c =
    let p = c.put_line-after_line.ensures in
    let q = c.put_worded-after_knot.ensures in
    let r = c.put_words-next.ensures in
    rw (widened w32 w64 tt c.ranges.new)
    (omega (arith, c.requires, p.behind, same_room p, q.behind, same_room q, r.behind, same_room r, length_at_line c.args.line, length_worded "knot " c.args.knot, length_any_field c.args.new 10))

pub returns : goal.returns
unfolding mended_line spelled
returns c =
    put_then (put_then (put_then c.put_line-after_line.ensures c.put_worded-after_knot.ensures) c.put_words-next.ensures)
    (rw (widened w32 w64 tt c.ranges.new) at c.put_field.ensures)
