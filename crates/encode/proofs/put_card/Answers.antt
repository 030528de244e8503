-- `encode::put_card` meets its contract: head, knots and end are one run.
-- Assumes nothing.
use Prim.Native.Nat.{◌*◌, ◌-◌, ◌≤◌}
use mathlib.Core.Path.{◌≡◌, refl}
use mathlib.Core.List.{◌++◌}
use native.Mathlib.Omega.{arith}
use lib.ListN.{length, get_or}
use lib.IntN.{pos}
use lib.Seq.{sets}
use mir.Syntax.{w16, w32}
use Rattle.little_endian.proofs.Signs.{passed}
use Rattle.little_endian.proofs.Stores.{then}
use Rattle.curve.specs.Card.{knots, knot}
use Rattle.knots.specs.Lent.{card_lent}
use Rattle.card_bytes.specs.Bytes.{head_bytes, end_bytes, rows, knot_row, bytes_of}
use Rattle.card_bytes.specs.Held.{start}
use Rattle.card_bytes.proofs.Rows.{rows_more}
use Rattle.card_bytes.proofs.Sizes.{length_head, length_knots}
use borrow.Author.Rules.{rules}
use mir.Val.{to_z, of_z}
use Rattle.encode.proofs.put_card.Goals as goal
use Rattle.encode.proofs.put_card.Goals.{After-put_knot, At-loop-row}

pub loop-row-init : goal.loop-row-init
unfolding rows
loop-row-init c = (omega arith, refl, refl)

pub loop-row-preserved : goal.loop-row-preserved
unfolding knot_row knot
loop-row-preserved c =
    let e = (goal.at.loop-row-preserved c).After-put_knot in
    let l = (goal.at.loop-row-preserved c).At-loop-row in
    let a = l.args in
    let i = l.loop-row.row in
    let k = card_lent a.card in
    let y : to_z w16 (of_z w16 (get_or k.ordinates i (pos 0))) ≡ get_or k.ordinates i (pos 0) = search rules in
    let m : to_z w32 (of_z w32 (get_or k.slopes i (pos 0))) ≡ get_or k.slopes i (pos 0) = search rules in
    let M : to_z w32 (of_z w32 (get_or k.curvatures i (pos 0))) ≡ get_or k.curvatures i (pos 0) = search rules in
    let q : e.put_knot.new.buffer ≡ sets l.loop-row.buffer (start i) (knot_row k i) = rw (y, m, M) at e.put_knot.ensures in (
      omega arith,
      omega arith,
      rw (rows_more (knot_row k) i) (then l.put_head.new.buffer 10 (rows (knot_row k) 0 i) (knot_row k i) (16 * i) (length_knots k i) l.loop-row.invariant.2 q),
    )

pub returns : goal.returns
unfolding bytes_of knots
returns c =
    let l = (goal.at.returns c).At-loop-row in
    let a = l.args in
    let n = length a.card.minutes.now in
    let k = card_lent a.card in
    let e : l.loop-row.row ≡ n = omega arith in
    let h = l.put_head in
    let p : l.loop-row.buffer ≡ sets h.new.buffer 10 (rows (knot_row k) 0 n) = rw e at l.loop-row.invariant.2 in
    then a.buffer.now 0 (head_bytes a.kind.head n a.card.left a.card.right) (rows (knot_row k) 0 n ++ end_bytes) 10 (length_head a.kind.head n a.card.left a.card.right) h.ensures
    (then h.new.buffer 10 (rows (knot_row k) 0 n) end_bytes (16 * n) (length_knots k n) p c.put_end.ensures)
