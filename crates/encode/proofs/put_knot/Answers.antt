-- `encode::put_knot` meets its contract: its stores are one run.
-- Assumes nothing.
use mathlib.Core.List.{◌++◌}
use lib.ListN.{length-append}
use mir.Syntax.{w16, w32}
use mir.Facts.{to_z-of_z}
use Rattle.little_endian.specs.Numbers.{le, signed_bytes}
use Rattle.record.specs.Record.{header}
use Rattle.little_endian.proofs.Numbers.{length_le}
use Rattle.little_endian.proofs.Signs.{length_signed}
use Rattle.little_endian.proofs.Stores.{then}
use Rattle.card_bytes.specs.Bytes.{knot_bytes}
use borrow.Author.Rules.{rules}
use Rattle.encode.proofs.put_knot.Goals as goal
use Rattle.encode.proofs.put_knot.Goals.{After-write_i16, After-write_i32, After-write_i32-2, After-write_u16, After-write_u16-2, After-write_u16-3}

pub returns : goal.returns
unfolding knot_bytes header
returns c =
    let e6 = (goal.at.returns c).After-write_i32-2 in
    let e5 = (goal.at.After-write_i32-2 e6).After-write_i32 in
    let e4 = (goal.at.After-write_i32 e5).After-write_i16 in
    let e3 = (goal.at.After-write_i16 e4).After-write_u16-3 in
    let e2 = (goal.at.After-write_u16-3 e3).After-write_u16-2 in
    let e1 = (goal.at.After-write_u16-2 e2).After-write_u16 in
    let a = e1.args in
    let f = e1.ranges in
    let d = a.buffer.now in
    let h = le 2 12 ++ le 2 2 in
    let hx = h ++ le 2 a.x in
    let hy = hx ++ signed_bytes w16 a.y in
    let hm = hy ++ signed_bytes w32 a.m in
    let p2 = then d a.at (le 2 12) (le 2 2) 2 (length_le 2 12) e1.write_u16.ensures e2.write_u16-2.ensures in
    let p3 = then d a.at h (le 2 a.x) 4 (simp (length-append, length_le)) p2 e3.write_u16-3.ensures in
    let p4 = then d a.at hx (signed_bytes w16 a.y) 6 (simp (length-append, length_le)) p3 (rw (to_z-of_z f.y) at e4.write_i16.ensures) in
    let p5 = then d a.at hy (signed_bytes w32 a.m) 8 (simp (length-append, length_le, length_signed)) p4 (rw (to_z-of_z f.m) at e5.write_i32.ensures) in
    then d a.at hm (signed_bytes w32 a.c) 12 (simp (length-append, length_le, length_signed)) p5 (rw (to_z-of_z f.c) at e6.write_i32-2.ensures)
