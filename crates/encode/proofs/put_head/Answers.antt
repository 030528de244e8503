-- `encode::put_head` meets its contract: its stores are one run.
-- Assumes nothing.
use mathlib.Core.List.{◌++◌}
use lib.ListN.{length-append}
use Rattle.little_endian.specs.Numbers.{le}
use Rattle.record.specs.Record.{header}
use Rattle.little_endian.proofs.Numbers.{length_le}
use Rattle.little_endian.proofs.Stores.{then}
use Rattle.card_bytes.specs.Bytes.{head_bytes}
use borrow.Author.Rules.{rules}
use Rattle.encode.proofs.put_head.Goals as goal
use Rattle.encode.proofs.put_head.Goals.{After-write_u16, After-write_u16-2, After-write_u16-3, After-write_u16-4, After-write_u16-5}

pub returns : goal.returns
unfolding head_bytes header
returns c =
    let e5 = (goal.at.returns c).After-write_u16-5 in
    let e4 = (goal.at.After-write_u16-5 e5).After-write_u16-4 in
    let e3 = (goal.at.After-write_u16-4 e4).After-write_u16-3 in
    let e2 = (goal.at.After-write_u16-3 e3).After-write_u16-2 in
    let e1 = (goal.at.After-write_u16-2 e2).After-write_u16 in
    let a = e1.args in
    let d = a.buffer.now in
    let h = le 2 6 ++ le 2 a.head in
    let p2 = then d 0 (le 2 6) (le 2 a.head) 2 (length_le 2 6) e1.write_u16.ensures e2.write_u16-2.ensures in
    let p3 = then d 0 h (le 2 a.n) 4 (simp (length-append, length_le)) p2 e3.write_u16-3.ensures in
    let p4 = then d 0 (h ++ le 2 a.n) (le 2 a.left) 6 (simp (length-append, length_le)) p3 e4.write_u16-4.ensures in
    then d 0 (h ++ le 2 a.n ++ le 2 a.left) (le 2 a.right) 8 (simp (length-append, length_le)) p4 e5.write_u16-5.ensures
