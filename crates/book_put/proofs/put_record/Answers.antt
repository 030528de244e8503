-- `book_put::put_record` meets its contract: length, kind, room and card are one run. Assumes nothing.
use Prim.Native.Nat.{◌+◌}
use mathlib.Core.List.{◌++◌}
use lib.ListN.{length, length-append}
use Rattle.little_endian.specs.Numbers.{le}
use Rattle.little_endian.proofs.Numbers.{length_le}
use Rattle.little_endian.proofs.Stores.{then}
use Rattle.record.specs.Record.{header}
use Rattle.book.specs.Book.{entry_bytes}
use Rattle.book_put.proofs.put_record.Goals as goal
use Rattle.book_put.proofs.put_record.Goals.{After-copy_in, After-write_u16, After-write_u16-2, After-write_u16-3}

pub returns : goal.returns
unfolding entry_bytes header
returns c =
    let e = (goal.at.returns c).After-copy_in in
    let third = (goal.at.After-copy_in e).After-write_u16-3 in
    let second = (goal.at.After-write_u16-3 third).After-write_u16-2 in
    let first = (goal.at.After-write_u16-2 second).After-write_u16 in
    let a = first.args in
    let s = a.buffer.now in
    let n = le 2 (2 + length a.card.now) in
    let p = then s a.at n (le 2 5) 2 (length_le 2 (2 + length a.card.now)) first.write_u16.ensures second.write_u16-2.ensures in
    let q = then s a.at (n ++ le 2 5) (le 2 a.room) 4 (simp (length-append, length_le)) p third.write_u16-3.ensures in
    then s a.at (n ++ le 2 5 ++ le 2 a.room) a.card.now 6 (simp (length-append, length_le)) q e.copy_in.ensures
