-- `encode::put_end` meets its contract: its stores are one run.
-- Assumes nothing.
use Rattle.little_endian.specs.Numbers.{le}
use Rattle.record.specs.Record.{header}
use Rattle.little_endian.proofs.Numbers.{length_le}
use Rattle.little_endian.proofs.Stores.{then}
use Rattle.card_bytes.specs.Bytes.{end_bytes}
use borrow.Author.Rules.{rules}
use Rattle.encode.proofs.put_end.Goals as goal

pub returns : goal.returns
unfolding end_bytes header
returns c =
    let a = c.args in
    then a.buffer.now a.at (le 2 0) (le 2 3) 2 (length_le 2 0) c.write_u16.ensures c.write_u16-2.ensures
