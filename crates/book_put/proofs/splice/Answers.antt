-- `book_put::splice` meets its contract: what lies behind moves, then the record is stored. Assumes nothing.
use Prim.Native.Nat.{◌+◌}
use mathlib.Core.Path.{◌∙◌, ap}
use native.Mathlib.Omega.{arith}
use lib.ListN.{length}
use lib.Seq.{sets}
use Rattle.book.specs.Book.{entry_bytes}
use Rattle.book_put.specs.Put.{entry}
use Rattle.book_put.proofs.Bytes.{length_entry}
use Rattle.book_put.proofs.Splicing.{spliced_by}
use Rattle.book_put.proofs.splice.Goals as goal
use Rattle.book_put.proofs.splice.Goals.{After-put_record, After-slide}

pub returns : goal.returns
returns c =
    let e = (goal.at.returns c).After-put_record in
    let f = (goal.at.After-put_record e).After-slide in
    let a = f.args in
    let d = entry a.room a.card.now in
    e.put_record.ensures ∙ ap (λ x. sets x a.at (entry_bytes d)) f.slide.ensures
    ∙ spliced_by a.buffer.now a.at a.old a.used (entry_bytes d) (6 + length a.card.now) (length_entry d) (omega arith) (omega arith) (omega arith)
