-- A room's card in a book, untested. Document 02, order 3. Assumes nothing.
use Rattle.std.specs.Prelude.{ℕ, List}
use Rattle.answer.specs.Answer.{Answer}
use Rattle.book.specs.Book.{◌giving◌, book}
use Rattle.book.specs.Lookup.{held}

-- 14, 22, 20; its bytes, whether they pass the card's own test or not
abbrev pub card_in : ℕ → List ℕ → Answer (List ℕ)
card_in r s = book s giving held r
