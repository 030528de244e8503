-- Document 02, order 11: a room taken out of a book, "later records moving up". The rooms afterwards, and the refusals.
-- What is left to the caller, answer and buffer, is said as it is of a put, by order 3's `Puts`. Assumes nothing.
use Rattle.std.specs.Prelude.{ℕ, List, [], ◌∷◌, cond, eqb}
use Rattle.answer.specs.Answer.{Answer, given}
use Rattle.book.specs.Book.{Entry, ◌giving◌, book}
use Rattle.book.specs.Lookup.{held}

-- every room but r
unfoldable pub without : ℕ → List Entry → List Entry
without r [] = []
without r (e ∷ es) = cond (eqb e.room r) (without r es) (e ∷ without r es)

-- 14 and 22 as ever, then "20, for a room not there"; no card is tested, neither the one that goes nor those that stay
unfoldable pub remove : ℕ → List ℕ → Answer (List Entry)
remove r s = book s giving (λ es. held r es giving (λ c. given (without r es)))
