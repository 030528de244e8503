-- Document 02, order 3: "A writer puts a card in for a room or replaces the one there." The rooms afterwards, the refusals, and what the lent buffer then holds.
-- Assumes nothing.
use Rattle.std.specs.Prelude.{◌≡◌, ℕ, List, [], ◌∷◌, ◌++◌, ◌||◌, cond, length, drop, ltb, eqb}
use Rattle.answer.specs.Answer.{Answer, refused, given, ◌then◌, refuse}
use Rattle.card.specs.Answers.{own}
use Rattle.book.specs.Book.{Entry, book_bytes, size, most, ◌giving◌, book}
use Rattle.book.specs.Lookup.{in_use}
use Rattle.book.specs.declared.Used.{Used}

abbrev pub entry : ℕ → List ℕ → Entry
entry r c = record { room = r; card = c }

-- before the first room that is above it, or in place of the one of its number
unfoldable pub put_in : Entry → List Entry → List Entry
put_in d [] = d ∷ []
put_in d (e ∷ es) = cond (ltb e.room d.room) (e ∷ put_in d es) (d ∷ cond (eqb e.room d.room) es (e ∷ es))

-- "21, given exactly when the book it would make is over the limit or over the lent buffer"; the rooms of the new book
unfoldable pub made : Entry → (lent : ℕ) → List Entry → Answer (List Entry)
made d lent es = let bytes = size (put_in d es) in refuse 21 0 (ltb most bytes || ltb lent bytes) then given (put_in d es)

-- "14 for the book's own records (..), then 22; (..) putting in then the new card's own, then 21"
unfoldable pub put : ℕ → List ℕ → List ℕ → Answer (List Entry)
put r c s = book s giving (λ es. own c then made (entry r c) (length s) es)

-- the new book's bytes over the front of the buffer: "what lies behind its closing record is not part of it", and is not written
unfoldable pub after : Answer (List Entry) → List ℕ → List ℕ
after (refused n p) s = s
after (given es) s = book_bytes es ++ drop (size es) s

-- what is left to the caller: the answer, and the buffer at exit
pub record Puts (a : Answer (List Entry)) (entry exit : List ℕ) (r : Used) : Type 0 where
  pub answer : r ≡ in_use a
  pub buffer : exit ≡ after a entry
