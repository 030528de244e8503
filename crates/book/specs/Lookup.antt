-- Document 02, order 3: what testing a book and looking up a room answer. "A refusal returns zeros beside number and place" (document 01).
-- Assumes nothing.
use Rattle.std.specs.Prelude.{ℕ, ◌+◌, List, [], ◌∷◌, cond, length, ltb, eqb, Result, Ok, Err}
use Rattle.answer.specs.Answer.{Answer, refused, given, ◌then◌}
use Rattle.answer.specs.Judge.{number_of}
use Rattle.answer.specs.declared.Refusal.{Refusal}
use Rattle.card.specs.Answers.{own}
use Rattle.book.specs.Book.{Entry, long, size, ◌giving◌, book}
use Rattle.book.specs.declared.Used.{Used}
use Rattle.book.specs.declared.Spot.{Spot}

-- the bytes that a book of these rooms has in use
unfoldable pub in_use : Answer (List Entry) → Used
in_use (refused n p) = record { number = n; place = p; bytes = 0 }
in_use (given es) = record { number = 0; place = 0; bytes = size es }

-- what the code answers of them, as C is told it
abbrev pub used_of : Result Used Refusal → Used
used_of (Ok u) = u
used_of (Err e) = in_use (refused (number_of e.reason) e.place)

-- the room's card; "20, room not present"
unfoldable pub held : ℕ → List Entry → Answer (List ℕ)
held r [] = refused 20 0
held r (e ∷ es) = cond (eqb e.room r) (given e.card) (held r es)

-- "14 for the book's own records (..), then 22; lookup then 20, then that card's own, its places counted in the card"
unfoldable pub look_up : ℕ → List ℕ → Answer (List ℕ)
look_up r s = book s giving (λ es. held r es giving (λ c. own c then given c))

-- "the part of the book that holds its card (an empty part on refusal)"
unfoldable pub part : Answer (List ℕ) → List ℕ
part (refused n p) = []
part (given c) = c

-- the bytes of the records before the first whose room is not below r
unfoldable pub before : ℕ → List Entry → ℕ
before r [] = 0
before r (e ∷ es) = cond (ltb e.room r) (long e + before r es) 0

-- the rooms of a book that is accepted
unfoldable pub rooms : Answer (List Entry) → List Entry
rooms (refused n p) = []
rooms (given es) = es

-- where that part is: it starts behind its record's length, kind and room
unfoldable pub spot_at : ℕ → Answer (List ℕ) → Spot
spot_at start (refused n p) = record { number = n; place = p; start = 0; length = 0 }
spot_at start (given c) = record { number = 0; place = 0; start = start; length = length c }

unfoldable pub spot : ℕ → List ℕ → Spot
spot r s = spot_at (before r (rooms (book s)) + 6) (look_up r s)

-- what the code answers of it, as C is told it
abbrev pub spot_of : Result Spot Refusal → Spot
spot_of (Ok p) = p
spot_of (Err e) = spot_at 0 (refused (number_of e.reason) e.place)
