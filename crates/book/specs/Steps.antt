-- What the steps inside the book's functions answer. Document 02, order 3.
-- Assumes nothing.
use Rattle.std.specs.Prelude.{ℕ, ◌+◌, ◌-◌, List, [], ◌∷◌, cond, ltb, eqb, Result, Ok, Err}
use Rattle.answer.specs.Answer.{Answer, refused, given}
use Rattle.answer.specs.Judge.{number_of}
use Rattle.answer.specs.declared.Refusal.{Refusal}
use Rattle.little_endian.specs.Numbers.{num_at}
use Rattle.book.specs.Book.{Entry, long, size, next, closes, holds, ◌giving◌, book}
use Rattle.book.specs.Lookup.{before}
use Rattle.book.specs.declared.Step.{Step}
use Rattle.book.specs.declared.Step.TheVariants.{Room, Close, Wrong}
use Rattle.book.specs.declared.Slot.{Slot}

-- what may stand at an offset: a room's record, with its room and the offset behind it; or the closing record
pub data Standing : Type 0 where
  room : ℕ → ℕ → Standing
  close : Standing

-- a step in the paper's number and values: "14 for the book's own records", at their offset
abbrev pub step_of : ℕ → Step → Answer Standing
step_of at (Room number behind) = given (room number behind)
step_of at Close = given close
step_of at Wrong = refused 14 at

unfoldable pub step_at : List ℕ → ℕ → Answer Standing
step_at s at = cond (closes s at) (given close) (cond (holds s at) (given (room (num_at 2 s (at + 4)) (next s at))) (refused 14 at))

-- ---- what a walk has met

abbrev pub nothing_met : Slot
nothing_met = record { bytes = 0; at = 0; size = 0 }

-- past the record of a room `here`, which ends at `behind`, where r is looked for
unfoldable pub past : (r here behind : ℕ) → Slot → Slot
past r here behind s = record { bytes = behind; at = cond (ltb here r) behind s.at; size = cond (eqb here r) (behind - s.bytes) s.size }

-- past the closing record
unfoldable pub closed : Slot → Slot
closed s = record { bytes = s.bytes + 4; at = s.at; size = s.size }

-- ---- what it has met in the end

-- the bytes of the room's record, in rising rooms; none where it is not there
unfoldable pub there : ℕ → List Entry → ℕ
there r [] = 0
there r (e ∷ es) = cond (ltb e.room r) (there r es) (cond (eqb e.room r) (long e) 0)

-- the bytes in use; where the room's record stands or would stand; its bytes there
abbrev pub slot : ℕ → List Entry → Slot
slot r es = record { bytes = size es; at = before r es; size = there r es }

abbrev pub walked_of : Result Slot Refusal → Answer Slot
walked_of (Ok s) = given s
walked_of (Err e) = refused (number_of e.reason) e.place

-- "14 for the book's own records (..), then 22"
unfoldable pub walked : ℕ → List ℕ → Answer Slot
walked r s = book s giving λ es. given (slot r es)
