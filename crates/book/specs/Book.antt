-- Document 02, order 3, "One book for the rooms": a list of rooms, its bytes, and the rooms that bytes hold, with the refusals 14 and 22.
-- Assumes nothing.
use Rattle.std.specs.Prelude.{ℕ, zero, suc, ◌+◌, ◌-◌, List, [], ◌∷◌, ◌++◌, Bool, ◌&&◌, cond, length, take, drop, ltb, leb}
use Rattle.answer.specs.Answer.{Answer, refused, given, Verdict, accepted, ◌then◌, refuse}
use Rattle.little_endian.specs.Numbers.{le, num_at}
use Rattle.record.specs.Record.{header, is_at}

-- ---- rooms, and their bytes

-- a room's number, and its card's bytes
pub record Entry : Type 0 where
  pub room : ℕ
  pub card : List ℕ

-- "records of kind 5, each body a two-byte room number followed by that room's card bytes"
unfoldable pub entry_bytes : Entry → List ℕ
entry_bytes e = header 5 (2 + length e.card) ++ le 2 e.room ++ e.card

-- "closed by a kind 3 record"
unfoldable pub book_bytes : List Entry → List ℕ
book_bytes [] = header 3 0
book_bytes (e ∷ es) = entry_bytes e ++ book_bytes es

-- how many a room's record has
abbrev pub long : Entry → ℕ
long e = 6 + length e.card

-- how many a book has in use
unfoldable pub size : List Entry → ℕ
size [] = 4
size (e ∷ es) = long e + size es

-- ---- the rooms that bytes hold

-- "A book is at most 16,384 bytes"
abbrev pub most : ℕ
most = 16384

-- the offset behind the record at `at`
abbrev pub next : List ℕ → ℕ → ℕ
next s at = at + (4 + num_at 2 s at)

-- a closing record stands at `at`, and not past the limit
unfoldable pub closes : List ℕ → ℕ → Bool
closes s at = is_at s at 3 0 && leb (at + 4) most

-- a room's record stands at `at`, of a body not "under 2 bytes", and not "ending past 16,384"
unfoldable pub holds : List ℕ → ℕ → Bool
holds s at = is_at s at 5 (num_at 2 s at) && (leb 2 (num_at 2 s at) && leb (next s at) most)

-- its room, and its card
unfoldable pub entry_at : List ℕ → ℕ → Entry
entry_at s at = record { room = num_at 2 s (at + 4); card = take (num_at 2 s at - 2) (drop (at + 6) s) }

-- what follows where something is given; a refusal stands
infixl 15 ◌giving◌
unfoldable pub ◌giving◌ : {A B : Type 0} → Answer A → (A → Answer B) → Answer B
refused n p giving f = refused n p
given a giving f = f a

-- the rooms of the records from `at` on, up to the closing one: what lies behind that is not looked at. 14 at the first record that is none of a book's, or is missing.
-- k bounds the records: there are no more of them than bytes.
unfoldable pub scan : List ℕ → ℕ → ℕ → Answer (List Entry)
scan s zero at = refused 14 at
scan s (suc k) at =
    cond (closes s at) (given [])
    (cond (holds s at) (scan s k (next s at) giving λ es. given (entry_at s at ∷ es))
    (refused 14 at))

-- 22, "rooms not rising, at the offset": the first room below `low`, which is one more than the room before
unfoldable pub rising : ℕ → ℕ → List Entry → Verdict
rising low at [] = accepted
rising low at (e ∷ es) = refuse 22 at (ltb e.room low) then rising (suc e.room) (at + long e) es

-- "14 for the book's own records", all of them, "then 22"
unfoldable pub book : List ℕ → Answer (List Entry)
book s = scan s (length s) 0 giving λ es. rising 0 0 es then given es
