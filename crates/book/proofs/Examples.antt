-- A sound book as literal bytes, computed: two rooms and the closing record, read and made. Document 02,
-- order 3. Assumes nothing.
use mathlib.Core.Path.{◌≡◌, refl}
use mathlib.Core.List.{List, [], ◌∷◌}
use Prim.Native.Nat.{ℕ}
use Rattle.answer.specs.Answer.{refused, given, ◌then◌, refuse}
use Rattle.little_endian.specs.Numbers.{le, un, num_at}
use Rattle.record.specs.Record.{header, is_at}
use Rattle.book.specs.Book.{Entry, entry_bytes, book_bytes, closes, holds, entry_at, ◌giving◌, scan, rising, book}

-- length, kind and room, two bytes each with the low one first, then the card
abbrev bytes : List ℕ
bytes = 3 ∷ 0 ∷ 5 ∷ 0 ∷ 4 ∷ 0 ∷ 77 ∷ 4 ∷ 0 ∷ 5 ∷ 0 ∷ 2 ∷ 1 ∷ 88 ∷ 99 ∷ 0 ∷ 0 ∷ 3 ∷ 0 ∷ []

abbrev rooms : List Entry
rooms = record { room = 4; card = 77 ∷ [] } ∷ record { room = 258; card = 88 ∷ 99 ∷ [] } ∷ []

-- and with another kind in its second record it is none
pub literal : (book bytes ≡ given rooms) × (book_bytes rooms ≡ bytes)
    × (book (3 ∷ 0 ∷ 5 ∷ 0 ∷ 4 ∷ 0 ∷ 77 ∷ 4 ∷ 0 ∷ 6 ∷ 0 ∷ 2 ∷ 1 ∷ 88 ∷ 99 ∷ 0 ∷ 0 ∷ 3 ∷ 0 ∷ []) ≡ refused 14 7)
unfolding le un num_at header is_at entry_bytes book_bytes closes holds entry_at ◌giving◌ scan rising book refuse ◌then◌
literal = (refl, refl, refl)
