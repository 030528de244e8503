-- A room taken out, computed on literal bytes that were worked out apart: the first, the middle, the last and the only room; the
-- refusals in their order; what stays behind the new closing record. No card in them is one. Document 02, order 11.
-- Assumes nothing.
use Prim.Native.Nat.{ℕ}
use mathlib.Core.Path.{◌≡◌, refl}
use mathlib.Core.List.{List, [], ◌∷◌}
use Rattle.answer.specs.Answer.{◌then◌, refuse}
use Rattle.little_endian.specs.Numbers.{le, un, num_at}
use Rattle.record.specs.Record.{header, is_at}
use Rattle.book.specs.Book.{entry_bytes, book_bytes, size, closes, holds, entry_at, ◌giving◌, scan, rising, book}
use Rattle.book.specs.Lookup.{in_use, held}
use Rattle.book.specs.declared.Used.{Used}
use Rattle.book_put.specs.Put.{after}
use Rattle.book_remove.specs.Remove.{without, remove}

-- rooms 7, 9 and 258, the closing record, and two bytes behind it
abbrev three : List ℕ
three = 3 ∷ 0 ∷ 5 ∷ 0 ∷ 7 ∷ 0 ∷ 1 ∷ 4 ∷ 0 ∷ 5 ∷ 0 ∷ 9 ∷ 0 ∷ 2 ∷ 3 ∷ 2 ∷ 0 ∷ 5 ∷ 0 ∷ 2 ∷ 1 ∷ 0 ∷ 0 ∷ 3 ∷ 0 ∷ 255 ∷ 254 ∷ []

-- what a removal answers and leaves
abbrev out : ℕ → List ℕ → Used × List ℕ
out r s = (in_use (remove r s), after (remove r s) s)

abbrev used : ℕ → Used
used n = record { number = 0; place = 0; bytes = n }

-- the number and the place, and the bytes as they were
abbrev refuses : ℕ → ℕ → List ℕ → Used × List ℕ
refuses n p s = (record { number = n; place = p; bytes = 0 }, s)

-- two records of room 9, and room 9 before room 7
abbrev twice : List ℕ
twice = 2 ∷ 0 ∷ 5 ∷ 0 ∷ 9 ∷ 0 ∷ 2 ∷ 0 ∷ 5 ∷ 0 ∷ 9 ∷ 0 ∷ 0 ∷ 0 ∷ 3 ∷ 0 ∷ []

abbrev falling : List ℕ
falling = 2 ∷ 0 ∷ 5 ∷ 0 ∷ 9 ∷ 0 ∷ 2 ∷ 0 ∷ 5 ∷ 0 ∷ 7 ∷ 0 ∷ 0 ∷ 0 ∷ 3 ∷ 0 ∷ []

pub examples :
    (out 7 three ≡ (used 18, 4 ∷ 0 ∷ 5 ∷ 0 ∷ 9 ∷ 0 ∷ 2 ∷ 3 ∷ 2 ∷ 0 ∷ 5 ∷ 0 ∷ 2 ∷ 1 ∷ 0 ∷ 0 ∷ 3 ∷ 0 ∷ 0 ∷ 2 ∷ 1 ∷ 0 ∷ 0 ∷ 3 ∷ 0 ∷ 255 ∷ 254 ∷ []))
    × (out 9 three ≡ (used 17, 3 ∷ 0 ∷ 5 ∷ 0 ∷ 7 ∷ 0 ∷ 1 ∷ 2 ∷ 0 ∷ 5 ∷ 0 ∷ 2 ∷ 1 ∷ 0 ∷ 0 ∷ 3 ∷ 0 ∷ 5 ∷ 0 ∷ 2 ∷ 1 ∷ 0 ∷ 0 ∷ 3 ∷ 0 ∷ 255 ∷ 254 ∷ []))
    × (out 258 three ≡ (used 19, 3 ∷ 0 ∷ 5 ∷ 0 ∷ 7 ∷ 0 ∷ 1 ∷ 4 ∷ 0 ∷ 5 ∷ 0 ∷ 9 ∷ 0 ∷ 2 ∷ 3 ∷ 0 ∷ 0 ∷ 3 ∷ 0 ∷ 2 ∷ 1 ∷ 0 ∷ 0 ∷ 3 ∷ 0 ∷ 255 ∷ 254 ∷ []))
    × (out 7 (3 ∷ 0 ∷ 5 ∷ 0 ∷ 7 ∷ 0 ∷ 1 ∷ 0 ∷ 0 ∷ 3 ∷ 0 ∷ 255 ∷ []) ≡ (used 4, 0 ∷ 0 ∷ 3 ∷ 0 ∷ 7 ∷ 0 ∷ 1 ∷ 0 ∷ 0 ∷ 3 ∷ 0 ∷ 255 ∷ []))
    × (out 8 three ≡ refuses 20 0 three)
    × (out 2 three ≡ refuses 20 0 three)
    × (out 0 (0 ∷ 0 ∷ 3 ∷ 0 ∷ []) ≡ refuses 20 0 (0 ∷ 0 ∷ 3 ∷ 0 ∷ []))
    × (out 0 [] ≡ refuses 14 0 [])
    × (out 7 (3 ∷ 0 ∷ 5 ∷ 0 ∷ 7 ∷ 0 ∷ 1 ∷ 0 ∷ 0 ∷ 4 ∷ 0 ∷ []) ≡ refuses 14 7 (3 ∷ 0 ∷ 5 ∷ 0 ∷ 7 ∷ 0 ∷ 1 ∷ 0 ∷ 0 ∷ 4 ∷ 0 ∷ []))
    × (out 9 twice ≡ refuses 22 6 twice)
    × (out 8 falling ≡ refuses 22 6 falling)
unfolding le un num_at header is_at entry_bytes book_bytes size closes holds entry_at ◌giving◌ scan rising book in_use held after without remove refuse ◌then◌
examples = (refl, refl, refl, refl, refl, refl, refl, refl, refl, refl, refl)
