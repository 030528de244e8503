-- The definitions, computed: small books as one claim, and a book that ends at the limit. Document 02, order 3. Assumes nothing.
use Prim.Native.Nat.{ℕ, ◌+◌}
use mathlib.Core.Path.{◌≡◌, refl}
use mathlib.Core.List.{List, [], ◌∷◌, ◌++◌}
use lib.ListN.{replicate, length}
use Rattle.answer.specs.Answer.{refused, given, ◌then◌, refuse}
use Rattle.little_endian.specs.Numbers.{le, un, num_at}
use Rattle.record.specs.Record.{header, is_at}
use Rattle.curve.specs.Orders.{card_order}
use Rattle.curve.specs.Kind.{quintic, sloped}
use Rattle.card_bytes.specs.Records.{due, head_due, kind_by, card_verdict}
use Rattle.book.specs.Book.{Entry, entry_bytes, book_bytes, size, closes, holds, entry_at, ◌giving◌, scan, rising, book}
use Rattle.book.specs.Lookup.{held, look_up, before, rooms, spot_at, spot}
use Rattle.book.specs.declared.Spot.{Spot}
use Rattle.book_put.specs.Put.{entry, put_in, made, put, after}

-- rooms whose cards are no cards
abbrev seven : Entry
seven = entry 7 (1 ∷ [])

abbrev nine : Entry
nine = entry 9 (2 ∷ 3 ∷ [])

abbrev two : List ℕ
two = book_bytes (seven ∷ nine ∷ [])

abbrev no_spot : ℕ → ℕ → Spot
no_spot n p = record { number = n; place = p; start = 0; length = 0 }

pub examples :
    (book [] ≡ refused 14 0)
    × (book (0 ∷ 0 ∷ 3 ∷ []) ≡ refused 14 0)
    × (book (0 ∷ 0 ∷ 3 ∷ 0 ∷ []) ≡ given [])
    × (book (0 ∷ 0 ∷ 3 ∷ 0 ∷ 255 ∷ 255 ∷ []) ≡ given [])
    × (book (1 ∷ 0 ∷ 5 ∷ 0 ∷ 7 ∷ 0 ∷ 0 ∷ 3 ∷ 0 ∷ []) ≡ refused 14 0)
    × (book (1 ∷ 0 ∷ 3 ∷ 0 ∷ 7 ∷ 0 ∷ 0 ∷ 3 ∷ 0 ∷ []) ≡ refused 14 0)
    × (book two ≡ given (seven ∷ nine ∷ []))
    × (book (entry_bytes seven ++ entry_bytes nine) ≡ refused 14 15)
    × (book (book_bytes (nine ∷ nine ∷ [])) ≡ refused 22 8)
    × (book (book_bytes (nine ∷ seven ∷ nine ∷ [])) ≡ refused 22 8)
    × (book (entry_bytes nine ++ entry_bytes seven ++ (0 ∷ 0 ∷ 4 ∷ 0 ∷ [])) ≡ refused 14 15)
    × (look_up 8 two ≡ refused 20 0)
    × (spot 9 two ≡ no_spot 14 0)
    × (spot 9 (book_bytes (nine ∷ nine ∷ [])) ≡ no_spot 22 8)
    × (put 9 (1 ∷ []) (book_bytes (nine ∷ nine ∷ [])) ≡ refused 22 8)
    × (put 8 (1 ∷ []) two ≡ refused 14 0)
    × (put_in (entry 8 []) (seven ∷ nine ∷ []) ≡ seven ∷ entry 8 [] ∷ nine ∷ [])
    × (put_in (entry 9 []) (seven ∷ nine ∷ []) ≡ seven ∷ entry 9 [] ∷ [])
    × (made (entry 8 []) 25 (seven ∷ nine ∷ []) ≡ given (seven ∷ entry 8 [] ∷ nine ∷ []))
    × (made (entry 8 []) 24 (seven ∷ nine ∷ []) ≡ refused 21 0)
    × (made (entry 7 []) 18 (seven ∷ nine ∷ []) ≡ given (entry 7 [] ∷ nine ∷ []))
    × (after (given (entry 7 [] ∷ nine ∷ [])) two ≡ book_bytes (entry 7 [] ∷ nine ∷ []) ++ (0 ∷ []))
unfolding le un num_at header is_at quintic sloped card_order due head_due kind_by card_verdict entry_bytes book_bytes size closes holds entry_at ◌giving◌ scan rising book held look_up before rooms spot_at spot put_in made put after refuse ◌then◌
examples = (refl, refl, refl, refl, refl, refl, refl, refl, refl, refl, refl, refl, refl, refl, refl, refl, refl, refl, refl, refl, refl, refl)

-- ---- the limit

-- a room whose record has n bytes
abbrev wide : ℕ → Entry
wide n = entry 1 (replicate n 0)

-- "a record ending past 16,384"
pub at_the_limit :
    (book (book_bytes (wide 16374 ∷ [])) ≡ given (wide 16374 ∷ []))
    × (book (book_bytes (wide 16375 ∷ [])) ≡ refused 14 16381)
    × (book (book_bytes (wide 16378 ∷ [])) ≡ refused 14 16384)
    × (book (book_bytes (wide 16379 ∷ [])) ≡ refused 14 0)
unfolding le un num_at header is_at entry_bytes book_bytes size closes holds entry_at ◌giving◌ scan rising book refuse ◌then◌
at_the_limit = (refl, refl, refl, refl)
