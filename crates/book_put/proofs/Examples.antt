-- 21 at the limit of a book, computed: a book that a put would make of 16,384 bytes, and of one more, in a
-- buffer that is longer. Document 02, order 3. Assumes nothing.
use mathlib.Core.Path.{◌≡◌, refl}
use mathlib.Core.List.{[], ◌∷◌}
use Prim.Native.Nat.{ℕ}
use lib.ListN.{replicate}
use Rattle.answer.specs.Answer.{refused, given, ◌then◌, refuse}
use Rattle.book.specs.Book.{Entry, size}
use Rattle.book_put.specs.Put.{entry, put_in, made}

-- a room with a card of n bytes: its record has 6 more, and the closing record 4
abbrev wide : ℕ → Entry
wide n = entry 1 (replicate n 0)

-- by one room; by a second, of no bytes, behind it; in place of one that is there
pub at_the_limit :
    (made (wide 16374) 20000 [] ≡ given (wide 16374 ∷ []))
    × (made (wide 16375) 20000 [] ≡ refused 21 0)
    × (made (entry 2 []) 20000 (wide 16368 ∷ []) ≡ given (wide 16368 ∷ entry 2 [] ∷ []))
    × (made (entry 2 []) 20000 (wide 16369 ∷ []) ≡ refused 21 0)
    × (made (wide 16374) 20000 (wide 16374 ∷ []) ≡ given (wide 16374 ∷ []))
    × (made (wide 16375) 20000 (wide 16374 ∷ []) ≡ refused 21 0)
unfolding size put_in made refuse ◌then◌
at_the_limit = (refl, refl, refl, refl, refl, refl)
