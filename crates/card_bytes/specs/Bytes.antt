-- Document 01, "Card bytes": the bytes of a card, record after record, for every kind of card.
-- Assumes nothing.
use Rattle.std.specs.Prelude.{ℕ, zero, suc, List, [], ◌++◌, ℤ}
use Rattle.std.specs.Int.{w16, w32}
use Rattle.little_endian.specs.Numbers.{le, signed_bytes}
use Rattle.record.specs.Record.{header}
use Rattle.curve.specs.Kind.{Kind}
use Rattle.curve.specs.Card.{Knot, Card, knots, knot}

-- "length 6: n, left code, right code (2 each)"
unfoldable pub head_bytes : ℕ → ℕ → ℕ → ℕ → List ℕ
head_bytes head n left right = header head 6 ++ le 2 n ++ le 2 left ++ le 2 right

abbrev pub a_knot : (x : ℕ) (y m M : ℤ) → Knot
a_knot x y m M = record { x = x; y = y; m = m; M = M }

-- "kind 2, length 12: x (2), y (2, signed), m (4, signed), M (4, signed)"
unfoldable pub knot_bytes : Knot → List ℕ
knot_bytes k = header 2 12 ++ le 2 k.x ++ signed_bytes w16 k.y ++ signed_bytes w32 k.m ++ signed_bytes w32 k.M

-- "kind 3, length 0"
unfoldable pub end_bytes : List ℕ
end_bytes = header 3 0

-- the k rows of f from place i on, one after the other
unfoldable pub rows : (ℕ → List ℕ) → ℕ → ℕ → List ℕ
rows f i zero = []
rows f i (suc k) = f i ++ rows f (suc i) k

unfoldable pub knot_row : Card → ℕ → List ℕ
knot_row c i = knot_bytes (knot c i)

-- "Then n of kind 2", "Then kind 3", "Nothing follows"; the head's own kind is that of the kind of card
unfoldable pub bytes_of : Kind → Card → List ℕ
bytes_of K c = head_bytes K.head (knots c) c.left c.right ++ (rows (knot_row c) 0 (knots c) ++ end_bytes)
