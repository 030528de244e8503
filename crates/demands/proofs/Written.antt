-- What the writer writes are bytes, whatever card it is.
-- Assumes nothing.
use Prim.Native.Nat.{ℕ, zero, suc}
use mir.Syntax.{w16, w32}
use mir.Val.{of_z}
use Rattle.little_endian.specs.Numbers.{le, signed_bytes, Bytes}
use Rattle.little_endian.proofs.Numbers.{bytes_none, bytes_append, le_bytes}
use Rattle.record.specs.Record.{header}
use Rattle.curve.specs.Kind.{Kind}
use Rattle.curve.specs.Card.{Knot, Card, knots, knot}
use Rattle.card_bytes.specs.Bytes.{head_bytes, knot_bytes, end_bytes, rows, knot_row, bytes_of}

header_bytes : (kind long : ℕ) → Bytes (header kind long)
unfolding header
header_bytes kind long = bytes_append (le 2 long) (le 2 kind) (le_bytes 2 long) (le_bytes 2 kind)

one_knot : (k : Knot) → Bytes (knot_bytes k)
unfolding knot_bytes signed_bytes
one_knot k =
    bytes_append _ _ (bytes_append _ _ (bytes_append _ _ (bytes_append _ _ (header_bytes 2 12) (le_bytes 2 k.x)) (le_bytes 2 (of_z w16 k.y))) (le_bytes 4 (of_z w32 k.m))) (le_bytes 4 (of_z w32 k.M))

all_knots : (c : Card) (i k : ℕ) → Bytes (rows (knot_row c) i k)
unfolding rows knot_row
all_knots c i zero = bytes_none
all_knots c i (suc k) = bytes_append (knot_bytes (knot c i)) _ (one_knot (knot c i)) (all_knots c (suc i) k)

pub card_bytes : (K : Kind) (c : Card) → Bytes (bytes_of K c)
unfolding bytes_of head_bytes end_bytes
card_bytes K c =
    bytes_append _ _ (bytes_append _ _ (bytes_append _ _ (bytes_append _ _ (header_bytes K.head 6) (le_bytes 2 (knots c))) (le_bytes 2 c.left)) (le_bytes 2 c.right))
    (bytes_append _ _ (all_knots c 0 (knots c)) (header_bytes 3 0))
