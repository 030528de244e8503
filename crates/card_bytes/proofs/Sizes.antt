-- How long a card's records are, and the card: "Size 14 + 16n" (document 01, "Card bytes").
-- Assumes nothing.
use Prim.Native.Nat.{ℕ, ◌*◌}
use mathlib.Core.Path.{◌≡◌}
use native.Mathlib.Omega.{arith}
use lib.ListN.{length, length-append}
use Rattle.record.specs.Record.{header}
use Rattle.little_endian.proofs.Numbers.{length_le}
use Rattle.little_endian.proofs.Signs.{length_signed}
use Rattle.curve.specs.Kind.{Kind}
use Rattle.curve.specs.Card.{Knot, Card, knots}
use Rattle.curve.specs.Steps.{size}
use Rattle.card_bytes.specs.Bytes.{head_bytes, knot_bytes, end_bytes, rows, knot_row, bytes_of}
use Rattle.card_bytes.proofs.Rows.{length_rows}

pub length_head : (head n left right : ℕ) → length (head_bytes head n left right) ≡ 10
unfolding head_bytes header
length_head head n left right = simp (length-append, length_le)

pub length_knot : (k : Knot) → length (knot_bytes k) ≡ 16
unfolding knot_bytes header
length_knot k = simp (length-append, length_le, length_signed)

pub length_end : length end_bytes ≡ 4
unfolding end_bytes header
length_end = simp (length-append, length_le)

pub length_knots : (c : Card) (n : ℕ) → length (rows (knot_row c) 0 n) ≡ 16 * n
unfolding knot_row
length_knots c n = length_rows (knot_row c) 16 (λ i. length_knot _) 0 n

pub length_card : (K : Kind) (c : Card) → length (bytes_of K c) ≡ size (knots c)
unfolding bytes_of
length_card K c =
    simp length-append
    (omega (arith, length_head K.head (knots c) c.left c.right, length_knots c (knots c), length_end))
