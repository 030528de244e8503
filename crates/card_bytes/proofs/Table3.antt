-- Document 01's Table 3, scaled: its card is 94 bytes, the first 26 as printed, and is read back. Computed from the definitions; assumes nothing.
use Prim.Native.Nat.{ℕ}
use mathlib.Core.Path.{◌≡◌, refl}
use mathlib.Core.List.{List, [], ◌∷◌}
use lib.ListN.{length, take}
use Rattle.answer.specs.Answer.{accepted, refused, ◌then◌, refuse, each}
use Rattle.little_endian.specs.Numbers.{le, un, num_at, signed_bytes, signed_at}
use Rattle.record.specs.Record.{header, is_at}
use Rattle.curve.specs.Kind.{quintic}
use Rattle.curve.specs.Card.{knots, knot}
use Rattle.curve.proofs.Cases.{table_3, p1}
use Rattle.card_bytes.specs.Bytes.{head_bytes, knot_bytes, end_bytes, rows, knot_row, bytes_of}
use Rattle.card_bytes.specs.Held.{card_of}
use Rattle.card_bytes.specs.Records.{due, head_due, knot_due, end_due, records_due}

abbrev written : List ℕ
written = bytes_of quintic p1

abbrev printed : List ℕ
printed =
    0x06 ∷ 0x00 ∷ 0x01 ∷ 0x00 ∷ 0x05 ∷ 0x00 ∷ 0x00 ∷ 0x00 ∷ 0x00 ∷ 0x00 ∷ 0x0C ∷ 0x00 ∷ 0x02 ∷ 0x00 ∷ 0x00 ∷ 0x00
    ∷ 0xF4 ∷ 0x01 ∷ 0x00 ∷ 0x80 ∷ 0xF3 ∷ 0xFF ∷ 0x00 ∷ 0x3F ∷ 0x02 ∷ 0x00 ∷ []

-- with the records where they are due; cut short by a byte, its end is 14 at 90
pub table_3_bytes :
    (length written ≡ 94) × (take 26 written ≡ printed) × (card_of written ≡ p1) × (head_due quintic.head written ≡ accepted)
    × (records_due written 5 ≡ accepted) × (records_due (take 93 written) 5 ≡ refused 14 90)
unfolding quintic table_3 p1 knots knot le un num_at signed_bytes signed_at header is_at refuse each ◌then◌ head_bytes knot_bytes end_bytes rows knot_row bytes_of card_of due head_due knot_due end_due records_due
table_3_bytes = (refl, refl, refl, refl, refl, refl)
