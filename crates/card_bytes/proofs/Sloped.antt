-- A straight line as a card of order 8's kind, byte by byte and both ways; with a code 1 in its head it is
-- 15, and with another kind 14. Computed from the definitions; assumes nothing.
use Prim.Native.Nat.{ℕ}
use mathlib.Core.Path.{◌≡◌, refl}
use mathlib.Core.List.{List, [], ◌∷◌}
use Rattle.answer.specs.Answer.{accepted, refused, ◌then◌, refuse, each}
use Rattle.little_endian.specs.Numbers.{le, un, num_at, signed_bytes, signed_at}
use Rattle.record.specs.Record.{header, is_at}
use Rattle.curve.specs.Kind.{quintic, sloped}
use Rattle.curve.specs.Card.{knots, knot}
use Rattle.curve.specs.Steps.{counted, codes}
use Rattle.curve.specs.Orders.{card_order}
use Rattle.curve.proofs.Cases.{line}
use Rattle.card_bytes.specs.Bytes.{head_bytes, knot_bytes, end_bytes, rows, knot_row, bytes_of}
use Rattle.card_bytes.specs.Held.{card_of}
use Rattle.card_bytes.specs.Records.{due, head_due, knot_due, end_due, records_due, kind_by, card_verdict}

-- what stands behind the header of the head and the two codes
abbrev behind_codes : List ℕ
behind_codes =
    0x0C ∷ 0x00 ∷ 0x02 ∷ 0x00 ∷ 0x00 ∷ 0x00 ∷ 0x00 ∷ 0x00 ∷ 0x00 ∷ 0x08 ∷ 0x00 ∷ 0x00 ∷ 0x00 ∷ 0x00 ∷ 0x00 ∷ 0x00
    ∷ 0x0C ∷ 0x00 ∷ 0x02 ∷ 0x00 ∷ 0x02 ∷ 0x00 ∷ 0x01 ∷ 0x00 ∷ 0x00 ∷ 0x08 ∷ 0x00 ∷ 0x00 ∷ 0x00 ∷ 0x00 ∷ 0x00 ∷ 0x00
    ∷ 0x0C ∷ 0x00 ∷ 0x02 ∷ 0x00 ∷ 0x04 ∷ 0x00 ∷ 0x02 ∷ 0x00 ∷ 0x00 ∷ 0x08 ∷ 0x00 ∷ 0x00 ∷ 0x00 ∷ 0x00 ∷ 0x00 ∷ 0x00
    ∷ 0x00 ∷ 0x00 ∷ 0x03 ∷ 0x00 ∷ []

-- of a kind of head, with a code of the left end
abbrev headed : (kind left : ℕ) → List ℕ
headed kind left = 0x06 ∷ 0x00 ∷ kind ∷ 0x00 ∷ 0x03 ∷ 0x00 ∷ left ∷ 0x00 ∷ 0x00 ∷ 0x00 ∷ behind_codes

pub sloped_bytes :
    (bytes_of sloped line ≡ headed 6 0) × (card_of (headed 6 0) ≡ line) × (kind_by (headed 6 0) ≡ sloped) × (head_due sloped.head (headed 6 0) ≡ accepted)
    × (records_due (headed 6 0) 3 ≡ accepted) × (card_verdict (kind_by (headed 6 1)) (headed 6 1) ≡ refused 15 0)
    × (kind_by (headed 1 0) ≡ quintic) × (card_verdict (kind_by (headed 7 0)) (headed 7 0) ≡ refused 14 0)
unfolding line quintic sloped knots knot le un num_at signed_bytes signed_at header is_at refuse each ◌then◌ counted codes card_order
    head_bytes knot_bytes end_bytes rows knot_row bytes_of card_of due head_due knot_due end_due records_due kind_by card_verdict
sloped_bytes = (refl, refl, refl, refl, refl, refl, refl, refl)
