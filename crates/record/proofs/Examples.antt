-- The first 26 bytes of Table 3's card, as document 01 prints them: what they hold, and what is answered where a record is
-- cut short, missing, or of another kind or length. Computed from the definitions; assumes nothing.
use Prim.Native.Nat.{ℕ}
use mathlib.Core.Path.{◌≡◌, refl}
use mathlib.Core.List.{List, [], ◌∷◌, ◌++◌}
use lib.ListN.{take}
use lib.IntN.{pos, negsuc}
use mir.Syntax.{w16, w32}
use Rattle.answer.specs.Answer.{refused, given, ◌then◌, refuse}
use Rattle.little_endian.specs.Numbers.{le, un, num_at, signed_bytes, signed_at}
use Rattle.record.specs.Record.{span, header, is_at, record_at}

abbrev printed : List ℕ
printed =
    0x06 ∷ 0x00 ∷ 0x01 ∷ 0x00 ∷ 0x05 ∷ 0x00 ∷ 0x00 ∷ 0x00 ∷ 0x00 ∷ 0x00 ∷ 0x0C ∷ 0x00 ∷ 0x02 ∷ 0x00 ∷ 0x00 ∷ 0x00
    ∷ 0xF4 ∷ 0x01 ∷ 0x00 ∷ 0x80 ∷ 0xF3 ∷ 0xFF ∷ 0x00 ∷ 0x3F ∷ 0x02 ∷ 0x00 ∷ []

abbrev written : List ℕ
written =
    header 1 6 ++ le 2 5 ++ le 2 0 ++ le 2 0 ++ header 2 12 ++ le 2 0 ++ signed_bytes w16 (pos 500)
    ++ signed_bytes w32 (negsuc 819199) ++ signed_bytes w32 (pos 147200)

pub holds :
    (written ≡ printed) × (record_at printed 0 1 6 ≡ given (span 4 10)) × (num_at 2 printed 4 ≡ 5)
    × (record_at printed 10 2 12 ≡ given (span 14 26)) × (num_at 2 printed 14 ≡ 0) × (signed_at w16 printed 16 ≡ pos 500)
    × (signed_at w32 printed 18 ≡ negsuc 819199) × (signed_at w32 printed 22 ≡ pos 147200)
    × (record_at (take 25 printed) 10 2 12 ≡ refused 14 10) × (record_at printed 26 3 0 ≡ refused 14 26)
    × (record_at printed 10 4 12 ≡ refused 14 10) × (record_at printed 10 2 11 ≡ refused 14 10)
unfolding le un num_at signed_bytes signed_at header is_at record_at refuse ◌then◌
holds = (refl, refl, refl, refl, refl, refl, refl, refl, refl, refl, refl, refl)
