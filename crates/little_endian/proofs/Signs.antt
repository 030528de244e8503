-- Signed numbers in two's complement, stated once over the width: bounds, and a number that stands in a list. They follow document 01, "Card bytes", and assume nothing.
use Prim.Native.Nat.{ℕ, ◌+◌, ◌^◌, ◌≤◌, ◌<◌}
use mathlib.Core.Path.{◌≡◌, refl, ap, ◌∙◌}
use mathlib.Core.List.{List, ◌++◌}
use lib.ListN.{length, drop}
use lib.IntN.{ℤ}
use lib.Signed.{mag}
use lib.Dec.{lit<}
use mir.Syntax.{Width, w8, w16, w32, w64, w128}
use mir.Val.{Fits, SFits, bits, hbits, bytes, to_z, of_z}
use mir.Facts.{to_z-of_z, of_z-to_z, Fits-of_z}
use Rattle.little_endian.specs.Numbers.{num_at, signed_bytes, signed_at, Bytes}
use Rattle.little_endian.proofs.Numbers.{length_le, num_at_lt, peel, stood}

-- ---- bounds

full : (w : Width) → 256 ^ bytes w ≡ 2 ^ bits w
full w8 = refl
full w16 = refl
full w32 = refl
full w64 = refl
full w128 = refl

some : (w : Width) → 0 < bytes w
some w8 = lit< tt
some w16 = lit< tt
some w32 = lit< tt
some w64 = lit< tt
some w128 = lit< tt

bits_lt : (w : Width) (z : ℤ) → SFits w z → of_z w z < 256 ^ bytes w
bits_lt w z f = rw full (Fits-of_z f).fits

pub length_signed : (w : Width) (z : ℤ) → length (signed_bytes w z) ≡ bytes w
unfolding signed_bytes
length_signed w z = length_le (bytes w) (of_z w z)

module _ (s : List ℕ) (w : Width) (at next : ℕ) (e : at + bytes w ≡ next) where
  fits : Bytes s → next ≤ length s → Fits w (num_at (bytes w) s at)
  fits h l = record { fits = rw (full w) at (num_at_lt s at (bytes w) next e h l) }

  -- the bytes at an offset are those of the signed number that is read there
  pub peel_signed : Bytes s → next ≤ length s → drop at s ≡ signed_bytes w (signed_at w s at) ++ drop next s
  unfolding signed_bytes signed_at
  peel_signed h l = rw (of_z-to_z {w = w} (fits h l)) (peel s at (bytes w) next e h l)

  -- and the signed number whose bytes stand at an offset is read there
  pub record StoodSigned (z : ℤ) (r : List ℕ) : Type 0 where
    pub number : signed_at w s at ≡ z
    pub tail : drop next s ≡ r
    pub room : next ≤ length s

  pub stood_signed : (z : ℤ) (r : List ℕ) → SFits w z → drop at s ≡ signed_bytes w z ++ r → StoodSigned z r
  unfolding signed_bytes signed_at
  stood_signed z r f p =
      let h = stood s at (bytes w) next e (of_z w z) r (some w) (bits_lt w z f) p in
      record { number = ap (to_z w) h.number ∙ to_z-of_z f; tail = h.tail; room = h.room }

-- a signed number that passes through a local or a call stays as it is
pub passed : (w : Width) (z : ℤ) → mag z < 2 ^ hbits w → to_z w (of_z w z) ≡ z
passed w z h = to_z-of_z (record { sfits = h })
