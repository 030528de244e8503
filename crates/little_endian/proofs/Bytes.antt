-- Numbers by std's bytes, stated once over the number of bytes: what `from_le_bytes` reads at an offset, and what a copy of
-- `to_le_bytes` leaves there. Assumes nothing.
use Prim.Native.Nat.{ℕ, zero, suc, ◌+◌, ◌*◌, ◌/◌, ◌%◌, ◌^◌, ◌≤◌}
use mathlib.Core.Path.{◌≡◌, refl, sym, ap, ap₂, ◌∙◌}
use mathlib.Core.List.{List, [], ◌∷◌, append_assoc}
use native.Mathlib.Nat.{pow-suc, mul_comm, div-div-eq-div-mul}
use native.Mathlib.Omega.{arith}
use lib.ListN.{length, get_or}
use lib.Seq.{sets, sets-eq}
use borrow.Rule.Slice.PartMut.{put_mid}
use Rattle.std.specs.Int.{w16, w32, byte_at, byte_worth, bytes_low_first, sum_through, from_le_bytes, to_le_bytes}
use Rattle.std.proofs.lemmas.List.Edits.{paste_all}
use Rattle.std.proofs.lemmas.Slice.{put_mid-paste}
use Rattle.little_endian.specs.Numbers.{le, num_at}
use Rattle.little_endian.proofs.Numbers.{length_le, num_at_add, num_at_one}
use Rattle.little_endian.proofs.Signs.{passed}

-- the place of byte i
abbrev place : ℕ → ℕ → ℕ
place at zero = at
place at (suc i) = at + suc i

-- the sum of k + 1 bytes from an offset on, each by its place
read : (k at : ℕ) (s : List ℕ) → at + suc k ≤ length s → sum_through (λ i. byte_worth i (get_or s (place at i) 0)) k ≡ num_at (suc k) s at
read zero at s h = sym (num_at_one s at (omega arith))
read (suc k) at s h =
    let more : suc k + 1 ≡ suc (suc k) = omega arith in
    let last = ap (λ b. b * 256 ^ suc k) (sym (num_at_one s (at + suc k) (omega arith))) ∙ mul_comm _ _ in
    ap₂ (λ a b. a + b) (read k at s (omega arith)) last ∙ sym (rw more at (num_at_add (suc k) 1 s at (omega arith)))

-- k bytes from byte i upward
written : (k i n : ℕ) → bytes_low_first i k n ≡ le k (n / 256 ^ i)
unfolding le
written zero i n = refl
written (suc k) i n = ap₂ (λ b bs. b ∷ bs) (lowest i) (written k (suc i) n ∙ ap (le k) next)
  where
    lowest : (i : ℕ) → byte_at i n ≡ n / 256 ^ i % 256
    lowest zero = omega arith
    lowest (suc i) = refl

    next : n / 256 ^ suc i ≡ n / 256 ^ i / 256
    next = rw pow-suc (sym (div-div-eq-div-mul n (256 ^ i) 256))

-- the same as the code has them, for either width
pub read_2 : (at : ℕ) (s : List ℕ) → at + 2 ≤ length s → from_le_bytes w16 (get_or s at 0 ∷ get_or s (at + 1) 0 ∷ []) ≡ num_at 2 s at
read_2 = read 1

pub read_4 : (at : ℕ) (s : List ℕ) → at + 4 ≤ length s
    → from_le_bytes w32 (get_or s at 0 ∷ get_or s (at + 1) 0 ∷ get_or s (at + 2) 0 ∷ get_or s (at + 3) 0 ∷ []) ≡ num_at 4 s at
read_4 = read 3

pub bytes_2 : (n : ℕ) → to_le_bytes w16 n ≡ le 2 n
bytes_2 n = written 2 0 n ∙ ap (le 2) (omega arith)

pub bytes_4 : (n : ℕ) → to_le_bytes w32 n ≡ le 4 n
bytes_4 n = written 4 0 n ∙ ap (le 4) (omega arith)

pub stored : (at k : ℕ) (d now vs : List ℕ) → at + length vs ≤ length d → k ≡ length vs → now ≡ vs → put_mid at k d now ≡ sets d at vs
stored at k d now vs h l e = rw (sets-eq vs d at h, append_assoc, ← l) (put_mid-paste at k d now vs k e refl l ∙ paste_all d at vs k l)

-- what the search is given at each function
pub ruleset numbers = (read_2, read_4, stored, bytes_2, bytes_4, length_le, passed)
