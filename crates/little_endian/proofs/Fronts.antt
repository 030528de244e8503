-- Numbers that end within the first bytes of a list are those of the list, whatever stands behind. Assumes nothing.
use Prim.Native.Nat.{ℕ, zero, suc, ◌+◌, ◌≤◌}
use mathlib.Core.Path.{◌≡◌, refl, ap}
use mathlib.Core.List.{List, [], ◌∷◌}
use native.Mathlib.Omega.{arith}
use lib.ListN.{take, drop}
use lib.Seq.{take-take}
use Rattle.little_endian.specs.Numbers.{un, num_at}

within : (at k n : ℕ) (s : List ℕ) → at + k ≤ n → take k (drop at (take n s)) ≡ take k (drop at s)
within zero k n s h = take-take k n s (omega arith)
within (suc at) k zero s h = absurd (omega arith)
within (suc at) k (suc n) [] h = refl
within (suc at) k (suc n) (x ∷ s) h = within at k n s (omega arith)

module _ (n : ℕ) (s : List ℕ) where
  pub number_in_front : (k at : ℕ) → at + k ≤ n → num_at k (take n s) at ≡ num_at k s at
  unfolding num_at
  number_in_front k at h = ap un (within at k n s h)
