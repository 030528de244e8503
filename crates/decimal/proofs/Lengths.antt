-- How many bytes a number has in decimal, by its size: one below 10^k has at most k digits. Assumes nothing.
use Prim.Native.Nat.{ℕ, zero, suc, ◌+◌, ◌*◌, ◌/◌, ◌^◌, ◌≤◌, ◌<◌}
use Prim.Native.String.{String}
use mathlib.Core.Path.{◌≡◌, refl}
use mathlib.Core.Bool.{Bool, true, false, cond}
use mathlib.Core.List.{[], ◌∷◌, ◌++◌}
use native.Mathlib.Nat.{pow-suc}
use native.Mathlib.Omega.{arith}
use lib.Dec.{ltb}
use lib.IntN.{ℤ, pos, negsuc, nat_abs}
use lib.ListN.{length, length-append}
use borrow.Author.Tests.{ltb-false}
use Rattle.decimal.specs.Decimal.{spelled, digits, places, decimal, signed, field, worded}
use Rattle.decimal.proofs.Digits.{last}

-- whatever number of places is looked at
length_digits : (most k n : ℕ) → 0 < k → n < 10 ^ k → length (digits most n) ≤ k
unfolding digits
length_digits zero k n z h = omega arith
length_digits (suc most) zero n z h = absurd (omega arith)
length_digits (suc most) (suc k) n z h =
    let p : n < 10 ^ k * 10 = rw pow-suc at h in
    go (ltb n 10) refl k p (length_digits most k (n / 10))
  where
    go : (b : Bool) → ltb n 10 ≡ b → (k : ℕ) → n < 10 ^ k * 10 → (0 < k → n / 10 < 10 ^ k → length (digits most (n / 10)) ≤ k)
        → length (cond b [] (digits most (n / 10)) ++ last n) ≤ suc k
    go true t k p f = omega arith
    go false t zero p f = absurd (omega (arith, ltb-false n 10 t))
    go false t (suc k) p f = omega (arith, f (omega arith) (omega arith), length-append (digits most (n / 10)) (last n))

few_digits : (k n : ℕ) → length (digits k n) ≤ k
unfolding digits
few_digits zero n = omega arith
few_digits (suc k) n = go (ltb n 10) (few_digits k (n / 10))
  where
    go : (b : Bool) → length (digits k (n / 10)) ≤ k → length (cond b [] (digits k (n / 10)) ++ last n) ≤ suc k
    go true h = omega arith
    go false h = omega (arith, length-append (digits k (n / 10)) (last n))

-- words and any number behind them
pub length_worded : (words : String) (n : ℕ) → length (worded words n) ≤ length (spelled words) + places
length_worded words n = omega (arith, length-append (spelled words) (decimal n), few_digits places n)

module _ (k : ℕ) (some : 0 < k) where
  pub length_decimal : (n : ℕ) → n < 10 ^ k → length (decimal n) ≤ k
  length_decimal n h = length_digits places k n some h

  -- with the minus
  pub length_signed : (z : ℤ) → nat_abs z < 10 ^ k → length (signed z) ≤ suc k
  unfolding signed
  length_signed (pos n) h = omega (arith, length_decimal n h)
  length_signed (negsuc n) h = omega (arith, length_decimal (suc n) h)

  pub length_field : (z : ℤ) (parting : ℕ) → nat_abs z < 10 ^ k → length (field z parting) ≤ suc (suc k)
  unfolding field
  length_field z parting h = omega (arith, length-append (signed z) (parting ∷ []), length_signed z h)
