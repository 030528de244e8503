-- What one number is more than another, and how far a value is beyond two ordinates: never below both and
-- above both. Assumes nothing.
use mathlib.Core.Path.{◌≡◌, refl, ◌∙◌}
use mathlib.Core.Logic.{◌⊎◌, inl, inr, ⊎_elim}
use Prim.Native.Nat.{ℕ, ◌+◌, ◌*◌, ◌≤◌, ◌<◌}
use native.Mathlib.Omega.{arith}
use lib.IntN.{ℤ, pos, negsuc, nat_abs, ◌-ℤ◌}
use lib.Signed.{mag, ◌≤ℤ◌, ◌<ℤ◌, ≤ℤ_refl}
use Rattle.whole.proofs.Ring.{up, dn, sub_diff}
use Rattle.whole.proofs.Order.{linear, dn_zero, sub_nonneg, <ℤ-≤ℤ, abs_is, one_part, ≤ℤ_or}
use Rattle.swing.specs.Swing.{surplus, below, above}

-- a number's surplus over 0 is what it has above 0
pub surplus_up : (z : ℤ) → surplus z ≡ up z
unfolding surplus
surplus_up (pos n) = refl
surplus_up (negsuc n) = refl

up_mag : (z : ℤ) → up z ≤ mag z
up_mag (pos n) = omega arith
up_mag (negsuc n) = omega arith

dn_mag : (z : ℤ) → dn z ≤ mag z + 1
dn_mag (pos n) = omega arith
dn_mag (negsuc n) = omega arith

module _ {a b : ℤ} where
  pub surplus_none : a ≤ℤ b → surplus (a -ℤ b) ≡ 0
  surplus_none h = surplus_up (a -ℤ b) ∙ ⊎_elim (λ e. e) (λ e. omega (linear, sub_diff a b, e)) (one_part (a -ℤ b))

  pub surplus_is : b <ℤ a → nat_abs (a -ℤ b) ≡ surplus (a -ℤ b)
  surplus_is h = omega (arith, surplus_up (a -ℤ b), abs_is (a -ℤ b), dn_zero (sub_nonneg (<ℤ-≤ℤ h)))

  -- two numbers of a width are no more than twice its half apart
  pub apart : {n : ℕ} → b <ℤ a → mag a < n → mag b < n → nat_abs (a -ℤ b) < 2 * n
  apart h p q = omega (linear, abs_is (a -ℤ b), dn_zero (sub_nonneg (<ℤ-≤ℤ h)), sub_diff a b, up_mag a, dn_mag b)

-- ---- beyond two ordinates

module _ (y y' : ℤ) where
  -- at an ordinate it is beyond neither side
  pub below_left : below y y' y ≡ 0
  unfolding below
  below_left = omega (arith, surplus_none (≤ℤ_refl y))

  pub below_right : below y y' y' ≡ 0
  unfolding below
  below_right = omega (arith, surplus_none (≤ℤ_refl y'))

  pub above_left : above y y' y ≡ 0
  unfolding above
  above_left = omega (arith, surplus_none (≤ℤ_refl y))

  pub above_right : above y y' y' ≡ 0
  unfolding above
  above_right = omega (arith, surplus_none (≤ℤ_refl y'))

  pub one_side : (value : ℤ) → (below y y' value ≡ 0) ⊎ (above y y' value ≡ 0)
  unfolding below above
  one_side value = ⊎_elim (λ h. inl (omega (arith, surplus_none h))) (λ h. inr (omega (arith, surplus_none (<ℤ-≤ℤ h)))) (≤ℤ_or y value)
