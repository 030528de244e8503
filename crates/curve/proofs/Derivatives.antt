-- The jump test's thirds and fourths are a third of the exact curve's third derivative and a twelfth of its fourth, in card units, at both ends of a gap.
-- Assumes nothing.
use mathlib.Core.Path.{◌≡◌, sym, ap, ◌∙◌, fun_ext}
use mathlib.Core.List.{List, [], ◌∷◌}
use Prim.Native.Nat.{ℕ, zero, suc, ◌-◌, ◌*◌, ◌^◌}
use native.Mathlib.Nat.{mul-one, mul_comm, pow-zero, pow-suc}
use lib.IntN.{ℤ, pos, ◌*ℤ◌}
use Rattle.whole.proofs.Solve.{◌:*◌, #, ring}
use Rattle.whole.specs.Whole.{◌·◌}
use Rattle.curve.specs.Formula.{num, power, worth, ∂, ∂^, amount}
use Rattle.curve.specs.Curve.{Order, third, fourth, degree, N, rightward, leftward}
use Rattle.curve.specs.Card.{Knot, gap}
use Rattle.curve.specs.Jump.{over, inverse, clear, rise}
use Rattle.curve.specs.Reading.{between}
use Rattle.curve.specs.Demand.{share}
use Rattle.curve.proofs.Written.{power_e, worth_e, amount_e, curve, rising, rights, lefts}

module _ (h y y' m m' M M' : ℤ) where
  abbrev all : List ℤ
  all = h ∷ y ∷ y' ∷ m ∷ m' ∷ M ∷ M' ∷ []

  right' : (o : Order) →
      4096 · worth (∂^ (degree o) (curve h y y' m m' M M')) (pos 0) *ℤ power h (degree o)
      ≡ share o · amount (rights (λ i. power h (degree o - i)) o (rising y y') m m' M M') *ℤ (8192 · power h 5)
  unfolding worth ∂ ∂^ N power rightward share degree amount
  right' third = ring all
      (λ h y y' m m' M M'. (
        # 4096 :* worth_e (∂^ 3 (curve h y y' m m' M M')) (# 0) :* power_e h 3,
        # 3 :* amount_e (rights (λ i. power_e h (3 - i)) third (rising y y') m m' M M') :* (# 8192 :* power_e h 5),
      )) tt
  right' fourth = ring all
      (λ h y y' m m' M M'. (
        # 4096 :* worth_e (∂^ 4 (curve h y y' m m' M M')) (# 0) :* power_e h 4,
        # 12 :* amount_e (rights (λ i. power_e h (4 - i)) fourth (rising y y') m m' M M') :* (# 8192 :* power_e h 5),
      )) tt

  left' : (o : Order) →
      4096 · worth (∂^ (degree o) (curve h y y' m m' M M')) h *ℤ power h (degree o)
      ≡ share o · amount (lefts (λ i. power h (degree o - i)) o (rising y y') m' m M' M) *ℤ (8192 · power h 5)
  unfolding worth ∂ ∂^ N power leftward share degree amount
  left' third = ring all
      (λ h y y' m m' M M'. (
        # 4096 :* worth_e (∂^ 3 (curve h y y' m m' M M')) h :* power_e h 3,
        # 3 :* amount_e (lefts (λ i. power_e h (3 - i)) third (rising y y') m' m M' M) :* (# 8192 :* power_e h 5),
      )) tt
  left' fourth = ring all
      (λ h y y' m m' M M'. (
        # 4096 :* worth_e (∂^ 4 (curve h y y' m m' M M')) h :* power_e h 4,
        # 12 :* amount_e (lefts (λ i. power_e h (4 - i)) fourth (rising y y') m' m M' M) :* (# 8192 :* power_e h 5),
      )) tt

-- a natural number's powers are the whole number's
pub pos_power : (h n : ℕ) → power (pos h) n ≡ pos (h ^ n)
unfolding power
pos_power h zero = ap pos (sym (pow-zero h))
pos_power h (suc n) = ap (λ z. pos h *ℤ z) (pos_power h n) ∙ ap pos (mul_comm h (h ^ n) ∙ sym (pow-suc h n))

pub scaled : (h : ℕ) → 8192 · power (pos h) 5 ≡ pos (8192 * h ^ 5)
scaled h = ap (λ z. 8192 · z) (pos_power h 5)

-- the powers of one gap alone
alone : (d h : ℕ) → over d (suc h) 0 ≡ (λ i. num (power (pos (suc h)) (d - i)))
unfolding over inverse clear
alone d h = fun_ext (λ i. ap (λ z. num z) (ap pos (mul-one (suc h ^ (d - i))) ∙ sym (pos_power (suc h) (d - i))))

-- On the gap h from knot a to knot b: 4096·N⁽ᵈ⁾/(8192·h⁵) is share·r/hᵈ for the side r of the jump test, both cleared.
module _ (o : Order) (a b : Knot) (h₀ : ℕ) (e : gap a b ≡ suc h₀) where
  pub rightward_is :
      4096 · worth (∂^ (degree o) (between a b)) (pos 0) *ℤ pos (gap a b ^ degree o)
      ≡ share o · amount (rightward o (over (degree o) (gap a b) 0) (rise a b) (num a.m) (num b.m) (num a.M) (num b.M)) *ℤ pos (8192 * gap a b ^ 5)
  unfolding between rise
  rightward_is = rw (e, ← pos_power (suc h₀) (degree o), ← scaled (suc h₀), alone (degree o) h₀) (right' (pos (suc h₀)) a.y b.y a.m b.m a.M b.M o)

  pub leftward_is :
      4096 · worth (∂^ (degree o) (between a b)) (pos (gap a b)) *ℤ pos (gap a b ^ degree o)
      ≡ share o · amount (leftward o (over (degree o) (gap a b) 0) (rise a b) (num b.m) (num a.m) (num b.M) (num a.M)) *ℤ pos (8192 * gap a b ^ 5)
  unfolding between rise
  leftward_is = rw (e, ← pos_power (suc h₀) (degree o), ← scaled (suc h₀), alone (degree o) h₀) (left' (pos (suc h₀)) a.y b.y a.m b.m a.M b.M o)
