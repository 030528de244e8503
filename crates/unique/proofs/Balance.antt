-- Where slope × fourth-derivative equation and curvature × third-derivative equation are zero, what arrives at a knot leaves it. At an end the missing gap is
-- the gap 0, over which nothing arrives and nothing leaves.
-- Assumes nothing.
use mathlib.Core.Path.{◌≡◌, refl, sym, ap, ap₂, ◌∙◌}
use mathlib.Core.List.{[], ◌∷◌}
use Prim.Native.Nat.{ℕ, zero, suc, ◌-◌, ◌*◌, ◌^◌, ◌≤◌, ◌<◌}
use native.Mathlib.Nat.{pow-succ', mul-pos, one-le-pow}
use native.Mathlib.Omega.{arith}
use lib.IntN.{ℤ, pos, ◌+ℤ◌, ◌*ℤ◌}
use Rattle.whole.specs.Whole.{◌·◌}
use Rattle.whole.proofs.Solve.{E, ◌:+◌, ◌:*◌, #, ring}
use Rattle.whole.proofs.Order.{*ℤ_cancel}
use Rattle.curve.specs.Formula.{num, worth, amount}
use Rattle.curve.specs.Curve.{Order, third, fourth, degree, rightward, leftward, equation}
use Rattle.curve.specs.Jump.{inverse, clear, over}
use Rattle.curve.proofs.Written.{amount_e, powers, equating}
use Rattle.unique.proofs.Energy.{inverses, positive, leaving, arriving}

-- over the gap 0
pub none_leaves : (s c s⁺ c⁺ : ℤ) → amount (leaving (inverses 0) s c s⁺ c⁺) ≡ pos 0
unfolding inverse amount worth rightward
none_leaves s c s⁺ c⁺ = ring (s ∷ c ∷ s⁺ ∷ c⁺ ∷ []) (λ s c s⁺ c⁺. (amount_e (leaving (λ i. # 0) s c s⁺ c⁺), # 0)) tt

pub none_arrives : (s⁻ c⁻ s c : ℤ) → amount (arriving (inverses 0) s⁻ c⁻ s c) ≡ pos 0
unfolding inverse amount worth leftward
none_arrives s⁻ c⁻ s c = ring (s⁻ ∷ c⁻ ∷ s ∷ c ∷ []) (λ s⁻ c⁻ s c. (amount_e (arriving (λ i. # 0) s⁻ c⁻ s c), # 0)) tt

pub clear_pos : (h d : ℕ) → 0 < clear h d
unfolding clear
clear_pos zero d = omega arith
clear_pos (suc h) d = one-le-pow d (suc h) (omega arith)

-- the gap, and 1 for the gap 0: the fourth derivative's powers have it once more than the third's
unfoldable once : ℕ → ℕ
once zero = 1
once (suc h) = suc h

once_pos : (h : ℕ) → 0 < once h
unfolding once
once_pos zero = omega arith
once_pos (suc h) = omega arith

clear_4 : (h : ℕ) → clear h 4 ≡ once h * clear h 3
unfolding clear once
clear_4 zero = refl
clear_4 (suc h) = pow-succ' (suc h) 3

inverse_4 : (h i : ℕ) → i ≤ 3 → inverse h 4 i ≡ once h * inverse h 3 i
unfolding inverse once
inverse_4 zero i l = refl
inverse_4 (suc h) i l = ap (λ n. suc h ^ n) more ∙ pow-succ' (suc h) (3 - i)
  where
    more : 4 - i ≡ suc (3 - i)
    more = omega arith

over_4 : (h k i : ℕ) → i ≤ 3 → pos (inverse h 4 i * clear k 4) ≡ pos (once h * inverse h 3 i * (once k * clear k 3))
over_4 h k i l = ap₂ (λ a b. pos (a * b)) (inverse_4 h i l) (clear_4 k)

-- at a knot with the gap h on its right and k on its left
module _ (h k : ℕ) (s⁻ c⁻ s c s⁺ c⁺ : ℤ) where
  abbrev pub row : Order → ℤ
  row o = amount (equation o (over (degree o) h k) (over (degree o) k h) (num s⁻) (num c⁻) (num s) (num c) (num s⁺) (num c⁺))

  abbrev pub arrives : ℤ
  arrives = amount (arriving (inverses k) s⁻ c⁻ s c)

  abbrev pub leaves : ℤ
  leaves = amount (leaving (inverses h) s c s⁺ c⁺)

  -- the fourth derivative's equation by its powers: it has no first and no fourth
  abbrev by_powers : (g₂ g₃ p₂ p₃ : ℤ) → ℤ
  by_powers g₂ g₃ p₂ p₃ = amount (equating (powers g₂ g₂ g₃ g₃) (powers p₂ p₂ p₃ p₃) fourth s⁻ c⁻ s c s⁺ c⁺)

  same_powers : {g₂ g₃ p₂ p₃ g₂' g₃' p₂' p₃' : ℤ} → g₂ ≡ g₂' → g₃ ≡ g₃' → p₂ ≡ p₂' → p₃ ≡ p₃' → by_powers g₂ g₃ p₂ p₃ ≡ by_powers g₂' g₃' p₂' p₃'
  same_powers a b d e = cc

  row_4 : row fourth ≡ amount (equating (λ i. pos (once h * inverse h 3 i * (once k * clear k 3))) (λ i. pos (once k * inverse k 3 i * (once h * clear h 3))) fourth s⁻ c⁻ s c s⁺ c⁺)
  unfolding amount worth over degree equation
  row_4 = same_powers (over_4 h k 2 (omega arith)) (over_4 h k 3 (omega arith)) (over_4 k h 2 (omega arith)) (over_4 k h 3 (omega arith))

  weigh : once h * once k · (clear h 3 · arrives) ≡ once h * once k · (clear k 3 · leaves) +ℤ (s *ℤ row fourth +ℤ once h * once k · (c *ℤ row third))
  unfolding amount worth over degree equation rightward leftward
  weigh =
      ring
      (pos (once h) ∷ pos (inverse h 3 1) ∷ pos (inverse h 3 2) ∷ pos (inverse h 3 3) ∷ pos (inverse h 3 4) ∷ pos (clear h 3)
      ∷ pos (once k) ∷ pos (inverse k 3 1) ∷ pos (inverse k 3 2) ∷ pos (inverse k 3 3) ∷ pos (inverse k 3 4) ∷ pos (clear k 3) ∷ s⁻ ∷ c⁻ ∷ s ∷ c ∷ s⁺ ∷ c⁺ ∷ [])
      (λ h g₁ g₂ g₃ g₄ h³ k p₁ p₂ p₃ p₄ k³ s⁻ c⁻ s c s⁺ c⁺.
      let g : ℕ → E = powers g₁ g₂ g₃ g₄ in
      let p : ℕ → E = powers p₁ p₂ p₃ p₄ in (
        h :* k :* (h³ :* amount_e (arriving p s⁻ c⁻ s c)),
        h :* k :* (k³ :* amount_e (leaving g s c s⁺ c⁺))
            :+ (s :* amount_e (equating (λ i. h :* g i :* (k :* k³)) (λ i. k :* p i :* (h :* h³)) fourth s⁻ c⁻ s c s⁺ c⁺)
            :+ h :* k :* (c :* amount_e (equating (λ i. g i :* k³) (λ i. p i :* h³) third s⁻ c⁻ s c s⁺ c⁺))),
      )) tt
      ∙ ap (λ z. once h * once k · (clear k 3 · leaves) +ℤ (s *ℤ z +ℤ once h * once k · (c *ℤ row third))) (sym row_4)

  pub balance : s *ℤ row fourth ≡ pos 0 → c *ℤ row third ≡ pos 0 → clear h 3 · arrives ≡ clear k 3 · leaves
  balance slope curvature = *ℤ_cancel (positive (mul-pos (once_pos h) (once_pos k)))
      (weigh ∙ ap₂ (λ x y. once h * once k · (clear k 3 · leaves) +ℤ (x +ℤ once h * once k · y)) slope curvature
      ∙ ring (pos (once h * once k) ∷ (clear k 3 · leaves) ∷ []) (λ w x. (w :* x :+ (# 0 :+ w :* # 0), w :* x)) tt)
