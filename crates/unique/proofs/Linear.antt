-- Document 01's equations are linear: their left sides in the slopes and curvatures, their right sides in the common denominator. So the difference of two
-- solutions meets the equations of zero ordinates. Assumes nothing.
use mathlib.Core.Path.{◌≡◌, sym, ap₂, ◌∙◌}
use mathlib.Core.List.{List, [], ◌∷◌}
use Prim.Native.Nat.{ℕ}
use lib.IntN.{ℤ, pos, ◌-ℤ◌, ◌*ℤ◌}
use Rattle.whole.specs.Whole.{◌·◌}
use Rattle.whole.proofs.Solve.{E, ◌:-◌, ◌:*◌, #, Sides, ring}
use Rattle.curve.specs.Formula.{num, nat, worth, amount}
use Rattle.curve.specs.Curve.{Order, third, fourth, equation, equals}
use Rattle.curve.proofs.Written.{amount_e, powers, equating, equalling}

module _ (g p : ℕ → ℤ) (a b s⁻ c⁻ s c s⁺ c⁺ t⁻ d⁻ t d t⁺ d⁺ : ℤ) where
  abbrev all : List ℤ
  all = g 1 ∷ g 2 ∷ g 3 ∷ g 4 ∷ p 1 ∷ p 2 ∷ p 3 ∷ p 4 ∷ a ∷ b ∷ s⁻ ∷ c⁻ ∷ s ∷ c ∷ s⁺ ∷ c⁺ ∷ t⁻ ∷ d⁻ ∷ t ∷ d ∷ t⁺ ∷ d⁺ ∷ []

  abbrev combined : Order → Sides all
  combined o =
      λ g₁ g₂ g₃ g₄ p₁ p₂ p₃ p₄ a b s⁻ c⁻ s c s⁺ c⁺ t⁻ d⁻ t d t⁺ d⁺.
      let g : ℕ → E = powers g₁ g₂ g₃ g₄ in
      let p : ℕ → E = powers p₁ p₂ p₃ p₄ in
      let of : E → E → E = λ x y. a :* x :- b :* y in (
        amount_e (equating g p o (of s⁻ t⁻) (of c⁻ d⁻) (of s t) (of c d) (of s⁺ t⁺) (of c⁺ d⁺)),
        of (amount_e (equating g p o s⁻ c⁻ s c s⁺ c⁺)) (amount_e (equating g p o t⁻ d⁻ t d t⁺ d⁺)),
      )

  pub left_linear : (o : Order) →
      let of : ℤ → ℤ → ℤ = λ x y. a *ℤ x -ℤ b *ℤ y in
      amount (equating g p o (of s⁻ t⁻) (of c⁻ d⁻) (of s t) (of c d) (of s⁺ t⁺) (of c⁺ d⁺))
      ≡ of (amount (equating g p o s⁻ c⁻ s c s⁺ c⁺)) (amount (equating g p o t⁻ d⁻ t d t⁺ d⁺))
  unfolding amount worth equation
  left_linear third = ring all (combined third) tt
  left_linear fourth = ring all (combined fourth) tt

module _ (g p : ℕ → ℤ) (q : ℕ) (y⁻ y y⁺ : ℤ) where
  abbrev numbers : List ℤ
  numbers = g 1 ∷ g 2 ∷ g 3 ∷ g 4 ∷ p 1 ∷ p 2 ∷ p 3 ∷ p 4 ∷ pos q ∷ y⁻ ∷ y ∷ y⁺ ∷ []

  abbrev multiplied : Order → Sides numbers
  multiplied o =
      λ g₁ g₂ g₃ g₄ p₁ p₂ p₃ p₄ q y⁻ y y⁺.
      let g : ℕ → E = powers g₁ g₂ g₃ g₄ in
      let p : ℕ → E = powers p₁ p₂ p₃ p₄ in
      (q :* amount_e (equalling g p o (nat 1) y⁻ y y⁺), amount_e (equalling g p o (num q) y⁻ y y⁺))

  pub right_linear : (o : Order) → q · amount (equalling g p o (nat 1) y⁻ y y⁺) ≡ amount (equalling g p o (nat q) y⁻ y y⁺)
  unfolding amount worth equals
  right_linear third = ring numbers (multiplied third) tt
  right_linear fourth = ring numbers (multiplied fourth) tt

module _ (g p : ℕ → ℤ) (y⁻ y y⁺ : ℤ) (q r : ℕ) (s⁻ c⁻ s c s⁺ c⁺ t⁻ d⁻ t d t⁺ d⁺ : ℤ) where
  pub differ : (o : Order) →
      amount (equating g p o s⁻ c⁻ s c s⁺ c⁺) ≡ amount (equalling g p o (nat q) y⁻ y y⁺) →
      amount (equating g p o t⁻ d⁻ t d t⁺ d⁺) ≡ amount (equalling g p o (nat r) y⁻ y y⁺) →
      amount (equating g p o (r · s⁻ -ℤ q · t⁻) (r · c⁻ -ℤ q · d⁻) (r · s -ℤ q · t) (r · c -ℤ q · d) (r · s⁺ -ℤ q · t⁺) (r · c⁺ -ℤ q · d⁺)) ≡ pos 0
  differ o e e' =
      left_linear g p (pos r) (pos q) s⁻ c⁻ s c s⁺ c⁺ t⁻ d⁻ t d t⁺ d⁺ o
      ∙ ap₂ (λ u v. r · u -ℤ q · v) (e ∙ sym (right_linear g p q y⁻ y y⁺ o)) (e' ∙ sym (right_linear g p r y⁻ y y⁺ o))
      ∙ ring (pos q ∷ pos r ∷ amount (equalling g p o (nat 1) y⁻ y y⁺) ∷ []) (λ q r k. (r :* (q :* k) :- q :* (r :* k), # 0)) tt
