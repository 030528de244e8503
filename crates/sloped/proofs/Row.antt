-- The third derivative's equation with its slopes given: what is left of it for the curvatures, and the jump
-- as what it wants. Assumes nothing.
use mathlib.Core.Path.{◌≡◌}
use mathlib.Core.List.{[], ◌∷◌}
use Prim.Native.Nat.{ℕ}
use lib.IntN.{ℤ, pos, ◌+ℤ◌, ◌-ℤ◌}
use Rattle.whole.specs.Whole.{◌·◌}
use Rattle.whole.proofs.Solve.{E, ◌:+◌, ◌:-◌, ◌:*◌, #, ring}
use Rattle.curve.specs.Formula.{nat, worth, amount}
use Rattle.curve.specs.Curve.{third, rightward, leftward, equation, equals}
use Rattle.curve.proofs.Written.{amount_e, powers, rising, jumping, equating, equalling}
use Rattle.dominant.proofs.Dominant.{left_side}

module _ (g p : ℕ → ℕ) where
  abbrev G : ℕ → ℤ
  G j = pos (g j)

  abbrev P : ℕ → ℤ
  P j = pos (p j)

  -- the slopes' part of the equation and the curvatures'
  pub in_two : (q : ℕ) (m⁻ c⁻ m c m⁺ c⁺ : ℤ) →
      amount (equating G P third (q · m⁻) c⁻ (q · m) c (q · m⁺) c⁺) ≡ q · amount (equating G P third m⁻ (pos 0) m (pos 0) m⁺ (pos 0)) +ℤ left_side (g 1) (p 1) c⁻ c c⁺
  unfolding amount worth equation
  in_two q m⁻ c⁻ m c m⁺ c⁺ =
      ring (pos q ∷ G 1 ∷ G 2 ∷ P 1 ∷ P 2 ∷ m⁻ ∷ c⁻ ∷ m ∷ c ∷ m⁺ ∷ c⁺ ∷ [])
      (λ q g₁ g₂ p₁ p₂ m⁻ c⁻ m c m⁺ c⁺.
      let g : ℕ → E = powers g₁ g₂ g₂ g₂ in
      let p : ℕ → E = powers p₁ p₂ p₂ p₂ in (
        amount_e (equating g p third (q :* m⁻) c⁻ (q :* m) c (q :* m⁺) c⁺),
        q :* amount_e (equating g p third m⁻ (# 0) m (# 0) m⁺ (# 0)) :+ (# 3 :* (p₁ :+ g₁) :* c :- p₁ :* c⁻ :- g₁ :* c⁺),
      )) tt

  -- without slopes
  pub curvatures_alone : (c⁻ c c⁺ : ℤ) → amount (equating G P third (pos 0) c⁻ (pos 0) c (pos 0) c⁺) ≡ left_side (g 1) (p 1) c⁻ c c⁺
  unfolding amount worth equation
  curvatures_alone c⁻ c c⁺ =
      ring (G 1 ∷ G 2 ∷ P 1 ∷ P 2 ∷ c⁻ ∷ c ∷ c⁺ ∷ [])
      (λ g₁ g₂ p₁ p₂ c⁻ c c⁺.
      let g : ℕ → E = powers g₁ g₂ g₂ g₂ in
      let p : ℕ → E = powers p₁ p₂ p₂ p₂ in (
        amount_e (equating g p third (# 0) c⁻ (# 0) c (# 0) c⁺),
        # 3 :* (p₁ :+ g₁) :* c :- p₁ :* c⁻ :- g₁ :* c⁺,
      )) tt

  -- the jump of a card's numbers is what their left side lacks
  pub jump_is : (y⁻ y y⁺ m⁻ M⁻ m M m⁺ M⁺ : ℤ) →
      amount (jumping G P third (rising y y⁺) (rising y⁻ y) m⁻ M⁻ m M m⁺ M⁺) ≡ amount (equalling G P third (nat 4096) y⁻ y y⁺) -ℤ amount (equating G P third m⁻ M⁻ m M m⁺ M⁺)
  unfolding amount worth rightward leftward equation equals
  jump_is y⁻ y y⁺ m⁻ M⁻ m M m⁺ M⁺ =
      ring (G 1 ∷ G 2 ∷ G 3 ∷ P 1 ∷ P 2 ∷ P 3 ∷ y⁻ ∷ y ∷ y⁺ ∷ m⁻ ∷ M⁻ ∷ m ∷ M ∷ m⁺ ∷ M⁺ ∷ [])
      (λ g₁ g₂ g₃ p₁ p₂ p₃ y⁻ y y⁺ m⁻ M⁻ m M m⁺ M⁺.
      let g : ℕ → E = powers g₁ g₂ g₃ g₃ in
      let p : ℕ → E = powers p₁ p₂ p₃ p₃ in (
        amount_e (jumping g p third (rising y y⁺) (rising y⁻ y) m⁻ M⁻ m M m⁺ M⁺),
        amount_e (equalling g p third (nat 4096) y⁻ y y⁺) :- amount_e (equating g p third m⁻ M⁻ m M m⁺ M⁺),
      )) tt
