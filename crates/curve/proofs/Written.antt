-- The formulas of specs/ over any numbers A: at ℤ they are the definitions', at the solver's expressions they are what `ring` takes.
-- A formula over the solver's expressions is an expression, worth what the formula is worth: by computation.
-- Assumes nothing.
use Prim.Native.Nat.{ℕ, zero, suc}
use Rattle.whole.proofs.Solve.{E, ◌:+◌, ◌:-◌, ◌:*◌, #}
use Rattle.curve.specs.Formula.{Formula, τ, num, nat, ◌⊕◌, ◌⊖◌, ◌⊗◌, ◌⊛◌, ◌^^◌}
use Rattle.curve.specs.Curve.{Order, N, rightward, leftward, equation, equals}

abbrev pub power_e : E → ℕ → E
power_e z zero = # 1
power_e z (suc n) = z :* power_e z n

abbrev pub worth_e : Formula E → E → E
worth_e τ t = t
worth_e (num k) t = k
worth_e (nat n) t = # n
worth_e (a ⊕ b) t = worth_e a t :+ worth_e b t
worth_e (a ⊖ b) t = worth_e a t :- worth_e b t
worth_e (a ⊗ b) t = worth_e a t :* worth_e b t
worth_e (a ^^ n) t = power_e (worth_e a t) n

abbrev pub amount_e : Formula E → E
amount_e a = worth_e a (# 0)

-- ---- document 01's formulas

module _ {A : Type 0} where
  -- the exact curve's numerator
  abbrev pub curve : (h y y' m m' M M' : A) → Formula A
  curve h y y' m m' M M' = N (num h) (num y) (num y') (num m) (num m') (num M) (num M')

  -- g by its powers
  abbrev pub powers : A → A → A → A → ℕ → A
  powers g₁ g₂ g₃ g₄ zero = g₁
  powers g₁ g₂ g₃ g₄ (suc zero) = g₁
  powers g₁ g₂ g₃ g₄ (suc (suc zero)) = g₂
  powers g₁ g₂ g₃ g₄ (suc (suc (suc zero))) = g₃
  powers g₁ g₂ g₃ g₄ (suc (suc (suc (suc n)))) = g₄

  -- a difference of ordinates in card units
  abbrev pub rising : A → A → Formula A
  rising y y⁺ = 4096 ⊛ (num y⁺ ⊖ num y)

  -- the sides of the jump test, and the jump
  abbrev pub rights : (ℕ → A) → Order → Formula A → (m m⁺ M M⁺ : A) → Formula A
  rights g o D m m⁺ M M⁺ = rightward o (λ i. num (g i)) D (num m) (num m⁺) (num M) (num M⁺)

  abbrev pub lefts : (ℕ → A) → Order → Formula A → (m m⁻ M M⁻ : A) → Formula A
  lefts p o E m m⁻ M M⁻ = leftward o (λ i. num (p i)) E (num m) (num m⁻) (num M) (num M⁻)

  abbrev pub jumping : (g p : ℕ → A) → Order → (D E : Formula A) → (m⁻ M⁻ m M m⁺ M⁺ : A) → Formula A
  jumping g p o D E m⁻ M⁻ m M m⁺ M⁺ = rights g o D m m⁺ M M⁺ ⊖ lefts p o E m m⁻ M M⁻

  -- the equations' two sides
  abbrev pub equating : (g p : ℕ → A) → Order → (s⁻ c⁻ s c s⁺ c⁺ : A) → Formula A
  equating g p o s⁻ c⁻ s c s⁺ c⁺ = equation o (λ i. num (g i)) (λ i. num (p i)) (num s⁻) (num c⁻) (num s) (num c) (num s⁺) (num c⁺)

  abbrev pub equalling : (g p : ℕ → A) → Order → Formula A → (y⁻ y y⁺ : A) → Formula A
  equalling g p o q y⁻ y y⁺ = equals o (λ i. num (g i)) (λ i. num (p i)) (q ⊗ (num y⁺ ⊖ num y)) (q ⊗ (num y ⊖ num y⁻))
