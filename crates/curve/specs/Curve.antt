-- Document 01's formulas, token for token: "The exact curve", "The jump test", "The equations".
-- Powers are a function: `g 3` is the document's g3. Assumes nothing.
use Rattle.std.specs.Prelude.{ℕ}
use Rattle.curve.specs.Formula.{Formula, τ, nat, ◌⊕◌, ◌⊖◌, ◌⊗◌, ◌⊛◌, ◌^^◌}

-- the derivatives that the equations and the jump test are about
pub data Order : Type 0 where
  third fourth : Order

unfoldable pub degree : Order → ℕ
degree third = 3
degree fourth = 4

module _ {A : Type 0} where
  -- "The exact curve": on a gap h, at τ minutes from its left knot, with right-hand numbers marked '
  unfoldable pub N : (h y y' m m' M M' : Formula A) → Formula A
  N h y y' m m' M M' =
      let σ = h ⊖ τ in
      8192 ⊛ (y ⊗ σ ^^ 3 ⊗ (h ^^ 2 ⊕ 3 ⊛ h ⊗ τ ⊕ 6 ⊛ τ ^^ 2) ⊕ y' ⊗ τ ^^ 3 ⊗ (h ^^ 2 ⊕ 3 ⊛ h ⊗ σ ⊕ 6 ⊛ σ ^^ 2))
      ⊕ 2 ⊛ h ⊗ (m ⊗ τ ⊗ σ ^^ 3 ⊗ (h ⊕ 3 ⊛ τ) ⊖ m' ⊗ σ ⊗ τ ^^ 3 ⊗ (h ⊕ 3 ⊛ σ))
      ⊕ h ^^ 2 ⊗ (M ⊗ τ ^^ 2 ⊗ σ ^^ 3 ⊕ M' ⊗ σ ^^ 2 ⊗ τ ^^ 3)

  -- "The jump test": right third and right fourth
  unfoldable pub rightward : Order → (ℕ → Formula A) → (D m m' M M' : Formula A) → Formula A
  rightward third g D m m' M M' = 20 ⊛ D ⊗ g 3 ⊖ 12 ⊛ m ⊗ g 2 ⊖ 8 ⊛ m' ⊗ g 2 ⊖ 3 ⊛ M ⊗ g 1 ⊕ M' ⊗ g 1
  rightward fourth g D m m' M M' = nat 0 ⊖ 30 ⊛ D ⊗ g 4 ⊕ (16 ⊛ m ⊕ 14 ⊛ m') ⊗ g 3 ⊕ (3 ⊛ M ⊖ 2 ⊛ M') ⊗ g 2

  -- left third and left fourth, from the gap on the left with its left numbers marked °
  unfoldable pub leftward : Order → (ℕ → Formula A) → (E m m° M M° : Formula A) → Formula A
  leftward third p E m m° M M° = 20 ⊛ E ⊗ p 3 ⊖ 12 ⊛ m ⊗ p 2 ⊖ 8 ⊛ m° ⊗ p 2 ⊕ 3 ⊛ M ⊗ p 1 ⊖ M° ⊗ p 1
  leftward fourth p E m m° M M° = 30 ⊛ E ⊗ p 4 ⊖ (16 ⊛ m ⊕ 14 ⊛ m°) ⊗ p 3 ⊕ (3 ⊛ M ⊖ 2 ⊛ M°) ⊗ p 2

  -- "Allowance per side"
  unfoldable pub allowance : Order → (ℕ → Formula A) → Formula A
  allowance third g = 16 ⊛ g 2 ⊕ 4 ⊛ g 1
  allowance fourth g = 20 ⊛ g 3 ⊕ 4 ⊛ g 2

  -- "The equations": each one's left side, and its right side below
  unfoldable pub equation : Order → (ℕ → Formula A) → (ℕ → Formula A) → (s⁻ c⁻ s c s⁺ c⁺ : Formula A) → Formula A
  equation fourth g p s⁻ c⁻ s c s⁺ c⁺ = 56 ⊛ p 3 ⊗ s⁻ ⊕ 8 ⊛ p 2 ⊗ c⁻ ⊕ 64 ⊛ (p 3 ⊕ g 3) ⊗ s ⊕ 12 ⊛ (g 2 ⊖ p 2) ⊗ c ⊕ 56 ⊛ g 3 ⊗ s⁺ ⊖ 8 ⊛ g 2 ⊗ c⁺
  equation third g p s⁻ c⁻ s c s⁺ c⁺ = nat 0 ⊖ 8 ⊛ p 2 ⊗ s⁻ ⊖ p 1 ⊗ c⁻ ⊕ 12 ⊛ (g 2 ⊖ p 2) ⊗ s ⊕ 3 ⊛ (p 1 ⊕ g 1) ⊗ c ⊕ 8 ⊛ g 2 ⊗ s⁺ ⊖ g 1 ⊗ c⁺

  unfoldable pub equals : Order → (ℕ → Formula A) → (ℕ → Formula A) → (D E : Formula A) → Formula A
  equals fourth g p D E = 120 ⊛ (g 4 ⊗ D ⊕ p 4 ⊗ E)
  equals third g p D E = 20 ⊛ (g 3 ⊗ D ⊖ p 3 ⊗ E)
