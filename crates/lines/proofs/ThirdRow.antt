-- The line of a knot is the third-derivative row of `coefficients` with the products of the slopes moved to
-- its right side: in binary64 by its coefficients, and in whole numbers as an equation. Assumes nothing.
use Prim.Native.Nat.{ℕ}
use mathlib.Core.Path.{◌≡◌, refl}
use mathlib.Core.List.{[], ◌∷◌}
use lib.IntN.{ℤ}
use lib.Ieee.{Float}
use Rattle.whole.proofs.Solve.{E as Expression, #, ring}
use Rattle.curve.proofs.Written.{powers}
use Rattle.coefficients.specs.Coefficients.{Arithmetic, exact, Rows, column, rows, left_side}
use Rattle.coefficients.proofs.Equations.{expressions}
use Rattle.rows.specs.Floats.{◌⊕◌, ◌⊖◌, ◌⊗◌, floats}
use Rattle.rows.specs.declared.Gap.{Gap}
use Rattle.rows.specs.Equations.{at}
use Rattle.lines.specs.Lines.{Equation, equation, line, line_of}

-- ---- in whole numbers

-- a knot with the powers p and the rise E of the gap on its left, g and D on its right; the pairs of the knot
-- before, its own, and of the next knot
module _ {X : Type 0} (arithmetic : Arithmetic X) (p : ℕ → X) (E : X) (g : ℕ → X) (D s⁻ c⁻ s c s⁺ c⁺ : X) where
  open arithmetic use {◌⊕◌, ◌⊖◌, ◌⊗◌}

  infixl 60 ◌⊕◌
  infixl 60 ◌⊖◌
  infixl 70 ◌⊗◌
  -- the left side less the right side
  abbrev by_row : X
  by_row = (left_side arithmetic (rows arithmetic p E g D) (column s⁻ c⁻) (column s c) (column s⁺ c⁺)).c ⊖ (rows arithmetic p E g D).k.c

  abbrev by_line : X
  by_line = let x = equation arithmetic p E g D s⁻ s s⁺ in x.l ⊗ c⁻ ⊕ x.a ⊗ c ⊕ x.r ⊗ c⁺ ⊖ x.k

pub line_is_third_row : (p : ℕ → ℤ) (E : ℤ) (g : ℕ → ℤ) (D s⁻ c⁻ s c s⁺ c⁺ : ℤ) → by_row exact p E g D s⁻ c⁻ s c s⁺ c⁺ ≡ by_line exact p E g D s⁻ c⁻ s c s⁺ c⁺
line_is_third_row p E g D s⁻ c⁻ s c s⁺ c⁺ =
    ring (p 1 ∷ p 2 ∷ p 3 ∷ g 1 ∷ g 2 ∷ g 3 ∷ E ∷ D ∷ s⁻ ∷ c⁻ ∷ s ∷ c ∷ s⁺ ∷ c⁺ ∷ [])
    (λ p₁ p₂ p₃ g₁ g₂ g₃ E D s⁻ c⁻ s c s⁺ c⁺.
    let p : ℕ → Expression = powers p₁ p₂ p₃ (# 0) in
    let g : ℕ → Expression = powers g₁ g₂ g₃ (# 0) in
    (by_row expressions p E g D s⁻ c⁻ s c s⁺ c⁺, by_line expressions p E g D s⁻ c⁻ s c s⁺ c⁺)) tt

-- ---- in binary64

-- 8·p2, which L has in its other row, is subtracted where the third-derivative row adds its negative
pub coefficients_are : (p g : Gap) (before here after : Float)
    → let x : Rows Float = rows floats (at p.powers) p.rise (at g.powers) g.rise in
    line p g before here after
    ≡ line_of (record { a = x.a.e22; l = x.l.e22; r = x.r.e22; k = x.k.c ⊖ (x.a.e21 ⊗ here ⊕ x.r.e21 ⊗ after ⊖ x.l.e12 ⊗ before) })
coefficients_are p g before here after = refl
