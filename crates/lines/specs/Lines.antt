-- Document 02, order 8, "Values with measured slopes": a knot's one equation, the third-derivative row with
-- the given slopes moved to the right side, over any numbers and in binary64; and its elimination, "document
-- 01's with one number per knot". Assumes nothing.
use Rattle.std.specs.Prelude.{ℕ, Bool, cond, ℤ, pos, Float, Option}
use Rattle.std.specs.Float.{binary64}
use Rattle.std.specs.Float.Ieee.{of_bits, of_int}
use Rattle.coefficients.specs.Coefficients.{Arithmetic}
use Rattle.rows.specs.declared.Pair.{Pair}
use Rattle.rows.specs.declared.Gap.{Gap}
use Rattle.rows.specs.Floats.{◌⊖◌, ◌⊗◌, ◌⊘◌, f0, floats}
use Rattle.rows.specs.Equations.{pair, block, at}
use Rattle.elimination.specs.declared.State.{State}
use Rattle.elimination.specs.Refusal.{judged}
use Rattle.lines.specs.declared.Line.{Line}

-- ---- card units

-- how many card units a hundredth has
abbrev pub f4096 : Float
f4096 = of_bits binary64 0x40b0_0000_0000_0000

-- "each slope becomes the float m/4096": hundredths per minute (squared, for a curvature)
abbrev pub hundredths : ℤ → Float
hundredths z = of_int binary64 z ⊘ f4096

-- ---- the equation

-- L·(curvature before) + A·(curvature) + R·(next curvature) = k
pub record Equation (X : Type 0) : Type 0 where
  pub a : X
  pub l : X
  pub r : X
  pub k : X

module _ {X : Type 0} (arithmetic : Arithmetic X) where
  open arithmetic use {◌⊕◌, ◌⊖◌, ◌⊗◌, minus, n3, n8, n12, n20}

  infixl 60 ◌⊕◌
  infixl 60 ◌⊖◌
  infixl 70 ◌⊗◌
  -- "A is 3·(p+g), L is −p, R is −g"; "k is 20·(g3·D−p3·E) − (((12·(g2−p2))·s + (8·g2)·s+) − (8·p2)·s−)"
  abbrev pub equation : (p : ℕ → X) (E : X) (g : ℕ → X) (D : X) (s⁻ s s⁺ : X) → Equation X
  equation p E g D s⁻ s s⁺ =
      record {
        a = n3 ⊗ (p 1 ⊕ g 1);
        l = minus (p 1);
        r = minus (g 1);
        k = n20 ⊗ (g 3 ⊗ D ⊖ p 3 ⊗ E) ⊖ (((n12 ⊗ (g 2 ⊖ p 2)) ⊗ s ⊕ (n8 ⊗ g 2) ⊗ s⁺) ⊖ (n8 ⊗ p 2) ⊗ s⁻);
      }

abbrev pub line_of : Equation Float → Line
line_of x = record { a = x.a; l = x.l; r = x.r; k = x.k }

-- of a knot with these gaps on its left and right, in binary64
abbrev pub line : Gap → Gap → (before here after : Float) → Line
line p g before here after = line_of (equation floats (at p.powers) p.rise (at g.powers) g.rise before here after)

-- ---- its elimination: "S, t, H, P .. are as there, each product a single one"

-- S = A − L-as-H and t = k − L-as-P, with H and P of the knot before; at the first knot S = A, t = k
abbrev pub reduced : (own l before : Float) → Bool → Float
reduced own l before first = cond first own (own ⊖ l ⊗ before)

-- H and P in the curvatures' places, zeros beside them
abbrev pub single : (h p : Float) → State
single h p = record { h = block f0 f0 f0 h; p = pair f0 p }

-- "S standing for the determinant, and solving is one division by S"; zero stands for H at the last knot
unfoldable pub line_solved : (s t r : Float) → Bool → Option State
line_solved s t r last = judged s (single (cond last f0 (r ⊘ s)) (t ⊘ s))

-- a knot with this equation, once the knot before is eliminated
unfoldable pub line_eliminated : Line → State → Bool → Bool → Option State
line_eliminated x before first last = line_solved (reduced x.a x.l before.h.e22 first) (reduced x.k x.l before.p.c first) x.r last

-- P − H·(next curvature)
abbrev pub line_back : State → Pair → Pair
line_back x next = pair f0 (x.p.c ⊖ x.h.e22 ⊗ next.c)
