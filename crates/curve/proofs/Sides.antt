-- The jump test's sides, each over its own gap's power: right/h^d − left/k^d is jump/(h^d·k^d).
-- Assumes nothing.
use mathlib.Core.Path.{◌≡◌, sym, ap, ap₂, ◌∙◌, fun_ext}
use mathlib.Core.List.{List, [], ◌∷◌}
use Prim.Native.Nat.{ℕ, ◌*◌}
use native.Mathlib.Nat.{mul-one}
use lib.IntN.{ℤ, pos, ◌-ℤ◌, ◌*ℤ◌}
use Rattle.whole.proofs.Solve.{◌:-◌, ◌:*◌, ring}
use Rattle.curve.specs.Formula.{num, ◌⊖◌, worth, amount}
use Rattle.curve.specs.Curve.{Order, third, fourth, degree, rightward, leftward}
use Rattle.curve.specs.Card.{Knot, gap}
use Rattle.curve.specs.Jump.{inverse, clear, over, rise, jump}
use Rattle.curve.proofs.Written.{amount_e, powers, rising, rights, lefts, jumping}

-- a side of the jump test by itself, times its own gap's power
unfoldable pub right_side : Order → Knot → Knot → ℤ
right_side o b e = amount (rightward o (over (degree o) (gap b e) 0) (rise b e) (num b.m) (num e.m) (num b.M) (num e.M))

unfoldable pub left_side : Order → Knot → Knot → ℤ
left_side o a b = amount (leftward o (over (degree o) (gap a b) 0) (rise a b) (num b.m) (num a.m) (num b.M) (num a.M))

-- the powers over both gaps are those over one, times the other's
over_both : (d h k : ℕ) → over d h k ≡ (λ i. num (pos (inverse h d i * clear 0 d) *ℤ pos (clear k d)))
unfolding over clear
over_both d h k = fun_ext (λ i. ap (λ n. num (pos (n * clear k d))) (sym (mul-one (inverse h d i))))

module _ (u v : ℕ → ℤ) (k h y⁻ y y⁺ m⁻ M⁻ m M m⁺ M⁺ : ℤ) where
  abbrev all : List ℤ
  all = u 1 ∷ u 2 ∷ u 3 ∷ u 4 ∷ v 1 ∷ v 2 ∷ v 3 ∷ v 4 ∷ k ∷ h ∷ y⁻ ∷ y ∷ y⁺ ∷ m⁻ ∷ M⁻ ∷ m ∷ M ∷ m⁺ ∷ M⁺ ∷ []

  apart : (o : Order) →
      amount (jumping (λ i. u i *ℤ k) (λ i. v i *ℤ h) o (rising y y⁺) (rising y⁻ y) m⁻ M⁻ m M m⁺ M⁺)
      ≡ amount (rights u o (rising y y⁺) m m⁺ M M⁺) *ℤ k -ℤ amount (lefts v o (rising y⁻ y) m m⁻ M M⁻) *ℤ h
  unfolding amount worth rightward leftward
  apart third = ring all (λ u₁ u₂ u₃ u₄ v₁ v₂ v₃ v₄ k h y⁻ y y⁺ m⁻ M⁻ m M m⁺ M⁺. (
    amount_e (jumping (powers (u₁ :* k) (u₂ :* k) (u₃ :* k) (u₄ :* k)) (powers (v₁ :* h) (v₂ :* h) (v₃ :* h) (v₄ :* h)) third (rising y y⁺) (rising y⁻ y) m⁻ M⁻ m M m⁺ M⁺),
    amount_e (rights (powers u₁ u₂ u₃ u₄) third (rising y y⁺) m m⁺ M M⁺) :* k :- amount_e (lefts (powers v₁ v₂ v₃ v₄) third (rising y⁻ y) m m⁻ M M⁻) :* h,
  )) tt
  apart fourth = ring all (λ u₁ u₂ u₃ u₄ v₁ v₂ v₃ v₄ k h y⁻ y y⁺ m⁻ M⁻ m M m⁺ M⁺. (
    amount_e (jumping (powers (u₁ :* k) (u₂ :* k) (u₃ :* k) (u₄ :* k)) (powers (v₁ :* h) (v₂ :* h) (v₃ :* h) (v₄ :* h)) fourth (rising y y⁺) (rising y⁻ y) m⁻ M⁻ m M m⁺ M⁺),
    amount_e (rights (powers u₁ u₂ u₃ u₄) fourth (rising y y⁺) m m⁺ M M⁺) :* k :- amount_e (lefts (powers v₁ v₂ v₃ v₄) fourth (rising y⁻ y) m m⁻ M M⁻) :* h,
  )) tt

-- right/h^d − left/k^d is jump/(h^d·k^d)
pub jump_apart : (o : Order) (a b e : Knot) → jump o a b e ≡ right_side o b e *ℤ pos (clear (gap a b) (degree o)) -ℤ left_side o a b *ℤ pos (clear (gap b e) (degree o))
unfolding jump over rise right_side left_side
jump_apart o a b e =
    ap₂ (λ g p. amount (rightward o g (rising b.y e.y) (num b.m) (num e.m) (num b.M) (num e.M) ⊖ leftward o p (rising a.y b.y) (num b.m) (num a.m) (num b.M) (num a.M))) (over_both (degree o) (gap b e) (gap a b)) (over_both (degree o) (gap a b) (gap b e))
    ∙ apart (λ i. pos (inverse (gap b e) (degree o) i * clear 0 (degree o))) (λ i. pos (inverse (gap a b) (degree o) i * clear 0 (degree o))) (pos (clear (gap a b) (degree o))) (pos (clear (gap b e) (degree o)))
    a.y b.y e.y a.m a.M b.m b.M e.m e.M o
