-- A jump and its allowance are numerators over the product of the adjoining gaps' powers, at an end over the
-- one gap's: crates/curve/proofs/Sides has the jump's two sides apart. Assumes nothing.
use Prim.Native.Nat.{ℕ, zero, suc, ◌+◌, ◌-◌, ◌*◌, ◌^◌, ◌≤◌, ◌<◌, min}
use mathlib.Core.Path.{◌≡◌, refl, sym, ap, ap₂, subst, ◌∙◌}
use mathlib.Core.List.{[], ◌∷◌}
use native.Mathlib.Omega.{arith}
use native.Mathlib.Nat.{mul-one, one-mul, sub_self}
use lib.Pow.{pow-add}
use lib.IntN.{ℤ, pos, ◌+ℤ◌, ◌*ℤ◌}
use Rattle.whole.proofs.Solve.{◌:+◌, ◌:*◌, #, ring}
use Rattle.curve.specs.Formula.{num, worth, amount}
use Rattle.curve.specs.Curve.{Order, third, fourth, degree, allowance}
use Rattle.curve.specs.Kind.{Kind, quintic, sloped, sloped_allowance}
use Rattle.curve.specs.Card.{Card, Knot, knots, knot, gap, back, on, joint}
use Rattle.curve.specs.Jump.{inverse, clear, over, allowed}
use Rattle.curve.proofs.Accepted.{Rises}
use Rattle.reasons.specs.Reasons.{product, OverGaps, Scales}

-- ---- the allowance's two sides apart

pub quintic_scales : Scales quintic
unfolding quintic allowance amount worth
quintic_scales = record { scales = here }
  where
    here : (o : Order) (g : ℕ → ℤ) (k : ℤ) → amount (quintic.allowance o (λ i. num (g i *ℤ k))) ≡ amount (quintic.allowance o (λ i. num (g i))) *ℤ k
    here third g k = ring (g 1 ∷ g 2 ∷ k ∷ []) (λ g₁ g₂ k. (# 16 :* (g₂ :* k) :+ # 4 :* (g₁ :* k), (# 16 :* g₂ :+ # 4 :* g₁) :* k)) tt
    here fourth g k = ring (g 2 ∷ g 3 ∷ k ∷ []) (λ g₂ g₃ k. (# 20 :* (g₃ :* k) :+ # 4 :* (g₂ :* k), (# 20 :* g₃ :+ # 4 :* g₂) :* k)) tt

pub sloped_scales : Scales sloped
unfolding quintic sloped allowance sloped_allowance amount worth
sloped_scales = record { scales = here }
  where
    here : (o : Order) (g : ℕ → ℤ) (k : ℤ) → amount (sloped.allowance o (λ i. num (g i *ℤ k))) ≡ amount (sloped.allowance o (λ i. num (g i))) *ℤ k
    here third g k = ring (g 1 ∷ g 2 ∷ k ∷ []) (λ g₁ g₂ k. (# 0 :* (g₂ :* k) :+ # 4 :* (g₁ :* k), (# 0 :* g₂ :+ # 4 :* g₁) :* k)) tt
    here fourth g k = quintic_scales.scales fourth g k

-- a side of the allowance by itself, times its own gap's power
unfoldable pub allowed_side : Kind → Order → ℕ → ℤ
allowed_side K o h = amount (K.allowance o (λ i. num (pos (inverse h (degree o) i))))

-- side/h^d + side/k^d is allowed/(h^d·k^d)
pub allowed_apart : (K : Kind) → Scales K → (o : Order) (a b e : Knot) →
    allowed K o a b e ≡ allowed_side K o (gap b e) *ℤ pos (clear (gap a b) (degree o)) +ℤ allowed_side K o (gap a b) *ℤ pos (clear (gap b e) (degree o))
unfolding allowed allowed_side over amount worth
allowed_apart K s o a b e =
    let d = degree o in
    let h = gap b e in
    let k = gap a b in
    ap₂ ◌+ℤ◌ (s.scales o (λ i. pos (inverse h d i)) (pos (clear k d))) (s.scales o (λ i. pos (inverse k d i)) (pos (clear h d)))

-- ---- what clears a gap

-- the power i of 1/h times h^d: h^i of it are h^d
pub inverse_is : (h d i : ℕ) → 0 < h → i ≤ d → inverse h d i * h ^ i ≡ h ^ d
unfolding inverse
inverse_is zero d i p l = absurd (omega arith)
inverse_is (suc h) d i p l = let back : d - i + i ≡ d = omega arith in sym (pow-add (suc h) (d - i) i) ∙ ap (λ k. suc h ^ k) back

clear_is : (h d : ℕ) → 0 < h → clear h d ≡ h ^ d
unfolding clear
clear_is zero d p = absurd (omega arith)
clear_is (suc h) d p = refl

-- ---- on a card whose minutes rise

module _ (c : Card) (some : 2 ≤ knots c) (r : Rises c.minutes) (p : ℕ) (l : p < knots c) (o : Order) where
  abbrev d : ℕ
  d = degree o

  wide : (i : ℕ) → i + 1 < knots c → 0 < gap (knot c i) (knot c (i + 1))
  unfolding knots knot gap
  wide i h = omega (arith, r i h)

  -- the neighbours of a knot, and of an end the knot itself
  after_is : p + 1 < knots c → on c p ≡ p + 1
  unfolding on
  after_is h = omega arith

  none_after : p + 1 ≡ knots c → gap (knot c p) (knot c (on c p)) ≡ 0
  unfolding on gap
  none_after h = let same : min (p + 1) (knots c - 1) ≡ p = omega arith in rw same (sub_self (knot c p).x)

  none_before : p ≡ 0 → gap (knot c (back p)) (knot c p) ≡ 0
  unfolding back gap
  none_before h = rw h (sub_self (knot c 0).x)

  wide_before : 0 < p → 0 < gap (knot c (p - 1)) (knot c p)
  wide_before h = let same : p - 1 + 1 ≡ p = omega arith in subst (λ i. 0 < gap (knot c (p - 1)) (knot c i)) same (wide (p - 1) (omega arith))

  pub over_gaps : OverGaps c p o
  unfolding product joint back clear
  over_gaps =
      record {
        inner = λ h k. ap₂ ◌*◌ (clear_is _ d (wide_before h)) (ap (λ i. clear (gap (knot c p) (knot c i)) d) (after_is k) ∙ clear_is _ d (wide p k));
        first = λ h. ap (λ n. clear n d * clear (gap (knot c p) (knot c (on c p))) d) (none_before h) ∙ one-mul _ ∙ ap (λ i. clear (gap (knot c p) (knot c i)) d) (after_is (omega arith)) ∙ rw h (clear_is _ d (wide 0 (omega arith)));
        last = λ h. ap (λ n. clear (gap (knot c (p - 1)) (knot c p)) d * clear n d) (none_after h) ∙ mul-one _ ∙ clear_is _ d (wide_before (omega arith));
      }
