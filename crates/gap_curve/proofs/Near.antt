-- The knots of a tame gap keep within limits for which a computed test shows that no operation on P passes 64
-- bits. Assumes nothing.
use mathlib.Core.Path.{◌≡◌, ◌∙◌, ap}
use mathlib.Core.List.{[], ◌∷◌}
use Prim.Native.Nat.{ℕ, ◌*◌, ◌≤◌, ◌^◌}
use native.Mathlib.Nat.{mul_comm, mul_assoc, mul_left_comm, mul-le-mul, mul-le-mul_left, one-le-pow, pow-suc, le_of_mul-le-mul_right}
use native.Mathlib.Omega.{arith}
use lib.IntN.{ℤ, nat_abs}
use Rattle.whole.proofs.Order.{linear, abs_is}
use Rattle.whole.proofs.Solve.{v0, v1, v2, v3}
use Rattle.whole.proofs.Linear.{Within, bounded}
use Rattle.gaps.specs.declared.Knot.{Knot}
use Rattle.gaps.specs.Knots.{mirror}
use Rattle.gaps.specs.Limits.{widest, InGap, Limits, Keeps}
use Rattle.gaps.proofs.Kept.{mirror_keeps}
use Rattle.weights.specs.declared.Quantity.TheVariants.{Slope, Curvature}
use Rattle.parts.specs.Limits.{most, Tame}
use Rattle.parts.proofs.Numerators.{GapFits, gap_of}
use Rattle.gap_curve.specs.GapCurve.{side}
use Rattle.gap_curve.specs.Limits.{near}
use Rattle.gap_curve.proofs.Coded.{level_e, rise_e, bend_e}

module _ {L : Limits} {h : ℕ} (w : 1 ≤ h) (g : GapFits L h) where
  -- what a slope that fits 32 bits leaves of the ordinates
  ordinates : L.ordinates ≤ 2 ^ 23
  unfolding most
  ordinates =
      let p = h ^ 4 in
      le_of_mul-le-mul_right {k = p}
      (omega (arith, (g.quantities Slope).read, pow-suc h 4, mul_left_comm L.ordinates 160 p, mul-le-mul_left p g.narrow))
      (one-le-pow 4 h w)

  -- and a curvature of the curvatures
  curvatures : L.curvatures ≤ 2 ^ 30
  unfolding most
  curvatures =
      let p = h * h * h ^ 3 in
      le_of_mul-le-mul_right {k = p} (omega (arith, (g.quantities Curvature).read, left, right)) (mul-le-mul (mul-le-mul w w) (one-le-pow 3 h w))
    where
      left : h * h * (L.curvatures * (96 * h ^ 3)) ≡ 96 * (L.curvatures * (h * h * h ^ 3))
      left = ap (λ z. h * h * z) (mul_left_comm L.curvatures 96 (h ^ 3)) ∙ mul_left_comm (h * h) 96 (L.curvatures * h ^ 3) ∙ ap (λ z. 96 * z) (mul_left_comm (h * h) L.curvatures (h ^ 3))

      right : h ^ 5 ≡ h * h * h ^ 3
      right = pow-suc h 4 ∙ ap (λ z. z * h) (pow-suc h 3) ∙ mul_assoc (h ^ 3) h h ∙ mul_comm (h ^ 3) (h * h)

-- the knots of a tame gap
module _ {h t : ℤ} (g : InGap h t) {a b : Knot} (w : Tame h a b) where
  abbrev fits : GapFits w.limits (nat_abs h)
  fits = gap_of w.limits (nat_abs h) w.fits

  wide : 1 ≤ nat_abs h
  wide = omega (linear, g.wide, abs_is h)

  keeps : {k : Knot} → Keeps w.limits k → Keeps near k
  keeps p = record { ordinate = omega (arith, p.ordinate, ordinates wide fits); slope = omega (arith, p.slope, fits.small); curvature = omega (arith, p.curvature, curvatures wide fits) }

  pub left_near : Keeps near a
  left_near = keeps w.left

  pub right_near : Keeps near (mirror b)
  right_near = keeps (mirror_keeps w.right)

-- ---- P's numbers

module _ (h : ℤ) (k : Knot) (w : nat_abs h ≤ widest) (n : Keeps near k) where
  numbers : Within (h ∷ k.ordinate ∷ k.slope ∷ k.curvature ∷ []) (widest ∷ 2 ^ 23 ∷ 2 ^ 31 ∷ 2 ^ 30 ∷ [])
  numbers = record { each = (w, (n.ordinate, (n.slope, (n.curvature, tt)))) }

  pub level_small : nat_abs (side h k).level ≤ 2 ^ 50
  unfolding side
  level_small = omega (arith, bounded numbers (level_e v0 v1))

  pub rise_small : nat_abs (side h k).rise ≤ 2 ^ 47
  unfolding side
  rise_small = omega (arith, bounded numbers (rise_e v0 v1 v2))

  pub bend_small : nat_abs (side h k).bend ≤ 2 ^ 44
  unfolding side
  bend_small = omega (arith, bounded numbers (bend_e v0 v1 v2 v3))
