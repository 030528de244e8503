-- A curve that was laid from one knot to another: its numbers fit, what its knots add is the numerators of
-- document 01's exact curve, and what it reads is what the document reads there. Assumes nothing.
use mathlib.Core.Path.{◌≡◌, sym, ◌∙◌, ap, ap₂, subst}
use Prim.Native.Nat.{ℕ, ◌+◌, ◌*◌, ◌<◌, ◌^◌}
use lib.IntN.{ℤ, nat_abs, ◌+ℤ◌, ◌-ℤ◌}
use Rattle.whole.specs.Whole.{nearest}
use Rattle.curve.specs.Formula.{worth, ∂^}
use Rattle.curve.specs.Reading.{reads}
use Rattle.gaps.specs.Knots.{mirror, placed}
use Rattle.gaps.specs.Limits.{InGap}
use Rattle.weights.specs.declared.Quantity.{Quantity}
use Rattle.weights.specs.declared.Quantity.TheVariants.{Value, Slope, Curvature}
use Rattle.weights.specs.Weights.{derivative}
use Rattle.parts.specs.Parts.{drawn, under}
use Rattle.reading.specs.Shown.{shown}
use Rattle.reading.proofs.Rounds.{rounds, reading_is}
use Rattle.gap_curve.specs.declared.GapCurve.{GapCurve}
use Rattle.gap_curve.specs.GapCurve.{side, shares, laid, added, read_of}
use Rattle.gap_curve.specs.Limits.{Fair, Laid}
use Rattle.gap_curve.proofs.Coded.{share}
use Rattle.gap_curve.proofs.Shared.{both_fit, together, left_fair, right_fair}

-- what stands under a quantity
abbrev pub beneath : Quantity → GapCurve → ℕ
beneath Value g = g.under
beneath Slope g = g.base
beneath Curvature g = g.base

module _ {g : GapCurve} (p : Laid g) where
  left_is : g.left ≡ side g.h p.from
  unfolding laid
  left_is = ap (λ g. g.left) p.is

  right_is : g.right ≡ side g.h (mirror p.to)
  unfolding laid
  right_is = ap (λ g. g.right) p.is

  pub beneath_is : (q : Quantity) → beneath q g ≡ under q * nat_abs g.h ^ 5
  unfolding laid
  beneath_is Value = ap (λ g. g.under) p.is
  beneath_is Slope = ap (λ g. g.base) p.is
  beneath_is Curvature = ap (λ g. g.base) p.is

  module _ {t : ℤ} (i : InGap g.h t) where
    -- what `shares_of` asks, for either knot
    pub fair_left : Fair g.left t (g.h -ℤ t)
    fair_left = subst (λ k. Fair k t (g.h -ℤ t)) (sym left_is) (left_fair i p.tame)

    pub fair_right : Fair g.right (g.h -ℤ t) t
    fair_right = subst (λ k. Fair k (g.h -ℤ t) t) (sym right_is) (right_fair i p.tame)

    pub sides_fit : (q : Quantity) → nat_abs (share q (shares g.left t (g.h -ℤ t))) + nat_abs (share q (shares g.right (g.h -ℤ t) t)) < 2 ^ 63
    sides_fit q =
        subst (λ l. nat_abs (share q (shares l t (g.h -ℤ t))) + nat_abs (share q (shares g.right (g.h -ℤ t) t)) < 2 ^ 63) (sym left_is)
        (subst (λ r. nat_abs (share q (shares (side g.h p.from) t (g.h -ℤ t))) + nat_abs (share q (shares r (g.h -ℤ t) t)) < 2 ^ 63) (sym right_is) (both_fit i p.tame q))

    pub added_is : (q : Quantity) → share q (added g t) ≡ worth (∂^ (derivative q) (drawn g.h p.from p.to)) t
    unfolding added
    added_is Value = ap₂ (λ l r. (shares l t (g.h -ℤ t)).value +ℤ (shares r (g.h -ℤ t) t).value) left_is right_is ∙ together i p.tame Value
    added_is Slope = ap₂ (λ l r. (shares l t (g.h -ℤ t)).slope -ℤ (shares r (g.h -ℤ t) t).slope) left_is right_is ∙ together i p.tame Slope
    added_is Curvature = ap₂ (λ l r. (shares l t (g.h -ℤ t)).curvature +ℤ (shares r (g.h -ℤ t) t).curvature) left_is right_is ∙ together i p.tame Curvature

    pub rounds_is : (q : Quantity) → nearest (share q (added g t)) (beneath q g) ≡ rounds q g.h t p.from p.to
    rounds_is q = ap₂ nearest (added_is q) (beneath_is q)

    pub laid_reads : read_of g t ≡ shown (reads (placed 0 p.from) (placed (nat_abs g.h) p.to) (nat_abs t))
    unfolding read_of
    laid_reads = (λ k. record { value = rounds_is Value k; slope = rounds_is Slope k; curvature = rounds_is Curvature k }) ∙ sym (reading_is p.from p.to i)
