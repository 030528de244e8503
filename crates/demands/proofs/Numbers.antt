-- The numbers of an accepted card, of either kind, are of their types: the kinds have the same limits.
-- Assumes nothing.
use Prim.Native.Nat.{ℕ, ◌≤◌, ◌<◌}
use mathlib.Core.Path.{◌≡◌, refl, subst}
use mathlib.Core.Logic.{inl, inr}
use mathlib.Core.Bool.{false}
use mathlib.Core.List.{List}
use native.Mathlib.Decide.{dec_lt}
use native.Mathlib.Omega.{arith}
use lib.IntN.{ℤ, pos, nat_abs}
use lib.ListN.{length, get_or, get_or-eq_default}
use borrow.Author.Tests.{ltb-false}
use Rattle.whole.specs.Whole.{beyond}
use Rattle.whole.proofs.Linear.{abs_fits}
use Rattle.answer.specs.Answer.{accepted}
use Rattle.answer.proofs.Steps.{accepts_each}
use Rattle.curve.specs.Kind.{Kind, quintic, sloped}
use Rattle.curve.specs.Card.{Card, knots, knot}
use Rattle.curve.specs.Steps.{in_range}
use Rattle.curve.specs.Orders.{verdict}
use Rattle.curve.proofs.Accepted.{Good, good}
use Rattle.knots.proofs.Accepted.{Ranged, ranged}
use Rattle.card_bytes.specs.Records.{Known}
use Rattle.card_bytes.proofs.Kept.{Numbers}
use Rattle.kaihveto.specs.Types.{Minutes}

record Bounds (K : Kind) : Type 0 where
  ordinates : K.ordinates ≡ quintic.ordinates
  slopes : K.slopes ≡ quintic.slopes
  curvatures : (gap : ℕ) → K.curvatures gap ≡ quintic.curvatures 0
  codes : (code : ℕ) → K.no_code code ≡ false → code ≤ 2

bounds : {K : Kind} → Known K → Bounds K
unfolding quintic sloped
bounds (inl e) = rw e (record { ordinates = refl; slopes = refl; curvatures = λ gap. refl; codes = λ code h. ltb-false 2 code h })
bounds (inr e) = rw e (record { ordinates = refl; slopes = refl; curvatures = λ gap. refl; codes = λ code h. omega (arith, ltb-false 0 code h) })

-- a bound at each place of a list holds behind it too, where zeros are read
everywhere : (l : List ℤ) (most : ℕ) → ((i : ℕ) → i < length l → nat_abs (get_or l i (pos 0)) ≤ most) → (i : ℕ) → nat_abs (get_or l i (pos 0)) ≤ most
everywhere l most h i = elim (dec_lt i (length l)) [ yes p ↦ h i p | no p ↦ behind (get_or-eq_default l (pos 0) (omega arith)) ]
  where
    behind : get_or l i (pos 0) ≡ pos 0 → nat_abs (get_or l i (pos 0)) ≤ most
    behind e = rw e (omega arith)

pub typed : {K : Kind} → Known K → (c : Card) → verdict K c ≡ accepted → Minutes c.minutes → Numbers c
unfolding knots knot quintic beyond Minutes
typed {K} known c e x =
    record {
      typed = λ i. record { x = x i; y = abs_fits (omega (arith, ordinates i)); m = abs_fits (omega (arith, slopes i)); M = abs_fits (omega (arith, curvatures i)) };
      left = omega (arith, b.codes c.left g.left_code);
      right = omega (arith, b.codes c.right g.right_code);
    }
  where
    b : Bounds K
    b = bounds known

    g : Good K c
    g = good K c e

    r : Ranged K c.minutes c.slopes c.curvatures
    r = ranged c (accepts_each (in_range K c) 0 (length c.minutes) (λ i p l. g.ranged i (omega arith)))

    ordinates : (i : ℕ) → nat_abs (get_or c.ordinates i (pos 0)) ≤ quintic.ordinates
    ordinates = everywhere c.ordinates quintic.ordinates (λ j l. subst (λ most. nat_abs (get_or c.ordinates j (pos 0)) ≤ most) b.ordinates (ltb-false _ _ (g.y_in j (omega (arith, g.ys)))))

    slopes : (i : ℕ) → nat_abs (get_or c.slopes i (pos 0)) ≤ quintic.slopes
    slopes = everywhere c.slopes quintic.slopes (λ j l. subst (λ most. nat_abs (get_or c.slopes j (pos 0)) ≤ most) b.slopes (r.slopes j (omega (arith, g.ms))))

    curvatures : (i : ℕ) → nat_abs (get_or c.curvatures i (pos 0)) ≤ quintic.curvatures 0
    curvatures = everywhere c.curvatures (quintic.curvatures 0) (λ j l. subst (λ most. nat_abs (get_or c.curvatures j (pos 0)) ≤ most) (b.curvatures _) (r.curvatures j (omega (arith, g.Ms))))
