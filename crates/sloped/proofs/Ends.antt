-- Document 02, order 8: an accepted card's third derivative at either end, "with allowance 4g per side, at
-- both ends too". The missing gap is the gap 0, and the jump over it is the one side that there is. Assumes
-- nothing.
use mathlib.Core.Path.{◌≡◌, refl, sym, ap, ap₂, ◌∙◌, subst}
use mathlib.Core.List.{[], ◌∷◌}
use Prim.Native.Nat.{ℕ, zero, suc, ◌+◌, ◌-◌, ◌*◌, ◌^◌, min, ◌≤◌, ◌<◌}
use native.Mathlib.Nat.{sub_self, mul_assoc, mul_comm, mul-one, zero-mul, pow-suc, one-le-pow, mul-le-mul_right, le_of_mul-le-mul_right}
use native.Mathlib.Omega.{arith}
use lib.IntN.{ℤ, pos, nat_abs, neg_ℤ, ◌-ℤ◌, ◌*ℤ◌}
use Rattle.whole.specs.Whole.{◌·◌}
use Rattle.whole.proofs.Solve.{◌:-◌, ◌:*◌, :neg, #, ring}
use Rattle.whole.proofs.Order.{abs_mul, abs_neg}
use Rattle.answer.specs.Answer.{accepted}
use Rattle.curve.specs.Formula.{worth, amount}
use Rattle.curve.specs.Curve.{third, degree, rightward, leftward}
use Rattle.curve.specs.Kind.{quintic, sloped}
use Rattle.curve.specs.Card.{Card, Knot, knots, knot, gap, back, on}
use Rattle.curve.specs.Jump.{inverse, clear, over, rise, jump}
use Rattle.curve.specs.Reading.{denominator}
use Rattle.curve.specs.Orders.{verdict}
use Rattle.curve.specs.Demand.{exact, share}
use Rattle.curve.proofs.Written.{amount_e, rising, rights, lefts}
use Rattle.curve.proofs.Sides.{right_side, left_side, jump_apart}
use Rattle.curve.proofs.Derivatives.{rightward_is, leftward_is}
use Rattle.curve.proofs.Accepted.{Good, good, gap_wide}
use Rattle.sloped.specs.Sloped.{AtMostFour, FlatEnds}
use Rattle.sloped.proofs.Sloped.{jump_within_4g}

-- over the gap 0 there is nothing
none_left : (a : Knot) → left_side third a a ≡ pos 0
unfolding left_side over rise inverse clear gap amount worth leftward degree
none_left a = rw (sub_self a.x) (ring (a.y ∷ a.m ∷ a.M ∷ []) (λ y m M. (amount_e (lefts (λ i. # 0) third (rising y y) m m M M), # 0)) tt)

none_right : (b : Knot) → right_side third b b ≡ pos 0
unfolding right_side over rise inverse clear gap amount worth rightward degree
none_right b = rw (sub_self b.x) (ring (b.y ∷ b.m ∷ b.M ∷ []) (λ y m M. (amount_e (rights (λ i. # 0) third (rising y y) m m M M), # 0)) tt)

clear_none : (a : Knot) → clear (gap a a) 3 ≡ 1
unfolding clear gap
clear_none a = rw (sub_self a.x)

module _ (a b : Knot) (wide : 0 < gap a b) where
  abbrev h : ℕ
  h = gap a b

  -- a third of the derivative is a side of the jump test
  bounded : (z side : ℤ) → z *ℤ pos (h ^ 3) ≡ 3 · side *ℤ pos (denominator a b) → nat_abs side ≤ 4 * h ^ 2 → nat_abs z * h ≤ 3 * 4 * denominator a b
  bounded z side e small = le_of_mul-le-mul_right {k = h ^ 2} scaled (one-le-pow 2 h wide)
    where
      sized : nat_abs z * h ^ 3 ≡ 3 * nat_abs side * denominator a b
      sized = sym (abs_mul z (pos (h ^ 3))) ∙ ap nat_abs e ∙ abs_mul (3 · side) (pos (denominator a b)) ∙ ap (λ k. k * denominator a b) (abs_mul (pos 3) side)

      cubed : nat_abs z * h ^ 3 ≡ nat_abs z * h * h ^ 2
      cubed = ap (λ k. nat_abs z * k) (pow-suc h 2 ∙ mul_comm (h ^ 2) h) ∙ sym (mul_assoc (nat_abs z) h (h ^ 2))

      scaled : nat_abs z * h * h ^ 2 ≤ 3 * 4 * denominator a b * h ^ 2
      scaled = omega (arith, cubed, sized, mul_assoc 3 (nat_abs side) (denominator a b), mul-le-mul_right (denominator a b) small, mul_assoc 4 (h ^ 2) (denominator a b), mul_comm (h ^ 2) (denominator a b), mul_assoc (3 * 4) (denominator a b) (h ^ 2))

  -- the weight of the one side
  squared : inverse h 3 1 ≡ h ^ 2
  unfolding inverse
  squared = by h wide
    where
      by : (h : ℕ) → 0 < h → inverse h 3 1 ≡ h ^ 2
      by zero l = absurd (omega arith)
      by (suc h) l = refl

  no_weight : (c : Knot) (k : ℕ) → inverse (gap c c) 3 1 * k ≡ 0
  unfolding inverse gap
  no_weight c k = rw (sub_self c.x) (zero-mul k)

  alone : (c : Knot) → inverse h 3 1 * clear (gap c c) 3 ≡ h ^ 2
  alone c = rw (clear_none c, squared) (mul-one (h ^ 2))

  -- at the left knot, where nothing is on its left
  at_first : nat_abs (jump third a a b) ≤ 4 * (inverse h 3 1 * clear (gap a a) 3 + inverse (gap a a) 3 1 * clear h 3) → AtMostFour a b 0
  unfolding AtMostFour exact degree share right_side denominator
  at_first small = bounded (exact 3 a b 0) (right_side third a b) (rightward_is third a b (h - 1) (omega arith)) (omega (arith, small, ap nat_abs side, alone a, no_weight a (clear h 3)))
    where
      side : jump third a a b ≡ right_side third a b
      side =
          jump_apart third a a b
          ∙ ap₂ (λ k z. right_side third a b *ℤ pos k -ℤ z *ℤ pos (clear h 3)) (clear_none a) (none_left a)
          ∙ ring (right_side third a b ∷ pos (clear h 3) ∷ []) (λ r k. (r :* # 1 :- # 0 :* k, r)) tt

  -- at the right one, where nothing is on its right
  at_last : nat_abs (jump third a b b) ≤ 4 * (inverse (gap b b) 3 1 * clear h 3 + inverse h 3 1 * clear (gap b b) 3) → AtMostFour a b h
  unfolding AtMostFour exact degree share left_side denominator
  at_last small = bounded (exact 3 a b h) (left_side third a b) (leftward_is third a b (h - 1) (omega arith)) (omega (arith, small, ap nat_abs side, abs_neg (left_side third a b), alone b, no_weight b (clear h 3)))
    where
      side : jump third a b b ≡ neg_ℤ (left_side third a b)
      side =
          jump_apart third a b b
          ∙ ap₂ (λ k z. z *ℤ pos (clear h 3) -ℤ left_side third a b *ℤ pos k) (clear_none b) (none_right b)
          ∙ ring (left_side third a b ∷ pos (clear h 3) ∷ []) (λ l k. (# 0 :* k :- l :* # 1, :neg l)) tt

pub flat_ends : (card : Card) → verdict sloped card ≡ accepted → FlatEnds card
unfolding sloped quintic back on
flat_ends card ok = record { first = first; last = last }
  where
    g : Good sloped card
    g = good sloped card ok

    -- what the test leaves of the jump at place i between places j and k
    Small : (j i k : ℕ) → Type 0
    Small j i k =
        nat_abs (jump third (knot card j) (knot card i) (knot card k))
        ≤ 4 * (inverse (gap (knot card i) (knot card k)) 3 1 * clear (gap (knot card j) (knot card i)) 3 + inverse (gap (knot card j) (knot card i)) 3 1 * clear (gap (knot card i) (knot card k)) 3)

    first : AtMostFour (knot card 0) (knot card 1) 0
    first = at_first (knot card 0) (knot card 1) (gap_wide g 0 (omega (arith, g.few))) (subst (λ k. Small 0 0 k) next (jump_within_4g card ok 0 (omega (arith, g.few))))
      where
        next : min 1 (knots card - 1) ≡ 1
        next = omega (arith, g.few)

    i : ℕ
    i = knots card - 1

    before : i - 1 ≡ knots card - 2
    before = omega arith

    beyond : min (i + 1) (knots card - 1) ≡ i
    beyond = omega arith

    wide : 0 < gap (knot card (knots card - 2)) (knot card i)
    wide = subst (λ k. 0 < gap (knot card (knots card - 2)) (knot card k)) again (gap_wide g (knots card - 2) (omega (arith, g.few)))
      where
        again : knots card - 2 + 1 ≡ i
        again = omega (arith, g.few)

    last : AtMostFour (knot card (knots card - 2)) (knot card i) (gap (knot card (knots card - 2)) (knot card i))
    last = at_last (knot card (knots card - 2)) (knot card i) wide
        (subst (λ j. Small j i i) before (subst (λ k. Small (i - 1) i k) beyond (jump_within_4g card ok i (omega (arith, g.few)))))
