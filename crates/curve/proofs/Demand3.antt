-- Demand 3 holds of every accepted card, of each kind that has at least two knots.
-- Assumes nothing.
use mathlib.Core.Path.{◌≡◌, refl, sym, ap, ap₂, ◌∙◌, subst}
use mathlib.Core.Bool.{Bool, true, false, not, ◌&&◌}
use mathlib.Core.List.{[], ◌∷◌}
use Prim.Native.Nat.{ℕ, zero, suc, ◌+◌, ◌-◌, ◌*◌, ◌^◌, min, ◌≤◌, ◌<◌}
use native.Mathlib.Nat.{one-le-pow, mul_right_comm}
use native.Mathlib.Omega.{arith}
use native.Mathlib.Decide.{dec_lt}
use lib.Dec.{T}
use lib.IntN.{ℤ, pos, nat_abs, ◌-ℤ◌, ◌*ℤ◌}
use lib.ListN.{length, get_or}
use lib.Signed.{◌≤ℤ◌}
use borrow.Author.Tests.{ne_eqb}
use Rattle.whole.specs.Whole.{◌·◌}
use Rattle.whole.proofs.Solve.{◌:-◌, ◌:*◌, ring}
use Rattle.whole.proofs.Order.{linear, le_z_true, abs_mul, *ℤ_mono}
use Rattle.whole.proofs.Rounding.{nearest_is}
use Rattle.answer.specs.Answer.{accepted, given}
use Rattle.answer.proofs.Steps.{both_accept, refuse_accepts}
use Rattle.curve.specs.Formula.{worth, ∂^}
use Rattle.curve.specs.Curve.{Order, third, fourth, degree}
use Rattle.curve.specs.Kind.{Kind, inner}
use Rattle.curve.specs.Card.{Knot, Card, knots, knot, gap, back, on, spot, Joint, joint}
use Rattle.curve.specs.Jump.{clear, jump, allowed, jumps}
use Rattle.curve.specs.Steps.{smooth}
use Rattle.curve.specs.Reading.{gap_of, spell, between, denominator, reads, reads_at}
use Rattle.curve.specs.Orders.{verdict, reading_order, reading}
use Rattle.curve.specs.Demand.{WithinHalf, ApartAtMost, exact, Close, OnGap, numbers, share, JumpWithin, Demand3}
use Rattle.curve.proofs.Sides.{right_side, left_side, jump_apart}
use Rattle.curve.proofs.Derivatives.{rightward_is, leftward_is}
use Rattle.curve.proofs.Knots.{reads_left, reads_right}
use Rattle.curve.proofs.Accepted.{Good, good, not_falling, gap_wide, or_false}
use Rattle.curve.proofs.Gap.{gap_is, card_in, reads_alike}

-- ---- readings

close : (a b : Knot) (t : ℕ) → 0 < gap a b → Close a b t (reads a b t)
unfolding WithinHalf exact reads denominator
close a b t wide =
    record {
      value = (nearest_is (exact 0 a b t) (denominator a b) below).half;
      slope = (nearest_is (exact 1 a b t) (denominator a b) below).half;
      curvature = (nearest_is (exact 2 a b t) (denominator a b) below).half;
    }
  where
    below : 0 < denominator a b
    below = unfold denominator in omega (arith, one-le-pow 5 (gap a b) wide)

module _ (K : Kind) (c : Card) (some : 2 ≤ K.fewest_knots) (e : verdict K c ≡ accepted) where
  g : Good K c
  g = good K c e

  module _ (minute : ℕ) (from : (knot c 0).x ≤ minute) (to : minute ≤ (knot c (knots c - 1)).x) where
    given_inside : reading K c minute ≡ given (reads_at c minute)
    unfolding reading reading_order knot knots
    given_inside = both_accept e (both_accept (card_in c.minutes minute from to) refl)

    on_its_gap : (i t : ℕ) → OnGap c minute i t → reads_at c minute ≡ reads (knot c i) (knot c (i + 1)) t
    unfolding reads_at spell
    on_its_gap i t h = sym (ap (reads (knot c i) (knot c (i + 1))) (sym place) ∙ reads_alike g (gap_of c.minutes minute) i (gap_is c.minutes minute start enough) h.inside lower upper)
      where
        place : minute - (knot c i).x ≡ t
        place = omega (arith, h.from)

        lower : (knot c i).x ≤ minute
        lower = omega (arith, h.from)

        upper : minute ≤ (knot c (i + 1)).x
        upper = unfold gap in omega (arith, h.from, h.to, gap_wide g i h.inside)

        start : get_or c.minutes 0 0 ≤ minute
        start = unfold knot in from

        enough : 2 ≤ length c.minutes
        enough = unfold knots in omega (arith, g.few)

  reads_at_knot : (i : ℕ) → i < knots c → reads_at c (knot c i).x ≡ numbers (knot c i)
  reads_at_knot i l = elim (dec_lt (i + 1) (knots c)) [ yes h ↦ rightwards h | no h ↦ leftwards h ]
    where
      first : (knot c 0).x ≤ (knot c i).x
      first = not_falling g 0 i (omega arith) l

      last : (knot c i).x ≤ (knot c (knots c - 1)).x
      last = not_falling g i (knots c - 1) (omega arith) (omega arith)

      rightwards : i + 1 < knots c → reads_at c (knot c i).x ≡ numbers (knot c i)
      rightwards h = on_its_gap (knot c i).x first last i 0 (record { inside = h; from = omega arith; to = omega arith }) ∙ reads_left (knot c i) (knot c (i + 1)) (gap_wide g i h)

      leftwards : ¬ (i + 1 < knots c) → reads_at c (knot c i).x ≡ numbers (knot c i)
      leftwards h =
          on_its_gap (knot c i).x first last (i - 1) (gap (knot c (i - 1)) (knot c i)) (record { inside = omega (arith, g.few, some); from = whole; to = there })
          ∙ ap (λ k. reads (knot c (i - 1)) (knot c k) (gap (knot c (i - 1)) (knot c i))) next
          ∙ reads_right (knot c (i - 1)) (knot c i) wide
        where
          next : i - 1 + 1 ≡ i
          next = omega (arith, g.few, some)

          wide : 0 < gap (knot c (i - 1)) (knot c i)
          wide = subst (λ k. 0 < gap (knot c (i - 1)) (knot c k)) next (gap_wide g (i - 1) (omega (arith, g.few, some)))

          whole : (knot c (i - 1)).x + gap (knot c (i - 1)) (knot c i) ≡ (knot c i).x
          whole = unfold gap in omega (arith, wide)

          there : gap (knot c (i - 1)) (knot c i) ≤ gap (knot c (i - 1)) (knot c (i - 1 + 1))
          there = rw next (omega arith)

-- ---- jumps

-- the test's sides are shares of the derivatives, so that the jump of the derivatives is the test's, over the curve's denominators
exact_is : (o : Order) (a b : Knot) (t : ℕ) → exact (degree o) a b t ≡ 4096 · worth (∂^ (degree o) (between a b)) (pos t)
unfolding exact degree
exact_is third a b t = refl
exact_is fourth a b t = refl

clear_is : (h d : ℕ) → 0 < h → clear h d ≡ h ^ d
unfolding clear
clear_is zero d p = absurd (omega arith)
clear_is (suc h) d p = refl

module _ (o : Order) (a b e : Knot) (wide-a : 0 < gap a b) (wide-b : 0 < gap b e) where
  abbrev R : ℤ
  R = exact (degree o) b e 0

  abbrev L : ℤ
  L = exact (degree o) a b (gap a b)

  abbrev hᵈ : ℤ
  hᵈ = pos (gap b e ^ degree o)

  abbrev kᵈ : ℤ
  kᵈ = pos (gap a b ^ degree o)

  curve_jump : (R *ℤ pos (denominator a b) -ℤ L *ℤ pos (denominator b e)) *ℤ (hᵈ *ℤ kᵈ) ≡ (share o · jump o a b e) *ℤ (pos (denominator b e) *ℤ pos (denominator a b))
  curve_jump =
      ring (R ∷ L ∷ pos (denominator a b) ∷ pos (denominator b e) ∷ hᵈ ∷ kᵈ ∷ []) (λ R L l r h k. ((R :* l :- L :* r) :* (h :* k), R :* h :* (l :* k) :- L :* k :* (r :* h))) tt
      ∙ ap₂ (λ x y. x *ℤ (pos (denominator a b) *ℤ kᵈ) -ℤ y *ℤ (pos (denominator b e) *ℤ hᵈ)) right left
      ∙ ring (pos (share o) ∷ right_side o b e ∷ left_side o a b ∷ pos (denominator a b) ∷ pos (denominator b e) ∷ hᵈ ∷ kᵈ ∷ [])
      (λ s R L l r h k. (s :* R :* r :* (l :* k) :- s :* L :* l :* (r :* h), s :* (R :* k :- L :* h) :* (r :* l))) tt
      ∙ ap (λ j. share o · j *ℤ (pos (denominator b e) *ℤ pos (denominator a b))) (sym cleared)
    where
      right : R *ℤ hᵈ ≡ share o · right_side o b e *ℤ pos (denominator b e)
      right = ap (λ z. z *ℤ hᵈ) (exact_is o b e 0) ∙ (unfold right_side denominator in rightward_is o b e (gap b e - 1) (omega arith))

      left : L *ℤ kᵈ ≡ share o · left_side o a b *ℤ pos (denominator a b)
      left = ap (λ z. z *ℤ kᵈ) (exact_is o a b (gap a b)) ∙ (unfold left_side denominator in leftward_is o a b (gap a b - 1) (omega arith))

      cleared : jump o a b e ≡ right_side o b e *ℤ kᵈ -ℤ left_side o a b *ℤ hᵈ
      cleared = jump_apart o a b e ∙ ap₂ (λ p q. right_side o b e *ℤ pos p -ℤ left_side o a b *ℤ pos q) (clear_is (gap a b) (degree o) wide-a) (clear_is (gap b e) (degree o) wide-b)

  within : (K : Kind) → pos (nat_abs (jump o a b e)) ≤ℤ allowed K o a b e → JumpWithin K o a b e
  unfolding JumpWithin ApartAtMost
  within K h = rw sized (subst (λ z. (pos scale *ℤ pos (nat_abs (jump o a b e))) ≤ℤ z) regrouped (*ℤ_mono {k = pos scale} (omega linear) h))
    where
      scale : ℕ
      scale = share o * (denominator b e * denominator a b)

      sized : pos (nat_abs (R *ℤ pos (denominator a b) -ℤ L *ℤ pos (denominator b e)) * (gap b e ^ degree o * gap a b ^ degree o)) ≡ pos scale *ℤ pos (nat_abs (jump o a b e))
      sized =
          ap pos
          (sym (abs_mul (R *ℤ pos (denominator a b) -ℤ L *ℤ pos (denominator b e)) (hᵈ *ℤ kᵈ))
          ∙ ap nat_abs curve_jump
          ∙ abs_mul (share o · jump o a b e) (pos (denominator b e) *ℤ pos (denominator a b))
          ∙ ap (λ n. n * (denominator b e * denominator a b)) (abs_mul (pos (share o)) (jump o a b e))
          ∙ mul_right_comm (share o) (nat_abs (jump o a b e)) (denominator b e * denominator a b))

      regrouped : pos scale *ℤ allowed K o a b e ≡ share o · allowed K o a b e *ℤ pos (denominator b e * denominator a b)
      regrouped = ring (pos (share o) ∷ pos (denominator b e * denominator a b) ∷ allowed K o a b e ∷ []) (λ s d a. (s :* d :* a, s :* a :* d)) tt

-- an inner knot where it stands
inner_joint : (c : Card) (i : ℕ) → i + 2 < knots c → joint c (i + 1) ≡ record { spot = inner; before = knot c i; here = knot c (i + 1); after = knot c (i + 2) }
unfolding joint spot back on
inner_joint c i h = λ t. record { spot = inside t; before = knot c (before t); here = knot c (i + 1); after = knot c (after t) }
  where
    inside : spot c (i + 1) ≡ inner
    inside = unfold spot in rw (ne_eqb (i + 1) 0 (omega arith), ne_eqb (suc (i + 1)) (knots c) (omega arith))

    before : i + 1 - 1 ≡ i
    before = omega arith

    after : min (i + 1 + 1) (knots c - 1) ≡ i + 2
    after = omega arith

not_over : (asked within : Bool) → asked && not within ≡ false → T asked → within ≡ true
not_over true true e t = refl
not_over true false e t = absurd (subst T e tt)
not_over false w e t = absurd t

small_jump : (K : Kind) (p : Joint) (o : Order) → jumps K p o ≡ false → T (K.asks p.spot o) →
    pos (nat_abs (jump o p.before p.here p.after)) ≤ℤ allowed K o p.before p.here p.after
unfolding jumps
small_jump K p o e t = le_z_true (not_over (K.asks p.spot o) _ e t)

-- what 10 leaves at a knot, for either order
no_jump : (K : Kind) (c : Card) (i : ℕ) → smooth K c i ≡ accepted → (o : Order) → jumps K (joint c i) o ≡ false
unfolding smooth
no_jump K c i e third = (or_false _ _ (refuse_accepts 10 i _ e)).0
no_jump K c i e fourth = (or_false (jumps K (joint c i) third) _ (refuse_accepts 10 i _ e)).1

-- ---- all of it

pub demand_3 : (K : Kind) (c : Card) → 2 ≤ K.fewest_knots → verdict K c ≡ accepted → Demand3 K c
demand_3 K c some e =
    record {
      readings = λ minute from to.
          (reads_at c minute, given_inside K c some e minute from to, λ i t on. subst (Close (knot c i) (knot c (i + 1)) t) (sym (on_its_gap K c some e minute from to i t on)) (close (knot c i) (knot c (i + 1)) t (gap_wide a i on.inside)));
      at_knots = λ i l. given_inside K c some e (knot c i).x (not_falling a 0 i (omega arith) l) (not_falling a i (knots c - 1) (omega arith) (omega arith)) ∙ ap given (reads_at_knot K c some e i l);
      jumps = λ i l o t. within o (knot c i) (knot c (i + 1)) (knot c (i + 2)) (gap_wide a i (omega arith)) (wide i l) K (there i l o t);
    }
  where
    a : Good K c
    a = good K c e

    wide : (i : ℕ) → i + 2 < knots c → 0 < gap (knot c (i + 1)) (knot c (i + 2))
    wide i l = subst (λ k. 0 < gap (knot c (i + 1)) (knot c k)) next (gap_wide a (i + 1) (omega arith))
      where
        next : i + 1 + 1 ≡ i + 2
        next = omega arith

    there : (i : ℕ) → i + 2 < knots c → (o : Order) → T (K.asks inner o) → pos (nat_abs (jump o (knot c i) (knot c (i + 1)) (knot c (i + 2)))) ≤ℤ allowed K o (knot c i) (knot c (i + 1)) (knot c (i + 2))
    there i l o t = small_jump K _ o (subst (λ p. jumps K p o ≡ false) (inner_joint c i l) (no_jump K c (i + 1) (a.smoothed (i + 1) (omega arith)) o)) t
