-- An explanation fits 64 bits, for each kind whose limits pass the tests of its gaps; document 01's kind and
-- order 8's do. Assumes nothing.
use Prim.Native.Nat.{ℕ, ◌+◌, ◌-◌, ◌*◌, ◌≤◌, ◌<◌, ◌^◌}
use mathlib.Core.Path.{◌≡◌, subst, ◌∙◌}
use mathlib.Core.List.{List}
use native.Mathlib.Nat.{mul-le-mul, pow-le-pow_left}
use native.Mathlib.Omega.{arith}
use lib.Dec.{lit<, lit≤}
use lib.IntN.{ℤ, pos, nat_abs, ◌+ℤ◌, ◌*ℤ◌}
use Rattle.whole.proofs.Order.{linear, abs_add, abs_mul}
use Rattle.answer.specs.Answer.{refused, Verdict, accepted}
use Rattle.answer.proofs.Steps.{first_accepts, next_accepts}
use Rattle.curve.specs.Curve.{degree, allowance}
use Rattle.curve.specs.Kind.{Kind, quintic, sloped}
use Rattle.curve.specs.Card.{Card, Knot, knots, knot, gap, back, on, joint}
use Rattle.curve.specs.Jump.{clear, jump, allowed}
use Rattle.curve.specs.Reading.{gap_of, denominator}
use Rattle.curve.specs.Orders.{sound, verdict}
use Rattle.curve.proofs.Accepted.{good}
use Rattle.knots.specs.declared.Kind.{Kind as Carried}
use Rattle.knots.specs.Kinds.{quintic_card, sloped_card, kind_of}
use Rattle.knots.proofs.Carried.{quintic_is, sloped_is}
use Rattle.knots.proofs.Accepted.{Stood, stood, Ranged, ranged}
use Rattle.gaps.specs.Knots.{numbers}
use Rattle.gaps.specs.Limits.{widest, Gap, InGap, limits}
use Rattle.weights.specs.declared.Quantity.TheVariants.{Value}
use Rattle.parts.specs.Parts.{parts, size}
use Rattle.parts.specs.Limits.{Tame, narrows, readable}
use Rattle.parts.proofs.Numerators.{parts_fit}
use Rattle.parts.proofs.OfKinds.{quintic_readable}
use Rattle.jumps.specs.declared.Order.{Order}
use Rattle.jumps.specs.declared.Order.TheVariants.{Third, Fourth}
use Rattle.jumps.specs.Sides.{order_of, side, opposed, left_side, jump_of, leeway, leeways}
use Rattle.jumps.specs.Limits.{Tried, testable}
use Rattle.jumps.proofs.Comparing.{opposed_size, leeway_size, clears_most, h_gap, q_gap, products_fit}
use Rattle.jumps.proofs.JumpIs.{jump_is, allowed_is}
use Rattle.jumps.proofs.OfKinds.{quintic_testable}
use Rattle.lists.specs.Lists.{InPlace, square_of}
use Rattle.lists.proofs.OfKinds.{knot_tried, minute_in_gap, gap_tame, level_right, level_left}
use Rattle.lists.proofs.Settled.{minute_in_place, allows}
use Rattle.card_bytes.specs.Held.{card_of}
use Rattle.card_bytes.specs.Records.{card_verdict}
use Rattle.opened.proofs.Shape.{card_verdict_is, shape_some}
use Rattle.opened.proofs.Jumping.{Before10, sound_before_10, jumped_before_10, jumped_inside, ten_of_lists, ten_of_bytes}
use Rattle.explain.specs.Explain.{parts_from, parted, jump_at, because, reason, zeros, explained, sizes}
use Rattle.reasons.specs.Reasons.{Fits64, Tested}
use Rattle.reasons.proofs.Told.{reason_one_of, explained_one_of}

-- ---- the two kinds

-- the limits of all that the code carries are document 01's
carried_tested : (k : Carried) → k.squares ≤ 2 ^ 8 → Tested (kind_of k)
unfolding quintic readable testable narrows limits
carried_tested k h =
    record { readings = quintic_readable; jumps = quintic_testable; some = lit≤ tt; squares = square_of k; squares_in = squares_in; allows = allows k }
  where
    squares_in : (o : Order) → square_of k o ≤ 2 ^ 8
    squares_in Third = h
    squares_in Fourth = lit≤ tt

pub quintic_tested : Tested quintic
quintic_tested = subst Tested quintic_is (carried_tested quintic_card (lit≤ tt))

pub sloped_tested : Tested sloped
sloped_tested = subst Tested sloped_is (carried_tested sloped_card (lit≤ tt))

-- ---- a card whose knots stand and are in range

products : (x y : ℤ) (u v : ℕ) → nat_abs (x *ℤ pos u +ℤ y *ℤ pos v) ≤ nat_abs x * u + nat_abs y * v
products x y u v = omega (arith, abs_add (x *ℤ pos u) (y *ℤ pos v), abs_mul x (pos u), abs_mul y (pos v))

module _ {K : Kind} (t : Tested K) (c : Card) (b : Before10 K c) where
  stands : Stood K c.minutes c.ordinates
  unfolding knots
  stands = stood b.stand

  ranges : Ranged K c.minutes c.slopes c.curvatures
  ranges = ranged c b.range

  module _ (i minute : ℕ) (p : InPlace c.minutes i minute) where
    in_gap : InGap (pos (gap (knot c i) (knot c (i + 1)))) (pos (minute - (knot c i).x))
    unfolding knot gap
    in_gap = minute_in_gap K t.readings stands ranges i minute p

    tame : Tame (pos (gap (knot c i) (knot c (i + 1)))) (numbers (knot c i)) (numbers (knot c (i + 1)))
    unfolding knot gap
    tame = gap_tame K t.readings stands ranges i minute p

    under_fits : denominator (knot c i) (knot c (i + 1)) < 2 ^ 63
    unfolding denominator
    under_fits =
        let n : gap (knot c i) (knot c (i + 1)) ≤ widest = omega (linear, in_gap.narrow) in
        let w : widest ^ 5 ≤ 24_883_200_000 = lit≤ tt in
        omega (arith, pow-le-pow_left n 5)

    pub parted_fits : Fits64 (parted c i minute)
    unfolding parted parts_from sizes size
    parted_fits = record { parts = omega (arith, parts_fit Value in_gap tame); under = under_fits; jump = lit< tt; allowance = lit< tt }

  module _ (p : ℕ) (l : p < knots c) (o : Order) where
    abbrev x : Knot
    x = knot c (back p)

    abbrev y : Knot
    y = knot c p

    abbrev z : Knot
    z = knot c (on c p)

    abbrev d : ℕ
    d = degree (order_of o)

    tries : Tried (pos (t.squares o)) (pos (gap x y)) (pos (gap y z)) (numbers x) (numbers y) (numbers z)
    unfolding knots knot gap on
    tries = knot_tried K t.readings stands ranges p l t.jumps (t.squares o) (t.squares_in o)

    no_rise_right : gap y z ≡ 0 → z.y ≡ y.y
    unfolding knots knot gap on
    no_rise_right = level_right c.minutes stands.rising c.ordinates p l

    no_rise_left : gap x y ≡ 0 → x.y ≡ y.y
    unfolding knots knot gap
    no_rise_left = level_left c.minutes stands.rising c.ordinates p l

    jump_fits : nat_abs (jump (order_of o) x y z) < 2 ^ 63
    unfolding jump_of
    jump_fits =
        let right = side o (pos (gap y z)) (numbers y) (numbers z) in
        let left = left_side o (pos (gap x y)) (numbers y) (numbers x) in
        rw (jump_is o x y z no_rise_right no_rise_left)
        (omega (arith, rw (opposed_size o left) at (products right (opposed o left) (clear (gap x y) d) (clear (gap y z) d)), products_fit tries.beside o))

    side_fits : (h k : ℕ) → Gap (pos h) → Gap (pos k) → nat_abs (leeway (pos (t.squares o)) (pos h)) * clear k d ≤ (2 ^ 8 + 4 * widest) * widest * widest ^ 4
    side_fits h k g f = mul-le-mul (leeway_size (pos (t.squares o)) (pos h) (t.squares_in o) g) (clears_most o k (omega (linear, f.narrow)))

    allowed_fits : nat_abs (allowed K (order_of o) x y z) < 2 ^ 63
    unfolding leeways
    allowed_fits =
        let s = pos (t.squares o) in
        let right = h_gap tries.beside in
        let left = q_gap tries.beside in
        rw (allowed_is o x y z K (t.squares o) (t.allows o))
        (omega (arith, products (leeway s (pos (gap y z))) (leeway s (pos (gap x y))) (clear (gap x y) d) (clear (gap y z) d), side_fits (gap y z) (gap x y) right left, side_fits (gap x y) (gap y z) left right))

    pub because_fits : Fits64 (because p d (jump_at K (joint c p) (order_of o)))
    unfolding because jump_at joint sizes
    because_fits = record { parts = lit< tt; under = lit< tt; jump = jump_fits; allowance = allowed_fits }

  pub reason_fits : (p : ℕ) → p < knots c → Fits64 (reason K c p)
  reason_fits p l = reason_one_of K c p Fits64 (λ e. because_fits p l Third) (λ e. because_fits p l Fourth)

-- ---- an answer, whatever it is

zeros_fit : (n p : ℕ) → Fits64 (zeros n p)
unfolding sizes
zeros_fit n p = record { parts = lit< tt; under = lit< tt; jump = lit< tt; allowance = lit< tt }

-- by the card's own verdict, where it leaves what the steps before 10 have accepted
module _ {K : Kind} (t : Tested K) (c : Card) (own : Verdict) (minute : ℕ) where
  answer_fits : (own ≡ accepted → (2 ≤ knots c) × Before10 K c) → ((p : ℕ) → own ≡ refused 10 p → sound K c ≡ refused 10 p) → Fits64 (explained K own c minute)
  unfolding knots
  answer_fits accepts jumps =
      explained_one_of K c own minute Fits64
      (λ p e. reason_fits t c (jumped_before_10 K c (jumps p e)) p (jumped_inside K c (jumps p e)))
      (λ n p h e. zeros_fit n p)
      (λ e f. zeros_fit 11 0)
      (λ e f. parted_fits t c (accepts e).1 (gap_of c.minutes minute) minute (minute_in_place c.minutes minute (accepts e).0 f))

pub lists_fit : {K : Kind} → Tested K → (c : Card) (minute : ℕ) → Fits64 (explained K (verdict K c) c minute)
unfolding verdict
lists_fit {K} t c minute =
    answer_fits t c (verdict K c) minute
    (λ e. let g = good K c e in (omega (arith, t.some, g.few), sound_before_10 K c (next_accepts _ _ (next_accepts _ _ (next_accepts _ _ e)))))
    (λ p e. ten_of_lists K c e)

pub bytes_fit : {K : Kind} → Tested K → (s : List ℕ) (minute : ℕ) → Fits64 (explained K (card_verdict K s) (card_of s) minute)
bytes_fit {K} t s minute =
    answer_fits t (card_of s) (card_verdict K s) minute
    (λ e. let f = card_verdict_is K s ∙ e in (omega (arith, t.some, shape_some K s (first_accepts _ _ f)), sound_before_10 K (card_of s) (next_accepts _ _ f)))
    (λ p e. (ten_of_bytes K s e).1)
