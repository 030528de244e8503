-- What a refusal with 10 leaves: each step before it has accepted, as for a card that is accepted, and it is
-- given at the lowest knot where a jump is over its allowance. Assumes nothing.
use Prim.Native.Nat.{ℕ, ◌<◌}
use mathlib.Core.Path.{◌≡◌, subst, ◌∙◌}
use mathlib.Core.Bool.{true, ◌||◌}
use mathlib.Core.List.{List}
use native.Mathlib.Omega.{arith}
use Rattle.answer.specs.Answer.{refused, accepted, each}
use Rattle.answer.proofs.Steps.{first_accepts, next_accepts}
use Rattle.answer.proofs.Never.{Never, never_then, never_each, passed, passed_accepts, refuse_true, Met, met, never_other as other}
use Rattle.curve.specs.Kind.{Kind}
use Rattle.curve.specs.Curve.{third, fourth}
use Rattle.curve.specs.Card.{Card, knots, joint}
use Rattle.curve.specs.Jump.{jumps}
use Rattle.curve.specs.Steps.{lengths, counted, codes, stands, in_range, smooth}
use Rattle.curve.specs.Orders.{numbers_sound, sound, verdict}
use Rattle.card_bytes.specs.Held.{card_of}
use Rattle.card_bytes.specs.Records.{due, head_due, knot_due, end_due, records_due, card_verdict}
use Rattle.opened.specs.Steps.{limited, behind_head, shaped}
use Rattle.opened.proofs.Shape.{card_verdict_is}

-- "per knot 4, 5, 6; 9", without 10
pub record Before10 (K : Kind) (c : Card) : Type 0 where
  pub stand : each (stands K c.minutes c.ordinates) 0 (knots c) ≡ accepted
  pub range : each (in_range K c) 0 (knots c) ≡ accepted

module _ (K : Kind) (c : Card) where
  pub sound_before_10 : sound K c ≡ accepted → Before10 K c
  unfolding sound numbers_sound
  sound_before_10 e = record { stand = first_accepts _ _ e; range = first_accepts _ _ (next_accepts _ _ e) }

  module _ {p : ℕ} (e : sound K c ≡ refused 10 p) where
    stands_never : Never 10 (each (stands K c.minutes c.ordinates) 0 (knots c))
    unfolding stands
    stands_never = never_each 10 _ 0 (knots c) (λ j l. never_then (other 4 j _ tt) (never_then (other 5 j _ tt) (other 6 j _ tt)))

    range_never : Never 10 (each (in_range K c) 0 (knots c))
    unfolding in_range
    range_never = never_each 10 _ 0 (knots c) (λ j l. other 9 j _ tt)

    numbers_jumped : numbers_sound K c ≡ refused 10 p
    unfolding sound
    numbers_jumped = passed _ _ stands_never e

    pub jumped_before_10 : Before10 K c
    unfolding sound numbers_sound
    jumped_before_10 = record { stand = passed_accepts _ _ stands_never e; range = passed_accepts _ _ range_never numbers_jumped }

    first_jump : Met (smooth K c) 0 (knots c) 10 p
    unfolding numbers_sound
    first_jump = met (smooth K c) 0 (knots c) (passed _ _ range_never numbers_jumped)

    tested : (jumps K (joint c first_jump.at_place) third || jumps K (joint c first_jump.at_place) fourth ≡ true) × (first_jump.at_place ≡ p)
    unfolding smooth
    tested = refuse_true 10 first_jump.at_place _ first_jump.refuses

    pub jumped_inside : p < knots c
    jumped_inside = omega (arith, first_jump.below, tested.1)

    pub jumped_first : (j : ℕ) → j < p → smooth K c j ≡ accepted
    jumped_first j h = first_jump.before j (omega arith) (omega (arith, tested.1))

    pub jumped_there : jumps K (joint c p) third || jumps K (joint c p) fourth ≡ true
    jumped_there = subst (λ i. jumps K (joint c i) third || jumps K (joint c i) fourth ≡ true) tested.1 tested.0

-- ---- in lists, and in bytes

counted_never : (K : Kind) (n : ℕ) → Never 10 (counted K n)
unfolding counted
counted_never K n = never_then (other 1 0 _ tt) (other 2 0 _ tt)

codes_never : (K : Kind) (left right : ℕ) → Never 10 (codes K left right)
unfolding codes
codes_never K left right = never_then (other 15 0 _ tt) (other 15 1 _ tt)

pub ten_of_lists : (K : Kind) (c : Card) {p : ℕ} → verdict K c ≡ refused 10 p → sound K c ≡ refused 10 p
unfolding verdict lengths
ten_of_lists K c e = passed _ _ (codes_never K _ _) (passed _ _ (counted_never K _) (passed _ _ (other 3 0 _ tt) e))

shaped_never : (K : Kind) (s : List ℕ) → Never 10 (shaped K s)
unfolding shaped behind_head limited head_due records_due knot_due end_due due
shaped_never K s =
    never_then (other 14 0 _ tt)
    (never_then (never_then (counted_never K _) (codes_never K _ _))
    (never_then (never_each 10 _ 0 _ (λ i l. other 14 _ _ tt)) (never_then (other 14 _ _ tt) (other 14 _ _ tt))))

pub ten_of_bytes : (K : Kind) (s : List ℕ) {p : ℕ} → card_verdict K s ≡ refused 10 p → (shaped K s ≡ accepted) × (sound K (card_of s) ≡ refused 10 p)
ten_of_bytes K s e =
    let f = card_verdict_is K s ∙ e in
    (passed_accepts _ _ (shaped_never K s) f, passed _ _ (shaped_never K s) f)
