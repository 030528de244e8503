-- Document 02, order 9, "Why did it say that": what an explanation says of a reading, and of a refusal with
-- 10, for every kind of card. The statements alone; crates/reasons/proofs proves them. Assumes nothing.
use Rattle.std.specs.Prelude.{ℕ, ◌+◌, ◌-◌, ◌*◌, ◌≤◌, ◌<◌, ◌^◌, ◌≡◌, ◌≢◌, ◌⊎◌, true, List, T, ℤ, pos, nat_abs, ◌*ℤ◌, ◌<ℤ◌}
use Rattle.whole.specs.Whole.{nearest}
use Rattle.answer.specs.Answer.{Answer, refused, given, Verdict, accepted}
use Rattle.answer.specs.Answer as Answers
use Rattle.curve.specs.Formula.{Formula, num, nat, worth, amount}
use Rattle.curve.specs.Curve.{Order, third, degree, N}
use Rattle.curve.specs.Kind.{Kind}
use Rattle.curve.specs.Card.{Card, knots, knot, gap, Joint, joint}
use Rattle.curve.specs.Jump as Jump
use Rattle.curve.specs.Reading.{Reading, gap_of}
use Rattle.curve.specs.Demand.{exact}
use Rattle.curve.specs.Steps.{smooth}
use Rattle.curve.specs.Orders.{reading_order}
use Rattle.parts.specs.Limits.{readable}
use Rattle.jumps.specs.declared.Order as Tried
use Rattle.jumps.specs.Sides.{order_of, allowing}
use Rattle.jumps.specs.Limits.{testable}
use Rattle.card_bytes.specs.Held.{card_of}
use Rattle.card_bytes.specs.Records.{kind_by}
use Rattle.card.specs.Answers.{own}
use Rattle.explain.specs.declared.Explained.{Explained}
use Rattle.explain.specs.Explain.{sum, reason, sizes}

-- ---- the parts of a reading

-- document 01's N on the gap from knot i, at a minute, with any six numbers
unfoldable pub NWith : Card → (i minute : ℕ) → (y y' m m' M M' : ℤ) → ℤ
NWith c i minute y y' m m' M M' =
    let a = knot c i in
    worth (N (num (pos (gap a (knot c (i + 1))))) (num y) (num y') (num m) (num m') (num M) (num M')) (pos (minute - a.x))

-- "the six parts (ordinate, slope and curvature from either side) as whole numerators, and the denominator":
-- a part is what is left of N where the other five numbers are 0, so that none can be moved into another
pub record Terms (c : Card) (i minute : ℕ) (e : Explained) : Type 0 where
  pub y : e.ordinate ≡ NWith c i minute (knot c i).y (pos 0) (pos 0) (pos 0) (pos 0) (pos 0)
  pub y' : e.ordinate1 ≡ NWith c i minute (pos 0) (knot c (i + 1)).y (pos 0) (pos 0) (pos 0) (pos 0)
  pub m : e.slope ≡ NWith c i minute (pos 0) (pos 0) (knot c i).m (pos 0) (pos 0) (pos 0)
  pub m' : e.slope1 ≡ NWith c i minute (pos 0) (pos 0) (pos 0) (knot c (i + 1)).m (pos 0) (pos 0)
  pub M : e.curvature ≡ NWith c i minute (pos 0) (pos 0) (pos 0) (pos 0) (knot c i).M (pos 0)
  pub M' : e.curvature1 ≡ NWith c i minute (pos 0) (pos 0) (pos 0) (pos 0) (pos 0) (knot c (i + 1)).M
  pub under : e.denominator ≡ pos (8192 * gap (knot c i) (knot c (i + 1)) ^ 5)

-- "the gap, the minute within it", the parts, which "must sum to the numerator of the exact value", and the
-- value itself: that sum over the denominator, rounded
pub record Explains (c : Card) (minute : ℕ) (e : Explained) (r : Reading) : Type 0 where
  pub gap_is : e.gap ≡ gap_of c.minutes minute
  pub minutes_are : e.minutes ≡ minute - (knot c (gap_of c.minutes minute)).x
  pub parts_are : Terms c (gap_of c.minutes minute) minute e
  pub sum_is : sum e ≡ exact 0 (knot c (gap_of c.minutes minute)) (knot c (gap_of c.minutes minute + 1)) (minute - (knot c (gap_of c.minutes minute)).x)
  pub value_is : r.value ≡ nearest (sum e) (nat_abs e.denominator)

-- "Other refusals pass through": the number and the place are the reading's, and what is given is explained
pub record Passes (c : Card) (minute : ℕ) (e : Explained) (r : Answer Reading) : Type 0 where
  pub number_is : e.number ≡ Answers.number r
  pub place_is : e.place ≡ Answers.place r
  pub given_is : (v : Reading) → r ≡ given v → Explains c minute e v

-- ---- when a reason is named

pub record NoReason (e : Explained) : Type 0 where
  pub knot_0 : e.knot ≡ 0
  pub order_0 : e.order ≡ 0
  pub jump_0 : e.jump ≡ pos 0
  pub allowance_0 : e.allowance ≡ pos 0

pub record NoParts (e : Explained) : Type 0 where
  pub gap_0 : e.gap ≡ 0
  pub minutes_0 : e.minutes ≡ 0
  pub y_0 : e.ordinate ≡ pos 0
  pub y'_0 : e.ordinate1 ≡ pos 0
  pub m_0 : e.slope ≡ pos 0
  pub m'_0 : e.slope1 ≡ pos 0
  pub M0 : e.curvature ≡ pos 0
  pub M'0 : e.curvature1 ≡ pos 0
  pub under_0 : e.denominator ≡ pos 0

-- "A reason is named exactly when the test refuses with 10", `own` being the test's verdict; beside a refusal
-- there are no parts, so that there is never both
pub record NamedExactly (K : Kind) (own : Verdict) (c : Card) (e : Explained) : Type 0 where
  pub named : (p : ℕ) → own ≡ refused 10 p → e ≡ reason K c p
  pub only : e.order ≢ 0 → own ≡ refused 10 e.place
  pub tens : e.number ≡ 10 → own ≡ refused 10 e.place
  pub ten_ordered : e.number ≡ 10 → (e.order ≡ 3) ⊎ (e.order ≡ 4)
  pub else_none : e.number ≢ 10 → NoReason e
  pub refused_parts : e.number ≢ 0 → NoParts e

-- ---- what is named

-- a jump that is tested at a knot, and is over its allowance
pub record Over (K : Kind) (j : Joint) (o : Order) : Type 0 where
  pub asked : K.asks j.spot o ≡ true
  pub over : Jump.allowed K o j.before j.here j.after <ℤ pos (nat_abs (Jump.jump o j.before j.here j.after))

-- "the knot, third or fourth, the size of the jump and the allowance", "and the third if both are over", of a
-- card that is refused with 10 at p: the lowest knot with such a jump
pub record Because (K : Kind) (c : Card) (p : ℕ) (e : Explained) : Type 0 where
  pub number_10 : e.number ≡ 10
  pub place_p : e.place ≡ p
  pub knot_p : e.knot ≡ p
  pub inside : p < knots c
  pub lowest : (j : ℕ) → j < p → smooth K c j ≡ accepted
  pub named : Order
  pub order_is : e.order ≡ degree named
  pub asked : K.asks (joint c p).spot named ≡ true
  pub exceeds : e.allowance <ℤ e.jump
  pub third_first : e.order ≡ 4 → ¬ (Over K (joint c p) third)
  pub jump_is : e.jump ≡ pos (nat_abs (Jump.jump named (joint c p).before (joint c p).here (joint c p).after))
  pub allowance_is : e.allowance ≡ Jump.allowed K named (joint c p).before (joint c p).here (joint c p).after

-- ---- what both are over

-- what clears the gaps on either side of a knot: what both were multiplied by
unfoldable pub product : Order → Joint → ℕ
product o j = Jump.clear (gap j.before j.here) (degree o) * Jump.clear (gap j.here j.after) (degree o)

-- "over the product of the adjoining gaps' cubes (third) or fourth powers (fourth)"; an end has one such gap
pub record OverGaps (c : Card) (p : ℕ) (o : Order) : Type 0 where
  pub inner : 0 < p → p + 1 < knots c → product o (joint c p) ≡ gap (knot c (p - 1)) (knot c p) ^ degree o * gap (knot c p) (knot c (p + 1)) ^ degree o
  pub first : p ≡ 0 → product o (joint c p) ≡ gap (knot c 0) (knot c 1) ^ degree o
  pub last : p + 1 ≡ knots c → product o (joint c p) ≡ gap (knot c (p - 1)) (knot c p) ^ degree o

-- a kind whose allowance is a sum of multiples of the powers of 1/h
pub record Scales (K : Kind) : Type 0 where
  pub scales : (o : Order) (g : ℕ → ℤ) (k : ℤ) → amount (K.allowance o (λ i. num (g i *ℤ k))) ≡ amount (K.allowance o (λ i. num (g i))) *ℤ k

-- ---- in 64 bits

-- the parts in whatever order they are added, the denominator, the jump and the allowance
pub record Fits64 (e : Explained) : Type 0 where
  pub parts : sizes e < 2 ^ 63
  pub under : nat_abs e.denominator < 2 ^ 63
  pub jump : nat_abs e.jump < 2 ^ 63
  pub allowance : nat_abs e.allowance < 2 ^ 63

-- a kind whose limits pass the tests of its gaps, and whose allowance is written as document 01's
pub record Tested (K : Kind) : Type 0 where
  pub readings : T (readable K)
  pub jumps : T (testable K)
  pub some : 2 ≤ K.fewest_knots
  pub squares : Tried.Order → ℕ
  pub squares_in : (o : Tried.Order) → squares o ≤ 2 ^ 8
  pub allows : (o : Tried.Order) (g : ℕ → Formula ℤ) → K.allowance (order_of o) g ≡ allowing (nat (squares o)) o g

-- ---- the order, of a card's bytes

-- "Kind 6 cards are explained alike": as the kind of card that the head names
pub record Says (s : List ℕ) (minute : ℕ) (e : Explained) : Type 0 where
  pub reading : Passes (card_of s) minute e (reading_order (own s) (card_of s) minute)
  pub exactly : NamedExactly (kind_by s) (own s) (card_of s) e
  pub reasons : (p : ℕ) → own s ≡ refused 10 p → Because (kind_by s) (card_of s) p e
  pub over_gaps : (p : ℕ) → own s ≡ refused 10 p → (o : Order) → OverGaps (card_of s) p o
  pub fits : Fits64 e
