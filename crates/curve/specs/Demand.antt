-- Demand 3: what is asked of an accepted card, whoever wrote it. The statements alone; crates/curve/proofs/Demand3 proves them.
-- Fractions are compared by cross multiplication; every denominator here is positive. Assumes nothing.
use Rattle.std.specs.Prelude.{◌≡◌, ℕ, zero, suc, ◌+◌, ◌-◌, ◌*◌, ◌^◌, ◌≤◌, ◌<◌, T, ℤ, pos, nat_abs, ◌-ℤ◌, ◌*ℤ◌, ◌≤ℤ◌}
use Rattle.whole.specs.Whole.{◌·◌}
use Rattle.answer.specs.Answer.{given}
use Rattle.curve.specs.Formula.{worth, ∂^}
use Rattle.curve.specs.Curve.{Order, third, fourth, degree}
use Rattle.curve.specs.Kind.{Kind, inner}
use Rattle.curve.specs.Card.{Knot, Card, knots, knot, gap}
use Rattle.curve.specs.Jump.{allowed}
use Rattle.curve.specs.Reading.{Reading, between, denominator}
use Rattle.curve.specs.Orders.{reading}

-- w is within half of z/d
unfoldable pub WithinHalf : ℤ → ℕ → ℤ → Type 0
WithinHalf z d w = 2 * nat_abs (z -ℤ d · w) ≤ d

-- |a/b − c/d| is at most e/f
unfoldable pub ApartAtMost : ℤ → ℕ → ℤ → ℕ → ℤ → ℕ → Type 0
ApartAtMost a b c d e f = pos (nat_abs (a *ℤ pos d -ℤ c *ℤ pos b) * f) ≤ℤ (e *ℤ pos (b * d))

-- the k-th derivative of the exact curve on the gap from a to b, t minutes from a, over the gap's denominator; in card units from the first on
unfoldable pub exact : ℕ → Knot → Knot → ℕ → ℤ
exact zero a b t = worth (between a b) (pos t)
exact (suc k) a b t = 4096 · worth (∂^ (suc k) (between a b)) (pos t)

-- "the value is within half a hundredth and slope and curvature within half a card unit of the exact quintic"
pub record Close (a b : Knot) (t : ℕ) (r : Reading) : Type 0 where
  pub value : WithinHalf (exact 0 a b t) (denominator a b) r.value
  pub slope : WithinHalf (exact 1 a b t) (denominator a b) r.slope
  pub curvature : WithinHalf (exact 2 a b t) (denominator a b) r.curvature

-- a minute stands on a gap of the card, t minutes from its left knot i
pub record OnGap (c : Card) (minute i t : ℕ) : Type 0 where
  pub inside : i + 1 < knots c
  pub from : (knot c i).x + t ≡ minute
  pub to : t ≤ gap (knot c i) (knot c (i + 1))

-- the three numbers of a knot
unfoldable pub numbers : Knot → Reading
numbers k = record { value = k.y; slope = k.m; curvature = k.M }

-- a jump's share: the test's third is a third of the third derivative, its fourth a twelfth of the fourth
unfoldable pub share : Order → ℕ
share third = 3
share fourth = 12

-- "the jumps are within the allowances": the derivative to the right of b less that to its left, as the curve has them
unfoldable pub JumpWithin : Kind → Order → Knot → Knot → Knot → Type 0
JumpWithin K o a b e =
    ApartAtMost (exact (degree o) b e 0) (denominator b e) (exact (degree o) a b (gap a b)) (denominator a b)
    (share o · allowed K o a b e) (gap b e ^ degree o * gap a b ^ degree o)

pub record Demand3 (K : Kind) (c : Card) : Type 0 where
  -- at any whole minute from the first knot to the last there is a reading, close to the exact curve on every gap that the minute stands on
  pub readings : (minute : ℕ) → (knot c 0).x ≤ minute → minute ≤ (knot c (knots c - 1)).x →
      (r : Reading) × (reading K c minute ≡ given r) × ((i t : ℕ) → OnGap c minute i t → Close (knot c i) (knot c (i + 1)) t r)
  -- at knots all three are the card's own
  pub at_knots : (i : ℕ) → i < knots c → reading K c (knot c i).x ≡ given (numbers (knot c i))
  -- at every inner knot
  pub jumps : (i : ℕ) → i + 2 < knots c → (o : Order) → T (K.asks inner o) → JumpWithin K o (knot c i) (knot c (i + 1)) (knot c (i + 2))
