-- Document 02, order 8, "Values with measured slopes": the exact solution of a card of that kind, which "has
-- the card's own slopes", and how far the card's curvatures may be from it. The equations, the kind and its
-- test are those of crates/curve/specs. Assumes nothing.
use Rattle.std.specs.Prelude.{◌≡◌, ◌≢◌, ℕ, ◌-◌, ◌*◌, ◌≤◌, ◌<◌, ℤ, nat_abs, ◌-ℤ◌}
use Rattle.whole.specs.Whole.{◌·◌}
use Rattle.answer.specs.Answer.{each, number}
use Rattle.curve.specs.Kind.{sloped}
use Rattle.curve.specs.Card.{Card, Knot, knots, knot, gap}
use Rattle.curve.specs.Reading.{denominator}
use Rattle.curve.specs.Steps.{in_range}
use Rattle.curve.specs.Orders.{verdict}
use Rattle.curve.specs.Exact.{Exact}
use Rattle.curve.specs.Demand.{exact}
use Rattle.exists.specs.Rounded.{rounded}
use Rattle.exists.specs.Same.{Same}

-- |M − 4096·c/q| is at most u: the stored number M is at most u card units from the fraction c/q
unfoldable pub Within : (u q : ℕ) (c M : ℤ) → Type 0
Within u q c M = nat_abs (4096 · c -ℤ q · M) ≤ u * q

-- on the gap from a to b, t minutes from a: |f'''/3| ≤ 4/h
unfoldable pub AtMostFour : (a b : Knot) (t : ℕ) → Type 0
AtMostFour a b t = nat_abs (exact 3 a b t) * gap a b ≤ 3 * 4 * denominator a b

module _ (card : Card) where
  -- There is one exact solution of the card's minutes, ordinates and slopes, and no other; rounded to card
  -- units it is a card that is refused with 9 or accepted, never with 10. The curvatures on the card stand
  -- aside.
  pub record OneSolution : Type 0 where
    pub solution : Exact sloped card
    pub only : (other : Exact sloped card) (i : ℕ) → i < knots card → Same solution other i
    pub only_9 : verdict sloped (rounded solution) ≡ each (in_range sloped (rounded solution)) 0 (knots card)
    pub never_10 : number (verdict sloped (rounded solution)) ≢ 10

  -- each stored curvature is "at most 2 card units from the exact solution": so it is of every accepted card
  pub record WithinTwo : Type 0 where
    pub one : OneSolution
    pub within_2 : (i : ℕ) → i < knots card → Within 2 one.solution.q (one.solution.c i) (knot card i).M

  -- "third derivative zero at both ends", with "allowance 4g per side, at both ends too": there a third of
  -- the exact curve's third derivative, in card units, is at most 4 over the gap
  pub record FlatEnds : Type 0 where
    pub first : AtMostFour (knot card 0) (knot card 1) 0
    pub last : let a = knot card (knots card - 2) in let b = knot card (knots card - 1) in AtMostFour a b (gap a b)
