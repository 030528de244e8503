-- Document 01, "The jump test", its end: "An exact solution of a card is a set of fractions that meets both equations at inner knots and, at an end, those
-- its code does not replace". Fractions over a common denominator. Assumes nothing.
use Rattle.std.specs.Prelude.{◌≡◌, ℕ, ◌*◌, ◌≤◌, ◌<◌, ℤ, nat_abs, ◌-ℤ◌, T}
use Rattle.whole.specs.Whole.{◌·◌}
use Rattle.curve.specs.Formula.{num, ◌⊖◌, ◌⊛◌, amount}
use Rattle.curve.specs.Curve.{Order, degree, equation, equals}
use Rattle.curve.specs.Kind.{Kind}
use Rattle.curve.specs.Card.{Card, knots, knot, gap, back, on, spot}
use Rattle.curve.specs.Jump.{over}

-- Slopes s i / q and curvatures c i / q, in plain units, meet the equation of an order at place i.
-- The equation is multiplied by q and by the gaps' powers.
unfoldable pub Meets : Card → ℕ → (ℕ → ℤ) → (ℕ → ℤ) → ℕ → Order → Type 0
Meets card q s c i o =
    let i⁻ = back i in
    let i⁺ = on card i in
    let a = knot card i⁻ in
    let b = knot card i in
    let e = knot card i⁺ in
    let g = over (degree o) (gap b e) (gap a b) in
    let p = over (degree o) (gap a b) (gap b e) in
    amount (equation o g p (num (s i⁻)) (num (c i⁻)) (num (s i)) (num (c i)) (num (s i⁺)) (num (c i⁺)))
    ≡ amount (equals o g p (q ⊛ (num e.y ⊖ num b.y)) (q ⊛ (num b.y ⊖ num a.y)))

pub record Exact (K : Kind) (card : Card) : Type 0 where
  pub q : ℕ
  pub positive : 0 < q
  pub s : ℕ → ℤ
  pub c : ℕ → ℤ
  pub meets : (i : ℕ) → i < knots card → (o : Order) → T (K.asks (spot card i) o) → Meets card q s c i o
  -- where the slopes are given, they are the card's own
  pub own : T K.slopes_given → (i : ℕ) → i < knots card → 4096 · s i ≡ q · (knot card i).m

-- "within half a unit": |m − 4096·s/q| is at most half a card unit
unfoldable pub Half : ℕ → ℤ → ℤ → Type 0
Half q s m = 2 * nat_abs (4096 · s -ℤ q · m) ≤ q

pub record Near {K : Kind} {card : Card} (e : Exact K card) : Type 0 where
  pub slopes : (i : ℕ) → i < knots card → Half e.q (e.s i) (knot card i).m
  pub curvatures : (i : ℕ) → i < knots card → Half e.q (e.c i) (knot card i).M
