-- What document 02, order 10, asks of an answered value, whoever made the table. The statements alone;
-- proofs/Demand proves them. Fractions are compared by cross multiplication. Assumes nothing.
use Rattle.std.specs.Prelude.{◌≡◌, List, ℕ, ◌+◌, ◌*◌, ◌%◌, ◌≤◌, ◌<◌, ℤ, pos, nat_abs, ◌-ℤ◌, length}
use Rattle.whole.specs.Whole.{◌·◌}
use Rattle.curve.specs.Formula.{worth}
use Rattle.curve.specs.Demand.{WithinHalf}
use Rattle.curve.specs.Kind.{quintic}
use Rattle.cubic.specs.Cubic.{y, scale, unknown, Continuous, between, denominator, Spline}

-- w is within half of z/d, and even where it is at a half
pub record HalfEven (z : ℤ) (d : ℕ) (w : ℤ) : Type 0 where
  pub within : WithinHalf z d w
  pub even : 2 * nat_abs (z -ℤ d · w) ≡ d → nat_abs w % 2 ≡ 0

-- a count of parts stands on a step of the table, t parts from the value at place i
pub record OnStep (ys : List ℤ) (parts count i t : ℕ) : Type 0 where
  pub inside : i + 1 < length ys
  pub from : i * parts + t ≡ count
  pub to : t ≤ parts

pub record OnCubic (ys : List ℤ) (parts count : ℕ) (v : ℤ) : Type 0 where
  -- "The unknowns satisfy every continuity equation exactly", whole numbers over Table 1's a with index n−3;
  pub meets : Continuous ys (scale ys) (unknown ys)
  -- "no others do", over no other number either
  pub no_others : (d : ℕ) (u : ℕ → ℤ) → Continuous ys d u → (i : ℕ) → i < length ys → scale ys · u i ≡ d · unknown ys i
  -- with them the steps are one natural cubic spline through the values
  pub spline : Spline ys parts
  -- the count stands on a step, and on whichever it does, the value is "within half a hundredth of the exact
  -- cubic, ties to even"
  pub stands : (i : ℕ) × (t : ℕ) × OnStep ys parts count i t
  pub close : (i t : ℕ) → OnStep ys parts count i t → HalfEven (worth (between ys parts i) (pos t)) (denominator ys parts) v
  -- at the values it is the value
  pub at_values : (i : ℕ) → i < length ys → count ≡ i * parts → v ≡ y ys i
  -- and nowhere is it more than three times the largest ordinate
  pub size : nat_abs v ≤ 3 * quintic.ordinates
