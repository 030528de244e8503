-- Document 01, "The curve and its card": a knot, a card, and a knot between its neighbours.
-- Assumes nothing.
use Rattle.std.specs.Prelude.{ℕ, suc, ◌+◌, ◌-◌, min, cond, List, ℤ, pos, eqb, length, get_or}
use Rattle.curve.specs.Kind.{Spot, inner, end}

-- a knot has "a minute x (0 to 65,535)": the last one
abbrev pub latest : ℕ
latest = 65_535

-- minute, ordinate in hundredths, slope and curvature in card units
pub record Knot : Type 0 where
  pub x : ℕ
  pub y : ℤ
  pub m : ℤ
  pub M : ℤ

-- four lists, and the codes of the two ends
pub record Card : Type 0 where
  pub minutes : List ℕ
  pub ordinates : List ℤ
  pub slopes : List ℤ
  pub curvatures : List ℤ
  pub left : ℕ
  pub right : ℕ

-- n
unfoldable pub knots : Card → ℕ
knots c = length c.minutes

-- "knots count from 0"
unfoldable pub knot : Card → ℕ → Knot
knot c i =
    record {
      x = get_or c.minutes i 0;
      y = get_or c.ordinates i (pos 0);
      m = get_or c.slopes i (pos 0);
      M = get_or c.curvatures i (pos 0);
    }

unfoldable pub gap : Knot → Knot → ℕ
gap a b = b.x - a.x

-- the places before and after; at an end the place itself, so that the gap and the difference of ordinates there are 0
unfoldable pub back : ℕ → ℕ
back i = i - 1

unfoldable pub on : Card → ℕ → ℕ
on c i = min (i + 1) (knots c - 1)

unfoldable pub spot : Card → ℕ → Spot
spot c i = cond (eqb i 0) (end c.left) (cond (eqb (suc i) (knots c)) (end c.right) inner)

-- a knot where two gaps meet, with its neighbours: all that the tests of 9 and 10 read
pub record Joint : Type 0 where
  pub spot : Spot
  pub before : Knot
  pub here : Knot
  pub after : Knot

unfoldable pub joint : Card → ℕ → Joint
joint c i = record { spot = spot c i; before = knot c (back i); here = knot c i; after = knot c (on c i) }
