-- A knot's numbers, in the mirror and at a minute. Document 01, "The curve and its card". Assumes nothing.
use Rattle.std.specs.Prelude.{ℕ, neg_ℤ}
use Rattle.curve.specs.Card
use Rattle.gaps.specs.declared.Knot.{Knot}

-- with the minutes running the other way
unfoldable pub mirror : Knot → Knot
mirror k = record { ordinate = k.ordinate; slope = neg_ℤ k.slope; curvature = k.curvature }

-- the knot with these numbers at minute x
abbrev pub placed : ℕ → Knot → Card.Knot
placed x k = record { x = x; y = k.ordinate; m = k.slope; M = k.curvature }

-- what it has besides its minute
abbrev pub numbers : Card.Knot → Knot
numbers k = record { ordinate = k.y; slope = k.m; curvature = k.M }
