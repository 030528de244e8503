-- Document 01, "The curve and its card": the limits, "constants of the kind of card they belong to", and what
-- each end's code asks; and document 02, order 8, "Values with measured slopes": the second kind. Assumes
-- nothing.
use Rattle.std.specs.Prelude.{ℕ, Bool, true, false, ◌||◌, ℤ, ltb, eqb}
use Rattle.curve.specs.Formula.{Formula, ◌⊕◌, ◌⊛◌}
use Rattle.curve.specs.Curve.{Order, third, fourth}
use Rattle.curve.specs.Curve

-- a knot stands inside the card, or is an end of some code
pub data Spot : Type 0 where
  inner : Spot
  end : ℕ → Spot

pub record Kind : Type 0 where
  -- the kind of the record that opens such a card's bytes
  pub head : ℕ
  pub fewest_knots : ℕ
  pub most_knots : ℕ
  pub widest_gap : ℕ
  -- ordinates, slopes and curvatures from minus this to this; curvatures by the wider of the gaps beside the knot
  pub ordinates : ℕ
  pub slopes : ℕ
  pub curvatures : ℕ → ℕ
  pub no_code : ℕ → Bool
  -- whether an equation holds at a knot, and so its jump is tested
  pub asks : Spot → Order → Bool
  -- per side, by the powers of one over the gap
  pub allowance : Order → (ℕ → Formula ℤ) → Formula ℤ
  -- whether the slopes come with the knots, and are not solved for
  pub slopes_given : Bool

-- "code 2 replaces the third-derivative row", "code 1 replaces both rows"; "at a free end both, with code 2 the fourth only, with code 1 nothing"
unfoldable pub quintic_asks : Spot → Order → Bool
quintic_asks inner o = true
quintic_asks (end code) third = eqb code 0
quintic_asks (end code) fourth = eqb code 0 || eqb code 2

unfoldable pub quintic : Kind
quintic =
    record {
      head = 1;
      fewest_knots = 3;
      most_knots = 64;
      widest_gap = 60;
      ordinates = 20_000;
      slopes = 1_048_576;
      curvatures = λ gap. 1_048_576;
      no_code = λ code. ltb 2 code;
      asks = quintic_asks;
      allowance = Curve.allowance;
      slopes_given = false;
    }

-- order 8: "only for the third derivative", "at both ends too", whose codes are 0
unfoldable pub sloped_asks : Spot → Order → Bool
sloped_asks s third = quintic_asks s third
sloped_asks s fourth = false

-- "with allowance 4g per side", as document 01 writes it: so many g2, and 4 g; the fourth's is not asked for
unfoldable pub sloped_allowance : Order → (ℕ → Formula ℤ) → Formula ℤ
sloped_allowance third g = 0 ⊛ g 2 ⊕ 4 ⊛ g 1
sloped_allowance fourth g = Curve.allowance fourth g

-- "The head is kind 6, same length, both codes 0"; document 01's limits
unfoldable pub sloped : Kind
sloped =
    record {
      head = 6;
      fewest_knots = quintic.fewest_knots;
      most_knots = quintic.most_knots;
      widest_gap = quintic.widest_gap;
      ordinates = quintic.ordinates;
      slopes = quintic.slopes;
      curvatures = quintic.curvatures;
      no_code = λ code. ltb 0 code;
      asks = sloped_asks;
      allowance = sloped_allowance;
      slopes_given = true;
    }
