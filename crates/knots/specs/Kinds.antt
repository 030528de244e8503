-- A kind of card as the code carries it, and the kind of the definitions that it stands for. Document 01,
-- "The curve and its card", "The jump test"; document 02, order 8. Assumes nothing.
use Rattle.std.specs.Prelude.{ℕ, Bool, true, false, not, ◌&&◌, ℤ, ltb}
use Rattle.curve.specs.Formula.{Formula, ◌⊕◌, ◌⊛◌}
use Rattle.curve.specs.Curve.{Order, third, fourth}
use Rattle.curve.specs.Curve
use Rattle.curve.specs.Kind.{Kind, quintic}
use Rattle.knots.specs.declared.Kind.{Kind as Carried}

-- a number given for an end is from minus this to this, in hundredths per minute (squared)
abbrev pub most_given : ℕ
most_given = 256

abbrev pub quintic_card : Carried
quintic_card = record { head = 1; code = 2; squares = 16; fourth = true }

abbrev pub sloped_card : Carried
sloped_card = record { head = 6; code = 0; squares = 0; fourth = false }

abbrev asks_order : Carried → Order → Bool
asks_order k third = true
asks_order k fourth = k.fourth

abbrev allowance_of : Carried → Order → (ℕ → Formula ℤ) → Formula ℤ
allowance_of k third g = k.squares ⊛ g 2 ⊕ 4 ⊛ g 1
allowance_of k fourth g = Curve.allowance fourth g

-- one list of limits serves every kind; where the fourth is not asked, the slopes are given
abbrev pub kind_of : Carried → Kind
kind_of k =
    record {
      head = k.head;
      fewest_knots = quintic.fewest_knots;
      most_knots = quintic.most_knots;
      widest_gap = quintic.widest_gap;
      ordinates = quintic.ordinates;
      slopes = quintic.slopes;
      curvatures = quintic.curvatures;
      no_code = λ code. ltb k.code code;
      asks = λ spot o. asks_order k o && quintic.asks spot o;
      allowance = allowance_of k;
      slopes_given = not k.fourth;
    }
