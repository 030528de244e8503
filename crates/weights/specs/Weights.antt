-- Document 01, "The exact curve", as what the left knot's numbers weigh in it. The weights in the slope and the curvature are the formal derivatives of those in
-- the value. Assumes nothing.
use Rattle.std.specs.Prelude.{ℕ, ℤ}
use Rattle.curve.specs.Formula.{Formula, num, worth, ∂^}
use Rattle.weight_sheet.specs.declared.Row.{Row}
use Rattle.weight_sheet.specs.Weight.{ordinate_weight, slope_weight, curvature_weight}
use Rattle.weights.specs.declared.Weights.{Weights}
use Rattle.weights.specs.declared.Quantity.{Quantity}
use Rattle.weights.specs.declared.Quantity.TheVariants.{Value, Slope, Curvature}

-- which derivative of the curve a quantity is
abbrev pub derivative : Quantity → ℕ
derivative Value = 0
derivative Slope = 1
derivative Curvature = 2

-- what the left knot's ordinate, slope and curvature weigh in N on a gap h, by the formulas that the weight sheet follows
unfoldable pub weight : {A : Type 0} → Quantity → Formula A → Formula A
weight Value h = ordinate_weight h
weight Slope h = slope_weight h
weight Curvature h = curvature_weight h

-- and in a quantity, at t minutes
unfoldable pub weighs : Quantity → Quantity → ℤ → ℤ → ℤ
weighs q of h t = worth (∂^ (derivative q) (weight of (num h))) t

unfoldable pub weigh : Quantity → ℤ → ℤ → Weights
weigh q h t = record { ordinate = weighs q Value h t; slope = weighs q Slope h t; curvature = weighs q Curvature h t }

-- a row of the weight sheet as weights
abbrev pub weights_of : Row → Weights
weights_of r = record { ordinate = r.ordinate; slope = r.slope; curvature = r.curvature }
