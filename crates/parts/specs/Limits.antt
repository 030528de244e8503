-- What the arithmetic of one gap asks of its numbers: that they keep within limits which a computed test passes. A kind of card passes where its limits do on
-- each gap that it has. Assumes nothing.
use Rattle.std.specs.Prelude.{ℕ, suc, ◌+◌, ◌-◌, ◌*◌, ◌≤◌, ◌<◌, ◌^◌, Bool, ◌&&◌, T, ltb, leb, ℤ, nat_abs}
use Rattle.curve.specs.Kind.{Kind}
use Rattle.gaps.specs.declared.Knot.{Knot}
use Rattle.gaps.specs.Limits.{widest, Limits, Keeps, modest, limits, upto}
use Rattle.weights.specs.declared.Weights.{Weights}
use Rattle.weights.specs.declared.Quantity.{Quantity}
use Rattle.weights.specs.declared.Quantity.TheVariants.{Value, Slope, Curvature}
use Rattle.weights.specs.Weights.{derivative}
use Rattle.parts.specs.Parts.{under}

-- what a knot adds, with every term counted positive
unfoldable pub load : ℤ → Knot → Weights → ℕ
load h k w =
    8192 * (nat_abs k.ordinate * nat_abs w.ordinate)
    + 2 * nat_abs h * (nat_abs k.slope * nat_abs w.slope)
    + nat_abs h * nat_abs h * (nat_abs k.curvature * nat_abs w.curvature)

pub record Light (h : ℤ) (k : Knot) (w : Weights) : Type 0 where
  pub wide : 1 ≤ nat_abs h
  pub narrow : nat_abs h ≤ widest
  pub light : load h k w < 2 ^ 63

-- the weights of both knots together, in a quantity, are at most so many sixteenths of a power of the gap
abbrev pub sixteenths : Quantity → Quantity → ℕ
sixteenths Value Value = 16
sixteenths Value Slope = 5
sixteenths Value Curvature = 1
sixteenths Slope Value = 160
sixteenths Slope Slope = 64
sixteenths Slope Curvature = 16
sixteenths Curvature Value = 320
sixteenths Curvature Slope = 320
sixteenths Curvature Curvature = 96

-- 16 times how large the numerator of a quantity can be
unfoldable pub most : Quantity → Limits → ℕ → ℕ
most q L h =
    let p = h ^ (5 - derivative q) in
    8192 * (L.ordinates * (sixteenths q Value * p))
    + 2 * h * (L.slopes * (sixteenths q Slope * p))
    + h * h * (L.curvatures * (sixteenths q Curvature * p))

-- it fits 64 bits with a sign, and what is read fits 32
unfoldable pub quantity_fits : Quantity → Limits → ℕ → Bool
quantity_fits q L h =
    ltb (most q L h) (16 * 2 ^ 63)
    && leb (most q L h) (16 * ((2 ^ 31 - 1) * (under q * h ^ 5)))

unfoldable pub gap_fits : Limits → ℕ → Bool
gap_fits L h =
    quantity_fits Value L h
    && quantity_fits Slope L h
    && quantity_fits Curvature L h
    && leb h widest
    && modest L

-- a gap whose knots keep within limits that fit
pub record Tame (h : ℤ) (a b : Knot) : Type 0 where
  pub limits : Limits
  pub fits : T (gap_fits limits (nat_abs h))
  pub left : Keeps limits a
  pub right : Keeps limits b

-- ---- a kind of card

-- no wider gap has a wider limit, so that the limit by the wider of two gaps holds of both
unfoldable pub narrows : Kind → ℕ → Bool
narrows K gap = leb (K.curvatures (suc gap)) (K.curvatures gap)

-- every reading on a gap of the kind fits
unfoldable pub readable : Kind → Bool
readable K = upto (λ h. gap_fits (limits K h) h) K.widest_gap && upto (narrows K) K.widest_gap
