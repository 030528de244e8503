-- Document 01, "The exact curve", part by part: what the ordinate, the slope and the curvature of either knot add to N on a gap h, with σ = h − τ,
--   8192·y·σ³(h²+3hτ+6τ²)     2h·m·τσ³(h+3τ)      h²·M·τ²σ³
--   8192·y'·τ³(h²+3hσ+6σ²)    −2h·m'·στ³(h+3σ)    h²·M'·σ²τ³
-- and to its derivatives in τ. Assumes nothing.
use Rattle.std.specs.Prelude.{ℕ, ◌+◌, ℤ, neg_ℤ, nat_abs, ◌+ℤ◌, ◌*ℤ◌}
use Rattle.whole.specs.Whole.{◌·◌}
use Rattle.curve.specs.Formula.{Formula, τ, num, nat, ◌⊕◌, ◌⊖◌, ◌⊗◌, ◌⊛◌, ◌^^◌, worth, ∂^}
use Rattle.curve.specs.Reading.{between}
use Rattle.gaps.specs.declared.Knot.{Knot}
use Rattle.gaps.specs.Knots.{mirror, placed}
use Rattle.weights.specs.declared.Weights.{Weights}
use Rattle.weights.specs.declared.Quantity.{Quantity}
use Rattle.weights.specs.declared.Quantity.TheVariants.{Value, Slope, Curvature}
use Rattle.weights.specs.Weights.{derivative, weight}
use Rattle.parts.specs.declared.Added.{Added}
use Rattle.parts.specs.declared.Parts.{Parts}

-- what the right knot's ordinate, slope and curvature weigh in N
unfoldable pub weight' : {A : Type 0} → Quantity → Formula A → Formula A
weight' Value h = τ ^^ 3 ⊗ (h ^^ 2 ⊕ 3 ⊛ h ⊗ (h ⊖ τ) ⊕ 6 ⊛ (h ⊖ τ) ^^ 2)
weight' Slope h = nat 0 ⊖ (h ⊖ τ) ⊗ τ ^^ 3 ⊗ (h ⊕ 3 ⊛ (h ⊖ τ))
weight' Curvature h = (h ⊖ τ) ^^ 2 ⊗ τ ^^ 3

-- an ordinate, a slope or a curvature with its weight, as a part of N
unfoldable pub part : {A : Type 0} → Quantity → (h number weight : Formula A) → Formula A
part Value h y w = 8192 ⊛ (y ⊗ w)
part Slope h m w = 2 ⊛ h ⊗ (m ⊗ w)
part Curvature h M w = h ^^ 2 ⊗ (M ⊗ w)

-- what a knot with these weights adds to a quantity at t minutes
unfoldable pub added : Quantity → (h t : ℤ) → Knot → (Quantity → Formula ℤ) → Added
added q h t k w =
    record {
      ordinate = worth (∂^ (derivative q) (part Value (num h) (num k.ordinate) (w Value))) t;
      slope = worth (∂^ (derivative q) (part Slope (num h) (num k.slope) (w Slope))) t;
      curvature = worth (∂^ (derivative q) (part Curvature (num h) (num k.curvature) (w Curvature))) t;
    }

-- the six parts of a quantity's numerator, from knot a on the left and knot b on the right
unfoldable pub parts : Quantity → (h t : ℤ) → Knot → Knot → Parts
parts q h t a b = record { left = added q h t a (λ of. weight of (num h)); right = added q h t b (λ of. weight' of (num h)) }

-- the exact curve from knot a to knot b on a gap h
unfoldable pub drawn : ℤ → Knot → Knot → Formula ℤ
drawn h a b = between (placed 0 a) (placed (nat_abs h) b)

-- 8192·h⁵ is under N, and so 2·h⁵ under N's derivatives where these are taken 4096 times
abbrev pub under : Quantity → ℕ
under Value = 8192
under Slope = 2
under Curvature = 2

-- ---- inside

-- a knot's numbers, each with its weight in a quantity
unfoldable pub adds : ℤ → Knot → Weights → Added
adds h k w = record { ordinate = 8192 · (k.ordinate *ℤ w.ordinate); slope = 2 · h *ℤ (k.slope *ℤ w.slope); curvature = h *ℤ h *ℤ (k.curvature *ℤ w.curvature) }

-- the right knot, for a quantity that is read with the minutes running the other way
unfoldable pub seen : Quantity → Knot → Knot
seen Value k = mirror k
seen Slope k = record { ordinate = neg_ℤ k.ordinate; slope = k.slope; curvature = neg_ℤ k.curvature }
seen Curvature k = mirror k

unfoldable pub sum_of : Added → ℤ
sum_of a = a.ordinate +ℤ a.slope +ℤ a.curvature

-- with every term counted positive
unfoldable pub size : Added → ℕ
size a = nat_abs a.ordinate + nat_abs a.slope + nat_abs a.curvature
