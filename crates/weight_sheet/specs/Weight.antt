-- Document 01, "The exact curve": what the ordinate, the slope and the curvature of a gap's left knot weigh in N, τ minutes into a gap h, with σ = h − τ,
--   σ³(h²+3hτ+6τ²)     τσ³(h+3τ)      τ²σ³
-- Assumes nothing.
use Rattle.curve.specs.Formula.{Formula, τ, ◌⊕◌, ◌⊖◌, ◌⊗◌, ◌⊛◌, ◌^^◌}

abbrev pub ordinate_weight : {A : Type 0} → Formula A → Formula A
ordinate_weight h = (h ⊖ τ) ^^ 3 ⊗ (h ^^ 2 ⊕ 3 ⊛ h ⊗ τ ⊕ 6 ⊛ τ ^^ 2)

abbrev pub slope_weight : {A : Type 0} → Formula A → Formula A
slope_weight h = τ ⊗ (h ⊖ τ) ^^ 3 ⊗ (h ⊕ 3 ⊛ τ)

abbrev pub curvature_weight : {A : Type 0} → Formula A → Formula A
curvature_weight h = τ ^^ 2 ⊗ (h ⊖ τ) ^^ 3
