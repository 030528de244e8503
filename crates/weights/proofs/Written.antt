-- The weights as the code writes them, over the solver's expressions: they are the formal derivatives of the weights in the value, and no operation passes
-- 64 bits. One law serves the three quantities.
-- Assumes nothing.
use mathlib.Core.Path.{◌≡◌, ◌∙◌}
use mathlib.Core.List.{List, [], ◌∷◌}
use lib.Dec.{T}
use lib.IntN.{ℤ, negsuc}
use mir.Syntax.{w64}
use mir.Val.{to_z, of_z}
use Rattle.whole.proofs.Solve.{E, con, ◌:+◌, ◌:-◌, ◌:*◌, #, ring, val, at, v0, v1}
use Rattle.whole.proofs.Machine.{held, res, safe, back}
use Rattle.curve.specs.Formula.{num, power, worth, ∂, ∂^}
use Rattle.curve.proofs.Written.{worth_e}
use Rattle.gaps.specs.Limits.{InGap}
use Rattle.gaps.proofs.Minutes.{gap_tops, minute_in}
use Rattle.weights.specs.declared.Weights.{Weights}
use Rattle.weights.specs.declared.Quantity.{Quantity}
use Rattle.weights.specs.declared.Quantity.TheVariants.{Value, Slope, Curvature}
use Rattle.weights.specs.Weights.{derivative, weight, weighs, weigh}

-- what a number weighs in a quantity, on a gap h at t minutes, as it is defined
abbrev pub weighing : Quantity → Quantity → E → E → E
weighing q of h t = worth_e (∂^ (derivative q) (weight of (num h))) t

-- and as it is written, with s minutes to the right knot
abbrev pub written : Quantity → Quantity → (h t s : E) → E
written Value Value h t s = s :* s :* s :* (h :* h :+ # 3 :* h :* t :+ # 6 :* t :* t)
written Value Slope h t s = t :* (s :* s :* s) :* (h :+ # 3 :* t)
written Value Curvature h t s = t :* t :* (s :* s :* s)
written Slope Value h t s = con (negsuc 29) :* t :* t :* (s :* s)
written Slope Slope h t s = s :* s :* (s :+ # 6 :* t) :* (s :- # 2 :* t)
written Slope Curvature h t s = t :* (s :* s) :* (# 2 :* s :- # 3 :* t)
written Curvature Value h t s = # 60 :* t :* s :* (t :- s)
written Curvature Slope h t s = # 12 :* t :* s :* (# 2 :* t :- # 3 :* s)
written Curvature Curvature h t s = # 2 :* s :* (s :* s :- # 6 :* t :* s :+ # 3 :* t :* t)

abbrev pub coded : Quantity → Quantity → E → E → E
coded q of h t = written q of h t (h :- t)

module _ (h t : ℤ) where
  abbrev numbers : List ℤ
  numbers = h ∷ t ∷ []

  abbrev forms : Quantity → Quantity → E → E → E × E
  forms q of h t = (coded q of h t, weighing q of h t)

  coded_is : (q of : Quantity) → val (at numbers) (coded q of v0 v1) ≡ weighs q of h t
  unfolding weighs weight worth ∂ ∂^ power
  coded_is Value Value = ring numbers (forms Value Value) tt
  coded_is Value Slope = ring numbers (forms Value Slope) tt
  coded_is Value Curvature = ring numbers (forms Value Curvature) tt
  coded_is Slope Value = ring numbers (forms Slope Value) tt
  coded_is Slope Slope = ring numbers (forms Slope Slope) tt
  coded_is Slope Curvature = ring numbers (forms Slope Curvature) tt
  coded_is Curvature Value = ring numbers (forms Curvature Value) tt
  coded_is Curvature Slope = ring numbers (forms Curvature Slope) tt
  coded_is Curvature Curvature = ring numbers (forms Curvature Curvature) tt

module _ {h t : ℤ} (g : InGap h t) (q : Quantity) where
  abbrev Fits : Quantity → Type 0
  Fits of = T (safe w64 gap_tops (coded q of v0 v1))

  -- what the machine stores of an expression
  abbrev stored : Quantity → ℤ
  stored of = to_z w64 (of_z w64 (res w64 (held h ∷ held t ∷ []) (coded q of v0 v1)))

  stored_is : (of : Quantity) → Fits of → stored of ≡ weighs q of h t
  stored_is of f = back (minute_in g) (coded q of v0 v1) f ∙ coded_is h t q of

  abbrev three : Weights
  three = record { ordinate = stored Value; slope = stored Slope; curvature = stored Curvature }

  -- the three that a function returns are what the numbers weigh
  pub weighed : Fits Value → Fits Slope → Fits Curvature → three ≡ weigh q h t
  unfolding weigh
  weighed y m c = λ i. record { ordinate = stored_is Value y i; slope = stored_is Slope m i; curvature = stored_is Curvature c i }
