-- P and what is made of it, as the code writes them, over the solver's expressions: what a knot adds to each
-- numerator is its parts' sum. Assumes nothing.
use mathlib.Core.Path.{◌≡◌}
use mathlib.Core.List.{List, [], ◌∷◌}
use lib.IntN.{ℤ, neg_ℤ, ◌-ℤ◌}
use Rattle.whole.proofs.Solve.{E, ◌:+◌, ◌:-◌, ◌:*◌, :neg, #, ring}
use Rattle.curve.specs.Formula.{power, worth, ∂, ∂^}
use Rattle.gaps.specs.declared.Knot.{Knot}
use Rattle.gaps.specs.Knots.{mirror}
use Rattle.weights.specs.declared.Quantity.{Quantity}
use Rattle.weights.specs.declared.Quantity.TheVariants.{Value, Slope, Curvature}
use Rattle.weights.specs.Weights.{weight, weighs, weigh}
use Rattle.weights.proofs.Written.{weighing}
use Rattle.parts.specs.Parts.{adds, seen, sum_of}
use Rattle.gap_curve.specs.declared.Shares.{Shares}
use Rattle.gap_curve.specs.GapCurve.{side, height, rate, fall, shares}

-- ---- P of a knot

abbrev pub level_e : (h y : E) → E
level_e h y = h :* h :* (# 8192 :* y)

abbrev pub rise_e : (h y m : E) → E
rise_e h y m = h :* (# 3 :* (# 8192 :* y) :+ # 2 :* (h :* m))

abbrev pub bend_e : (h y m c : E) → E
bend_e h y m c = # 6 :* (# 8192 :* y :+ h :* m) :+ h :* h :* c

-- ---- at a minute

abbrev pub height_e : (level rise bend t : E) → E
height_e level rise bend t = (bend :* t :+ rise) :* t :+ level

abbrev pub rate_e : (rise bend t : E) → E
rate_e rise bend t = bend :* t :+ (bend :* t :+ rise)

abbrev pub fall_e : (level rise bend t s : E) → E
fall_e level rise bend t s = s :* rate_e rise bend t :- # 3 :* height_e level rise bend t

abbrev pub share_e : Quantity → (level rise bend t s : E) → E
share_e Value level rise bend t s = s :* s :* s :* height_e level rise bend t
share_e Slope level rise bend t s = s :* s :* fall_e level rise bend t s
share_e Curvature level rise bend t s = s :* (s :* (# 2 :* bend :* s :- # 4 :* rate_e rise bend t) :- # 2 :* fall_e level rise bend t s)

-- ---- it is the sum of its parts

abbrev pub share : Quantity → Shares → ℤ
share Value n = n.value
share Slope n = n.slope
share Curvature n = n.curvature

-- what the code takes off where the sum has it
abbrev pub signed : Quantity → ℤ → ℤ
signed Value z = z
signed Slope z = neg_ℤ z
signed Curvature z = z

abbrev knot_e : Quantity → (h t s y m c : E) → E
knot_e q h t s y m c = share_e q (level_e h y) (rise_e h y m) (bend_e h y m c) t s

abbrev parts_e : Quantity → (h t y m c : E) → E
parts_e q h t y m c = # 8192 :* (y :* weighing q Value h t) :+ # 2 :* h :* (m :* weighing q Slope h t) :+ h :* h :* (c :* weighing q Curvature h t)

abbrev lefts : Quantity → (h t y m c : E) → E × E
lefts q h t y m c = (knot_e q h t (h :- t) y m c, parts_e q h t y m c)

abbrev rights : Quantity → (h t y m c : E) → E × E
rights Value h t y m c = (knot_e Value h (h :- t) t y (:neg m) c, parts_e Value h (h :- t) y (:neg m) c)
rights Slope h t y m c = (:neg (knot_e Slope h (h :- t) t y (:neg m) c), parts_e Slope h (h :- t) (:neg y) m (:neg c))
rights Curvature h t y m c = (knot_e Curvature h (h :- t) t y (:neg m) c, parts_e Curvature h (h :- t) y (:neg m) c)

module _ (h t : ℤ) (k : Knot) where
  abbrev all : List ℤ
  all = h ∷ t ∷ k.ordinate ∷ k.slope ∷ k.curvature ∷ []

  pub left_share : (q : Quantity) → share q (shares (side h k) t (h -ℤ t)) ≡ sum_of (adds h k (weigh q h t))
  unfolding side height rate fall shares adds sum_of weigh weighs weight worth ∂ ∂^ power
  left_share Value = ring all (lefts Value) tt
  left_share Slope = ring all (lefts Slope) tt
  left_share Curvature = ring all (lefts Curvature) tt

  pub right_share : (q : Quantity) → signed q (share q (shares (side h (mirror k)) (h -ℤ t) t)) ≡ sum_of (adds h (seen q k) (weigh q h (h -ℤ t)))
  unfolding side height rate fall shares mirror seen adds sum_of weigh weighs weight worth ∂ ∂^ power
  right_share Value = ring all (rights Value) tt
  right_share Slope = ring all (rights Slope) tt
  right_share Curvature = ring all (rights Curvature) tt
