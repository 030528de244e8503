-- `GapCurve::numerators` meets its contract: what the two knots add fits together.
-- Assumes nothing.
use mathlib.Core.Path.{◌≡◌, ◌∙◌, ap, ap₂}
use mathlib.Core.List.{List, [], ◌∷◌}
use Prim.Native.Nat.{◌+◌, ◌<◌, ◌^◌}
use native.Mathlib.Omega.{arith}
use lib.IntN.{ℤ, nat_abs, ◌+ℤ◌, ◌-ℤ◌}
use mir.Syntax.{w64}
use mir.Val.{SFits}
use Rattle.whole.proofs.Order.{abs_add, abs_sub}
use Rattle.whole.proofs.Linear.{abs_fits}
use Rattle.whole.proofs.Solve.{E, ◌:+◌, ◌:-◌, v0, v1}
use Rattle.whole.proofs.Machine.{Src, held, res, Ok, does, gave, step, asks, gives}
use Rattle.gaps.proofs.Minutes.{minute_in}
use Rattle.weights.specs.declared.Quantity.{Quantity}
use Rattle.weights.specs.declared.Quantity.TheVariants.{Value, Slope, Curvature}
use Rattle.gap_curve.specs.declared.GapCurve.{GapCurve}
use Rattle.gap_curve.specs.GapCurve.{by_powers, shares, added}
use Rattle.gap_curve.specs.Limits.{Fair}
use Rattle.gap_curve.proofs.Coded.{share}
use Rattle.gap_curve.proofs.LaidReads.{fair_left, fair_right, sides_fit}
use Rattle.gap_curve.proofs.Handed.{on_gap, leftwards, rightwards}
use Rattle.gap_curve.proofs.GapCurve.numerators.Goals as goal
use Rattle.gap_curve.proofs.GapCurve.numerators.Goals.{After-shares_of-a, After-shares_of-b, After-struct_told-4-1, Start}

abbrev start : After-struct_told-4-1 → Start
start c = (goal.at.After-struct_told-4-1 c).Start

pub shares_of-a-requires : goal.shares_of-a-requires
shares_of-a-requires c = let q = (start c).requires in let f = fair_left q.laid q.in_gap in asks (on_gap q.in_gap f) leftwards (λ l r b t s. Fair (by_powers l r b) t s) tt f

pub shares_of-b-requires : goal.shares_of-b-requires
shares_of-b-requires c = let q = (start (goal.at.shares_of-b-requires c).After-struct_told-4-1).requires in let f = fair_right q.laid q.in_gap in asks (on_gap q.in_gap f) rightwards (λ l r b s t. Fair (by_powers l r b) s t) tt f

-- ---- together

module _ (c : After-shares_of-b) where
  abbrev first : After-shares_of-a
  first = (goal.at.After-shares_of-b c).After-shares_of-a

  abbrev d : Start
  d = start (goal.at.After-shares_of-a first).After-struct_told-4-1

  abbrev h : ℤ
  h = d.args.self.h

  abbrev t : ℤ
  t = d.args.t

  abbrev g : GapCurve
  g = d.args.self

  left_added : first.shares_of-a.result ≡ shares g.left t (h -ℤ t)
  left_added = gives (on_gap d.requires.in_gap (fair_left d.requires.laid d.requires.in_gap)) leftwards (λ l r b t s. first.shares_of-a.result ≡ shares (by_powers l r b) t s) tt first.shares_of-a.ensures

  right_added : c.shares_of-b.result ≡ shares g.right (h -ℤ t) t
  right_added = gives (on_gap d.requires.in_gap (fair_right d.requires.laid d.requires.in_gap)) rightwards (λ l r b s t. c.shares_of-b.result ≡ shares (by_powers l r b) s t) tt c.shares_of-b.ensures

  abbrev both : Quantity → List Src
  both q = held (share q first.shares_of-a.result) ∷ held (share q c.shares_of-b.result) ∷ []

  small : (q : Quantity) → nat_abs (share q first.shares_of-a.result) + nat_abs (share q c.shares_of-b.result) < 2 ^ 63
  small q = omega (arith, ap (λ n. nat_abs (share q n)) left_added, ap (λ n. nat_abs (share q n)) right_added, sides_fit d.requires.laid d.requires.in_gap q)

  abbrev put : Quantity → E
  put Value = v0 :+ v1
  put Slope = v0 :- v1
  put Curvature = v0 :+ v1

  abbrev l : Quantity → ℤ
  l q = share q first.shares_of-a.result

  abbrev r : Quantity → ℤ
  r q = share q c.shares_of-b.result

  fits : (q : Quantity) → Ok w64 (both q) (put q)
  fits Value = record { left = abs_fits (omega (arith, small Value)); right = abs_fits (omega (arith, small Value)); fits = abs_fits (omega (arith, small Value, abs_add (l Value) (r Value))) }
  fits Slope = record { left = abs_fits (omega (arith, small Slope)); right = abs_fits (omega (arith, small Slope)); fits = abs_fits (omega (arith, small Slope, abs_sub (l Slope) (r Slope))) }
  fits Curvature = record { left = abs_fits (omega (arith, small Curvature)); right = abs_fits (omega (arith, small Curvature)); fits = abs_fits (omega (arith, small Curvature, abs_add (l Curvature) (r Curvature))) }

pub returns : goal.returns
unfolding added
returns c =
    let e = (goal.at.returns c).After-shares_of-b in
    let l = left_added e in
    let r = right_added e in
    λ i.
    record {
      value = (gave w64 (both e Value) (put e Value) (fits e Value) ∙ ap₂ (λ l r. l.value +ℤ r.value) l r) i;
      slope = (gave w64 (both e Slope) (put e Slope) (fits e Slope) ∙ ap₂ (λ l r. l.slope -ℤ r.slope) l r) i;
      curvature = (gave w64 (both e Curvature) (put e Curvature) (fits e Curvature) ∙ ap₂ (λ l r. l.curvature +ℤ r.curvature) l r) i;
    }

does_put : (e : After-shares_of-b) (q : Quantity) → SFits w64 (res w64 (both e q) (put e q))
does_put e q = does w64 (both e q) (put e q) (fits e q)

pub overflow_sub-s : goal.overflow_sub-s
overflow_sub-s c = step (minute_in c.requires.in_gap) (v0 :- v1) tt

pub overflow_add-result : goal.overflow_add-result
overflow_add-result c = does_put (goal.at.overflow_add-result c).After-shares_of-b Value

pub overflow_sub-result : goal.overflow_sub-result
overflow_sub-result c = does_put (goal.at.overflow_sub-result c).After-shares_of-b Slope

pub overflow_add-result-2 : goal.overflow_add-result-2
overflow_add-result-2 c = does_put (goal.at.overflow_add-result-2 c).After-shares_of-b Curvature
