-- `GapCurve::value_at` meets its contract: what the two knots add to the value fits together, and is rounded.
-- Assumes nothing.
use mathlib.Core.Path.{◌≡◌, ◌∙◌, ap, ap₂}
use mathlib.Core.List.{List, [], ◌∷◌}
use Prim.Native.Nat.{◌+◌, ◌<◌, ◌^◌}
use native.Mathlib.Omega.{arith}
use lib.IntN.{ℤ, nat_abs, ◌+ℤ◌, ◌-ℤ◌}
use mir.Syntax.{w32, w64}
use mir.Facts.{to_z-of_z}
use Rattle.whole.specs.Whole.{nearest}
use Rattle.whole.proofs.Order.{abs_add}
use Rattle.whole.proofs.Linear.{abs_fits}
use Rattle.whole.proofs.Solve.{◌:+◌, ◌:-◌, v0, v1}
use Rattle.whole.proofs.Machine.{Src, held, Ok, does, step, asks, gives, asked, told}
use Rattle.gaps.proofs.Minutes.{minute_in}
use Rattle.weights.specs.declared.Quantity.TheVariants.{Value}
use Rattle.parts.proofs.Numerators.{numerator_fits, denominator_positive, reading_fits}
use Rattle.gap_curve.specs.declared.GapCurve.{GapCurve}
use Rattle.gap_curve.specs.GapCurve.{by_powers, shares, added, read_of}
use Rattle.gap_curve.specs.Limits.{Fair}
use Rattle.gap_curve.proofs.LaidReads.{fair_left, fair_right, sides_fit, beneath_is, added_is, rounds_is}
use Rattle.gap_curve.proofs.Handed.{on_gap, leftwards, rightwards}
use Rattle.gap_curve.proofs.GapCurve.value_at.Goals as goal
use Rattle.gap_curve.proofs.GapCurve.value_at.Goals.{After-struct_told-4-1, After-value_share-a, After-value_share-b, Start}

abbrev start : After-struct_told-4-1 → Start
start c = (goal.at.After-struct_told-4-1 c).Start

pub value_share-a-requires : goal.value_share-a-requires
value_share-a-requires c = let q = (start c).requires in let f = fair_left q.laid q.in_gap in asks (on_gap q.in_gap f) leftwards (λ l r b t s. Fair (by_powers l r b) t s) tt f

pub value_share-b-requires : goal.value_share-b-requires
value_share-b-requires c = let q = (start (goal.at.value_share-b-requires c).After-struct_told-4-1).requires in let f = fair_right q.laid q.in_gap in asks (on_gap q.in_gap f) rightwards (λ l r b s t. Fair (by_powers l r b) s t) tt f

-- ---- together

module _ (c : After-value_share-b) where
  abbrev first : After-value_share-a
  first = (goal.at.After-value_share-b c).After-value_share-a

  abbrev d : Start
  d = start (goal.at.After-value_share-a first).After-struct_told-4-1

  abbrev g : GapCurve
  g = d.args.self

  abbrev t : ℤ
  t = d.args.t

  abbrev l : ℤ
  l = first.value_share-a.result

  abbrev r : ℤ
  r = c.value_share-b.result

  left_is : l ≡ (shares g.left t (g.h -ℤ t)).value
  left_is = gives (on_gap d.requires.in_gap (fair_left d.requires.laid d.requires.in_gap)) leftwards (λ a b e t s. l ≡ (shares (by_powers a b e) t s).value) tt first.value_share-a.ensures

  right_is : r ≡ (shares g.right (g.h -ℤ t) t).value
  right_is = gives (on_gap d.requires.in_gap (fair_right d.requires.laid d.requires.in_gap)) rightwards (λ a b e s t. r ≡ (shares (by_powers a b e) s t).value) tt c.value_share-b.ensures

  sum_is : l +ℤ r ≡ (added g t).value
  unfolding added
  sum_is = ap₂ ◌+ℤ◌ left_is right_is

  small : nat_abs l + nat_abs r < 2 ^ 63
  small = omega (arith, ap nat_abs left_is, ap nat_abs right_is, sides_fit d.requires.laid d.requires.in_gap Value)

  abbrev both : List Src
  both = held l ∷ held r ∷ []

  fits : Ok w64 both (v0 :+ v1)
  fits = record { left = abs_fits (omega (arith, small)); right = abs_fits (omega (arith, small)); fits = abs_fits (omega (arith, small, abs_add l r)) }

  round_is : nearest (l +ℤ r) g.under ≡ nearest (added g t).value g.under
  round_is = ap (λ n. nearest n g.under) sum_is

pub rounded-requires : goal.rounded-requires
rounded-requires c =
    let told = (let p = (d c).requires.laid in
    let i = (d c).requires.in_gap in
    asked w64 (both c) ((v0 :+ v1) ∷ []) (λ n. ((0 < (g c).under) × (nat_abs n < 2 ^ 63)) × (nat_abs (nearest n (g c).under) < 2 ^ 31)) (fits c, tt)
    ((rw (beneath_is p Value) (denominator_positive Value i p.tame), rw (sum_is c ∙ added_is p i Value) (numerator_fits Value i p.tame)), rw (round_is c ∙ rounds_is p i Value) (reading_fits Value i p.tame))) in record { d_nonzero = told.0; d_bound = told.1 }

pub returns : goal.returns
unfolding read_of
returns c =
    let n = (goal.at.returns c).After-value_share-b in
    to_z-of_z {w = w32} {z = c.rounded.result} (record { sfits = c.rounded.type_inv })
    ∙ told w64 (both n) ((v0 :+ v1) ∷ []) (λ z. c.rounded.result ≡ nearest z (g n).under) (fits n, tt) c.rounded.ensures
    ∙ round_is n

pub overflow_sub-s : goal.overflow_sub-s
overflow_sub-s c = step (minute_in c.requires.in_gap) (v0 :- v1) tt

pub overflow_add-a : goal.overflow_add-a
overflow_add-a c = does w64 (both c) (v0 :+ v1) (fits c)
