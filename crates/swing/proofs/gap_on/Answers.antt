-- `swing::gap_on` meets its contract: a loop over the minutes between the knots, that keeps what was reached
-- to either side. Assumes nothing.
use Rattle.std.proofs.Common.{ℕ, ◌≡◌, refl, ap, ◌∙◌, ◌+◌, ◌-◌, ◌≤◌, ◌<◌, ◌^◌, List, arith, rules, pos, get_or, to_z, of_z, w16, w32, w64}
use Rattle.std.proofs.lemmas.Int.{to_z-of_z, to_z_pos}
use Rattle.lists.specs.Lists.{InPlace}
use Rattle.lists.proofs.ByGap.{curve_laid, minute_laid, curve_reads}
use Rattle.swing.specs.declared.Reach.{Reach}
use Rattle.swing.specs.Swing.{below_at, above_at}
use Rattle.swing.proofs.Peak.{peak_is}
use Rattle.swing.proofs.Gaps.{wide, place, low_start, high_start, low_on, high_on, gap_reached}
use Rattle.swing.proofs.gap_on.Invariants.{card}
use Rattle.swing.proofs.gap_on.Goals as goal
use Rattle.swing.proofs.gap_on.Goals.{After-loop-t, In-loop-t, Start}

pub overflow_sub-h : goal.overflow_sub-h
overflow_sub-h c = omega (arith, wide c.args.lists.checked c.args.j c.requires)

pub loop-t-init : goal.loop-t-init
loop-t-init c = (low_start c.args.lists.checked c.args.j c.requires, high_start c.args.lists.checked c.args.j c.requires)

-- ---- a minute

module _ (c : In-loop-t) where
  abbrev d : Start
  d = (goal.at.In-loop-t c).Start

  abbrev xs : List ℕ
  xs = d.args.lists.minutes.now

  abbrev j : ℕ
  j = d.args.j

  abbrev t : ℕ
  t = c.loop-t.t

  before : t < get_or xs (j + 1) 0 - get_or xs j 0
  before = c.loop-t-test.true

  end_small : get_or xs (j + 1) 0 < 2 ^ 16
  end_small = search rules

  there : InPlace xs j (get_or xs j 0 + t)
  there = place d.args.lists.checked j d.requires t before

  -- the minutes from the left knot, as the machine has them
  t_is : to_z w64 t ≡ pos (get_or xs j 0 + t - get_or xs j 0)
  t_is = let same : t ≡ get_or xs j 0 + t - get_or xs j 0 = omega arith in to_z_pos w64 _ (omega (arith, before, end_small)) ∙ ap pos same

pub value_at-value-requires : goal.value_at-value-requires
value_at-value-requires c =
    let k = (d c).args.lists.checked in
    record { laid = curve_laid k (j c) c.curve-curve.ensures (there c); in_gap = minute_laid k (j c) c.curve-curve.ensures (there c) (t_is c) }

pub loop-t-preserved : goal.loop-t-preserved
loop-t-preserved c =
    let l = (goal.at.loop-t-preserved c).In-loop-t in
    let k = (d l).args.lists.checked in
    let y-is : (let y = get_or (d l).args.lists.ordinates.now (j l) (pos 0) in to_z w16 (of_z w16 y) ≡ y) = search rules in
    let z-is : (let z = get_or (d l).args.lists.ordinates.now (j l + 1) (pos 0) in to_z w16 (of_z w16 z) ≡ z) = search rules in
    let v = c.value_at-value in
    let v-is = to_z-of_z w32 v.result (record { sfits = v.type_inv }) ∙ v.ensures in
    let e = curve_reads k (j l) l.curve-curve.ensures (there l) (t_is l) refl in
    let same : t l + 1 - 1 ≡ t l = omega arith in
    rw same (
      low_on k (j l) (d l).requires (t l) l.loop-t.auto.t (before l) e y-is z-is v-is l.loop-t.invariant.0 c.below.ensures c.or-low.ensures,
      high_on k (j l) (d l).requires (t l) l.loop-t.auto.t (before l) e y-is z-is v-is l.loop-t.invariant.1 c.above.ensures c.or-high.ensures,
    )

-- what was reached lies before the right knot
module _ (c : After-loop-t) where
  abbrev s : Start
  s = (goal.at.After-loop-t c).Start

  -- all were read
  all : c.loop-t.t - 1 + 1 ≡ get_or s.args.lists.minutes.now (s.args.j + 1) 0 - get_or s.args.lists.minutes.now s.args.j 0
  all = let w : 1 ≤ get_or s.args.lists.minutes.now (s.args.j + 1) 0 - get_or s.args.lists.minutes.now s.args.j 0 = omega (arith, wide s.args.lists.checked s.args.j s.requires) in omega (arith, c.loop-t.auto.t, c.loop-t.auto.t-end w, c.loop-t-test.false)

  right : get_or s.args.lists.minutes.now (s.args.j + 1) 0 < 2 ^ 16
  right = search rules

  low_inside : get_or s.args.lists.minutes.now s.args.j 0 + c.loop-t.low.at < 2 ^ 16
  low_inside =
      omega (arith, all, right, wide s.args.lists.checked s.args.j s.requires, ap (λ (r : Reach). r.at) c.loop-t.invariant.0, (peak_is (below_at (card s.args.lists) s.args.j) (c.loop-t.t - 1)).inside)

  high_inside : get_or s.args.lists.minutes.now s.args.j 0 + c.loop-t.high.at < 2 ^ 16
  high_inside =
      omega (arith, all, right, wide s.args.lists.checked s.args.j s.requires, ap (λ (r : Reach). r.at) c.loop-t.invariant.1, (peak_is (above_at (card s.args.lists) s.args.j) (c.loop-t.t - 1)).inside)

pub returns : goal.returns
returns c =
    let l = (goal.at.returns c).After-loop-t in
    gap_reached c.args.lists.checked c.args.j c.requires (c.loop-t.t - 1) (all l) c.loop-t.low c.loop-t.high c.loop-t.invariant.0 c.loop-t.invariant.1

pub overflow_add-result : goal.overflow_add-result
overflow_add-result c = omega (arith, low_inside (goal.at.overflow_add-result c).After-loop-t)

pub overflow_add-result-2 : goal.overflow_add-result-2
overflow_add-result-2 c = omega (arith, high_inside (goal.at.overflow_add-result-2 c).After-loop-t)
