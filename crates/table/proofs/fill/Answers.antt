-- `table::fill` meets its contract: a loop over the gaps, and in it one over a gap's minutes, that fill three
-- lists. Assumes nothing.
use Rattle.std.proofs.Common.{ℕ, ◌≡◌, ◌∙◌, ◌+◌, ◌-◌, ◌≤◌, ◌<◌, ◌^◌, List, sym, ap, subst, arith, rules, length, get_or, pos, to_z, w32, w64, FitsSigned}
use Rattle.std.proofs.lemmas.Int.{to_z-of_z, to_z_pos}
use native.Mathlib.Nat.{add-zero, lt_of_not-le}
use native.Mathlib.Decide.{dec_le}
use Rattle.front.proofs.Filled.{filled_none}
use Rattle.curve.proofs.Gap.{IsGap, gap_is}
use Rattle.minutes.specs.declared.Left.{Left}
use Rattle.minutes.proofs.Halving.{found_gap}
use Rattle.lists.specs.Lists.{InPlace}
use Rattle.lists.proofs.Settled.{minutes_rise}
use Rattle.lists.proofs.ByGap.{curve_laid, minute_laid, curve_reads, in_place}
use Rattle.table.specs.Table.{Stops}
use Rattle.table.proofs.ByGap.{on_none, on_more, alike, not_past, still, on_to}
use Rattle.table.proofs.fill.Goals as goal
use Rattle.table.proofs.fill.Goals.{After-find-gap, After-loop-i, After-loop-j, Else-done-count, In-loop-i, Start}

-- ---- the gaps

-- the gap that the looks leave is the first minute's
first_gap : (c : After-find-gap) → (let a = c.args in IsGap a.lists.minutes.now a.from c.find-gap.result.first)
first_gap c =
    let d = (goal.at.After-find-gap c).Start in
    let xs = d.args.lists.minutes.now in
    let p = d.requires.in_bounds in
    subst (λ j. IsGap xs d.args.from j) (sym (ap (λ (l : Left). l.first) c.find-gap.ensures ∙ found_gap xs d.args.from p.0 (minutes_rise d.args.lists.checked) p.1))
    (gap_is xs d.args.from p.1 p.0)

pub loop-j-init : goal.loop-j-init
loop-j-init c = (omega arith, λ l. rw add-zero (first_gap c), filled_none, filled_none, filled_none)

gap_here : (c : Else-done-count) → (let a = c.args in IsGap a.lists.minutes.now (a.from + c.loop-j.done) c.loop-j.j)
gap_here c = c.loop-j.invariant.1 (omega (arith, c.loop-j.invariant.0))

pub stop-stop-requires-clause-from_bound : goal.stop-stop-requires-clause-from_bound
stop-stop-requires-clause-from_bound c = λ l. omega (arith, (gap_here (goal.at.stop-stop-requires-clause-from_bound c).Else-done-count).before l)

pub loop-i-init : goal.loop-i-init
loop-i-init c = (on_none, on_none, on_none)

-- ---- a minute of a gap

module _ (c : In-loop-i) where
  abbrev outer : Else-done-count
  outer = (goal.at.In-loop-i c).Else-done-count

  abbrev d : Start
  d = (goal.at.In-loop-i c).Start

  abbrev xs : List ℕ
  xs = d.args.lists.minutes.now

  abbrev j : ℕ
  j = outer.loop-j.j

  abbrev minute : ℕ
  minute = d.args.from + c.loop-i.i

  stops : Stops xs d.args.from d.args.count j c.stop-stop.result
  stops = c.stop-stop.ensures

  here : IsGap xs minute j
  here = still stops (gap_here outer) (omega arith) (omega arith)

  first : get_or xs 0 0 ≤ minute
  first = omega (arith, d.requires.in_bounds.1)

  last : minute ≤ get_or xs (length xs - 1) 0
  last = omega (arith, d.requires.in_bounds.2, stops.within)

  small : get_or xs (length xs - 1) 0 < 2 ^ 16
  small = search rules

  place : InPlace xs j minute
  place = in_place d.args.lists.checked j here last

  -- the minutes from the left knot, as the machine has them
  t_is : to_z w64 (minute - get_or xs j 0) ≡ pos (minute - get_or xs j 0)
  t_is = to_z_pos w64 _ (omega (arith, small, last))

pub overflow_sub-from : goal.overflow_sub-from
overflow_sub-from c = (here c).from

pub at-r-requires-clause-laid : goal.at-r-requires-clause-laid
at-r-requires-clause-laid c = curve_laid (d c).args.lists.checked (j c) c.curve-curve.ensures (place c)

pub at-r-requires-clause-in_gap : goal.at-r-requires-clause-in_gap
at-r-requires-clause-in_gap c = minute_laid (d c).args.lists.checked (j c) c.curve-curve.ensures (place c) (t_is c)

-- ---- the lists

pub loop-i-preserved : goal.loop-i-preserved
loop-i-preserved c =
    let l = (goal.at.loop-i-preserved c).In-loop-i in
    let v = l.loop-i.invariant in
    let k = (d l).args.lists.checked in
    let e = alike k (j l) (here l) (first l) (last l) (curve_reads k (j l) l.curve-curve.ensures (place l) (t_is l) c.at-r.ensures) in
    let f : FitsSigned w32 c.at-r.result.value = search rules in
    let g : FitsSigned w32 c.at-r.result.slope = search rules in
    let h : FitsSigned w32 c.at-r.result.curvature = search rules in (
      on_more v.0 (omega arith) (to_z-of_z w32 _ f ∙ e.value),
      on_more v.1 (omega arith) (to_z-of_z w32 _ g ∙ e.slope),
      on_more v.2 (omega arith) (to_z-of_z w32 _ h ∙ e.curvature),
    )

pub loop-j-preserved : goal.loop-j-preserved
loop-j-preserved c =
    let o = (goal.at.loop-j-preserved c).Else-done-count in
    let v = o.loop-j.invariant in
    let w = c.loop-i.invariant in
    let s = c.stop-stop.ensures in
    let far : c.loop-j.done ≤ c.stop-stop.result = not_past s (gap_here o) (omega (arith, v.0)) in
    let e : c.loop-i.i ≡ c.stop-stop.result = omega (arith, c.loop-i.auto.i-end far) in (
      s.within,
      (λ l. on_to (minutes_rise c.args.lists.checked) s l),
      rw e at (w.0.more _ v.2),
      rw e at (w.1.more _ v.3),
      rw e at (w.2.more _ v.4),
    )

-- behind the last gap all are done
all_done : (c : After-loop-j) → c.loop-j.done ≡ c.args.count
all_done c = elim (dec_le c.args.count c.loop-j.done) [ yes h ↦ omega (arith, h, c.loop-j.invariant.0) | no h ↦ absurd (omega (arith, (c.loop-j.invariant.1 (lt_of_not-le h)).inside)) ]

pub returns-after-loop-j : goal.returns-after-loop-j
returns-after-loop-j c =
    let v = c.loop-j.invariant in
    let e = all_done c in
    record { values = v.2.is ∙ rw e; slopes = v.3.is ∙ rw e; curvatures = v.4.is ∙ rw e }

pub returns-then-done-count : goal.returns-then-done-count
returns-then-done-count c =
    let v = c.loop-j.invariant in
    let e : c.loop-j.done ≡ c.args.count = c.if-done-count.true in
    record { values = v.2.is ∙ rw e; slopes = v.3.is ∙ rw e; curvatures = v.4.is ∙ rw e }
