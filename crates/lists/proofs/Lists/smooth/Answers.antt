-- `Lists::smooth` meets its contract: what a gap gave to its left knot is kept for its right one.
-- Assumes nothing.
use mathlib.Core.Path.{◌≡◌, sym, ◌∙◌, ap, ap₂}
use mathlib.Core.Bool.{◌||◌}
use mathlib.Core.List.{List}
use Prim.Native.Nat.{ℕ, ◌+◌, ◌-◌, ◌≤◌, ◌<◌, ◌^◌, min}
use native.Mathlib.Nat.{le_of_lt}
use native.Mathlib.Omega.{arith}
use lib.IntN.{ℤ, pos}
use lib.ListN.{length, get_or}
use Rattle.std.proofs.lemmas.Result.{err_from_is_err_and}
use Rattle.answer.specs.Answer.{refuse}
use Rattle.answer.specs.Judge.{verdict_of}
use Rattle.answer.proofs.Loops.{rest_starts, rest_passes, rest_stops, rest_accepts}
use Rattle.curve.specs.Card.{back, joint}
use Rattle.curve.specs.Jump.{jumps}
use Rattle.curve.specs.Steps.{smooth}
use Rattle.minutes.specs.Gaps.{left_gap, right_gap}
use Rattle.knots.specs.declared.Kind.{Kind}
use Rattle.knots.specs.Kinds.{kind_of}
use Rattle.knots.specs.Lent.{lent}
use Rattle.knots.proofs.Accepted.{place_after, right_gap_is}
use Rattle.gaps.specs.declared.Knot.{Knot}
use Rattle.jumps.specs.declared.Order.{Order}
use Rattle.jumps.specs.declared.Order.TheVariants.{Third, Fourth}
use Rattle.jumps.specs.declared.Span.{Span}
use Rattle.jumps.specs.declared.Spans.{Spans}
use Rattle.jumps.specs.Sides.{order_of}
use Rattle.jumps.specs.Spans.{span_if, spans}
use Rattle.jumps.specs.Limits.{Meeting}
use Rattle.jumps.proofs.Gapwise.{spans_none, meeting_if}
use Rattle.lists.specs.Lists.{numbers_at, square_of, tests, spans_at, jumps_of}
use Rattle.lists.proofs.Settled.{settled_knot, asked_jumps}
use Rattle.lists.proofs.Lists.smooth.Goals as goal
use Rattle.lists.proofs.Lists.smooth.Goals.{After-spans-after, After-rough_at}

-- before the first knot there is no gap
pub loop-i-init : goal.loop-i-init
unfolding back
loop-i-init c =
    let s = c.args.self in
    let kind = c.args.kind in
    let k = numbers_at s.ordinates.now s.slopes.now s.curvatures.now 0 in
    let z : get_or s.minutes.now 0 0 - get_or s.minutes.now 0 0 ≡ 0 = omega arith in
    record {
      before = rest_starts;
      left_gap = λ l. c.none-before.ensures ∙ sym (ap (λ g. spans kind.fourth (pos (square_of kind Third)) (pos g) k k) z ∙ spans_none k kind.fourth (pos (square_of kind Third)));
    }

-- ---- at a knot

module _ (c : After-spans-after) where
  abbrev kind : Kind
  kind = c.args.kind

  abbrev xs : List ℕ
  xs = c.args.self.minutes.now

  abbrev i : ℕ
  i = c.loop-i.i

  here : i < length xs
  here = omega arith

  abbrev square : Order → ℤ
  square o = pos (square_of kind o)

  abbrev numbers : ℕ → Knot
  numbers = numbers_at c.args.self.ordinates.now c.args.self.slopes.now c.args.self.curvatures.now

  -- what the gap on either side gives, of an order
  abbrev left_span : Order → Span
  left_span o = span_if (tests kind o) o (square o) (pos (left_gap xs i)) (numbers (back i)) (numbers i)

  abbrev right_span : Order → Span
  right_span o = span_if (tests kind o) o (square o) (pos (right_gap xs i)) (numbers i) (numbers (min (i + 1) (length xs - 1)))

  abbrev of_order : Order → Spans → Span
  of_order Third s = s.third
  of_order Fourth s = s.fourth

  left_is : (o : Order) → of_order o c.loop-i.before ≡ left_span o
  unfolding spans
  left_is Third = ap (λ s. s.third) (c.loop-i.invariant.left_gap here)
  left_is Fourth = ap (λ s. s.fourth) (c.loop-i.invariant.left_gap here)

  right_is : (o : Order) → of_order o c.spans-after.result ≡ right_span o
  unfolding spans
  right_is Third = ap (λ s. s.third) c.spans-after.ensures.0
  right_is Fourth = ap (λ s. s.fourth) c.spans-after.ensures.0

  small : (o : Order) → square_of kind o ≤ 2 ^ 8
  small Third = le_of_lt c.spans-after.ensures.1
  small Fourth = omega arith

  meets : (o : Order) → Meeting (of_order o c.loop-i.before) (of_order o c.spans-after.result)
  meets o = rw (left_is o, right_is o) (meeting_if (tests kind o) o (settled_knot c.args.self.checked i here (square_of kind o) (small o)))

  finds : (o : Order) →
      (let s = c.args.self in
      jumps_of kind o c.code_at-code.result (of_order o c.loop-i.before) (of_order o c.spans-after.result)
      ≡ jumps (kind_of kind) (joint (lent xs s.ordinates.now s.slopes.now s.curvatures.now c.args.left c.args.right) i) (order_of o))
  finds o =
      let s = c.args.self in
      asked_jumps kind o c.args.left c.args.right xs s.ordinates.now s.slopes.now s.curvatures.now i c.code_at-code.ensures (left_is o) (right_is o) s.checked here

pub rough_at-requires-clause-meeting : goal.rough_at-requires-clause-meeting
rough_at-requires-clause-meeting c = meets c Third

pub rough_at-requires-clause-meeting_2 : goal.rough_at-requires-clause-meeting_2
rough_at-requires-clause-meeting_2 c = meets c Fourth

found : (c : After-rough_at) →
    (let s = c.args.self in smooth (kind_of c.args.kind) (lent s.minutes.now s.ordinates.now s.slopes.now s.curvatures.now c.args.left c.args.right) c.loop-i.i ≡ verdict_of c.rough_at.result)
unfolding smooth
found c = let b = (goal.at.After-rough_at c).After-spans-after in sym (c.rough_at.ensures ∙ ap₂ (λ t f. refuse 10 c.loop-i.i (t || f)) (finds b Third) (finds b Fourth))

-- the gap on the right of a knot is the one on the left of the next
next_gap : (xs : List ℕ) (i : ℕ) → i + 1 < length xs → right_gap xs i ≡ left_gap xs (i + 1)
unfolding back
next_gap xs i l = let z : i + 1 - 1 ≡ i = omega arith in right_gap_is xs i l ∙ ap (λ j. get_or xs (i + 1) 0 - get_or xs j 0) (sym z)

next_spans : (kind : Kind) (xs : List ℕ) (ys ms cs : List ℤ) (i : ℕ) → i + 1 < length xs
    → spans_at kind xs ys ms cs i ≡ spans kind.fourth (pos (square_of kind Third)) (pos (left_gap xs (i + 1))) (numbers_at ys ms cs (back (i + 1))) (numbers_at ys ms cs (i + 1))
unfolding back
next_spans kind xs ys ms cs i l =
    let z : i ≡ i + 1 - 1 = omega arith in
    ap₂ (λ g j. spans kind.fourth (pos (square_of kind Third)) (pos g) (numbers_at ys ms cs i) (numbers_at ys ms cs j)) (next_gap xs i l) (place_after (length xs) i l)
    ∙ ap (λ j. spans kind.fourth (pos (square_of kind Third)) (pos (left_gap xs (i + 1))) (numbers_at ys ms cs j) (numbers_at ys ms cs (i + 1))) z

pub loop-i-preserved : goal.loop-i-preserved
loop-i-preserved c =
    let b = (goal.at.loop-i-preserved c).After-rough_at in
    let s = c.args.self in
    record {
      before = rest_passes c.loop-i.invariant.before (omega arith) (found b ∙ ap verdict_of c.in_ok-rough_at.was);
      left_gap = λ l. c.spans-after.ensures.0 ∙ next_spans c.args.kind s.minutes.now s.ordinates.now s.slopes.now s.curvatures.now c.loop-i.i l;
    }

pub returns-in_err-rough_at : goal.returns-in_err-rough_at
returns-in_err-rough_at c =
    let p = err_from_is_err_and c.from_residual.result c.from_residual.ensures.1 in
    rw (p.1, p.2) (rest_stops c.loop-i.invariant.before (omega arith) (found (goal.at.returns-in_err-rough_at c).After-rough_at ∙ ap verdict_of c.in_err-rough_at.was))

pub returns : goal.returns
returns c = rest_accepts c.loop-i.invariant.before (omega arith)
