-- `refit::refit` meets its contract: refused, it writes nothing; accepted, the opened card is fitted anew.
-- Assumes nothing.
use Prim.Native.Nat.{◌≤◌}
use native.Mathlib.Omega.{arith}
use mathlib.Core.Path.{◌≡◌, sym, ap, ◌∙◌}
use lib.ListN.{length}
use lib.Seq.{length-take-le}
use Rattle.answer.specs.Judge.{verdict_of}
use Rattle.answer.proofs.Chain.{step_accepts, step_refused}
use Rattle.curve.specs.Kind.{quintic}
use Rattle.curve.specs.Card.{Card, knots}
use Rattle.curve.specs.Orders.{lists_order}
use Rattle.card_bytes.specs.Held.{card_of}
use Rattle.card_bytes.proofs.ByHead.{accepted_good, accepted_count}
use Rattle.knots.specs.Lent.{card_lent}
use Rattle.decode.specs.Decoded.{Holds}
use Rattle.opened.proofs.Fronts.{knots_held}
use Rattle.opened.proofs.Opening.{opened_kind, accepted_holds}
use Rattle.card.specs.Answers.{own}
use Rattle.card.proofs.Lists.{opened_order, Taken, order_takes}
use Rattle.refit.specs.Promise.{refitted}
use Rattle.refit.proofs.Renewal.{refits_refused, refits_given}
use borrow.Author.Rules.{rules}
use Rattle.refit.proofs.refit.Goals as goal
use Rattle.refit.proofs.refit.Goals.{After-into, In-Ok, After-lent-held}

pub into-requires : goal.into-requires
into-requires c = search rules

verdict_is : (c : After-into)
    → (let a = c.args in let s = a.card.now in let m = length a.slopes.now in
    verdict_of c.into.result ≡ lists_order m m m (length a.curvatures.now) (own s) (knots (card_of s)))
verdict_is c = c.into.ensures ∙ opened_order _ _ _ _ _ c.by_head-opened.ensures

took : (c : In-Ok) → (let a = c.args in let m = length a.slopes.now in Taken m m m (length a.curvatures.now) a.card.now)
took c = order_takes _ _ _ _ _ (step_accepts (verdict_is (goal.at.In-Ok c).After-into) c.in-Ok.is)

holds : (c : In-Ok) → Holds c.by_head-opened.result.card c.args.card.now
holds c = accepted_holds c.by_head-opened.ensures (took c).own

-- both lists have a place for each knot
room : (c : In-Ok)
    → (let a = c.args in let n = c.by_head-opened.result.card.knots in
    (n ≤ length a.slopes.now) × (n ≤ length a.curvatures.now))
room c = (omega (arith, (took c).room, knots_held (holds c)), omega (arith, (took c).room, (took c).curvatures, knots_held (holds c)))

lent_is : (c : After-lent-held) → card_lent c.lent-held.result ≡ card_of c.args.card.now
lent_is c = c.lent-held.ensures ∙ (holds (goal.at.After-lent-held c).In-Ok).is

pub lent-held-requires : goal.lent-held-requires
lent-held-requires c = (holds (goal.at.lent-held-requires c).In-Ok).full

pub slice_bounds-anew-end : goal.slice_bounds-anew-end
slice_bounds-anew-end c = (room (goal.at.slice_bounds-anew-end c).In-Ok).0

pub slice_bounds-anew-end-in-Ok : goal.slice_bounds-anew-end-in-Ok
slice_bounds-anew-end-in-Ok c = sym (length-take-le _ _ (room (goal.at.slice_bounds-anew-end-in-Ok c).In-Ok).0)

pub slice_bounds-anew-end-in-Ok-2 : goal.slice_bounds-anew-end-in-Ok-2
slice_bounds-anew-end-in-Ok-2 c = (room (goal.at.slice_bounds-anew-end-in-Ok-2 c).In-Ok).1

pub slice_bounds-anew-end-in-Ok-3 : goal.slice_bounds-anew-end-in-Ok-3
slice_bounds-anew-end-in-Ok-3 c = sym (length-take-le _ _ (room (goal.at.slice_bounds-anew-end-in-Ok-3 c).In-Ok).1)

pub anew-requires : goal.anew-requires
unfolding quintic knots
anew-requires c =
    let h = (goal.at.anew-requires c).After-lent-held in
    let t = (goal.at.After-lent-held h).In-Ok in
    let count = accepted_count _ (took t).own in
    let g = accepted_good _ (took t).own in
    let e = lent_is h in
    let n = ap (λ (k : Card). length k.minutes) e in
    let places = knots_held (holds t) in
    record {
      few = omega (arith, count.many, n);
      long =
          record {
            few = omega (arith, count.many, n);
            ordinates = ap (λ (k : Card). length k.ordinates) e ∙ g.ys ∙ sym n;
            slopes = ap (λ (k : Card). length k.slopes) e ∙ g.ms ∙ sym n;
            curvatures = ap (λ (k : Card). length k.curvatures) e ∙ g.Ms ∙ sym n;
          };
      some = omega (arith, count.some, n);
      slopes_len = (omega (arith, length-take-le _ _ (room t).0, places, n), omega (arith, length-take-le _ _ (room t).1, places, n));
    }

pub returns-in-Err : goal.returns-in-Err
unfolding refitted
returns-in-Err c = rw (c.from.ensures (card_of c.args.card.now)) (refits_refused _ _ _ (step_refused (verdict_is (goal.at.returns-in-Err c).After-into) c.in-Err.is))

pub returns-in-Ok : goal.returns-in-Ok
returns-in-Ok c =
    let t = (goal.at.returns-in-Ok c).In-Ok in
    let h = holds t in
    refits_given _ _ _ (step_accepts (verdict_is (goal.at.In-Ok t).After-into) t.in-Ok.is) (opened_kind t.by_head-opened.ensures) (sym (knots_held h)) (rw (lent_is (goal.at.returns-in-Ok c).After-lent-held) at c.anew.ensures)
