-- `card_listing::list_card` meets its contract: what was opened is the card that the bytes hold.
-- Assumes nothing.
use mathlib.Core.Path.{◌≡◌, sym, ap, ◌∙◌}
use mathlib.Core.List.{[]}
use native.Mathlib.Omega.{arith}
use lib.ListN.{length}
use Rattle.answer.specs.Answer.{accepted}
use Rattle.answer.proofs.Chain.{step_accepts, step_refused}
use Rattle.curve.specs.Kind.{quintic}
use Rattle.curve.specs.Card.{Card, knots}
use Rattle.knots.specs.Lent.{card_lent}
use Rattle.card_bytes.specs.Held.{card_of}
use Rattle.card_bytes.proofs.ByHead.{accepted_good, accepted_count}
use Rattle.card.specs.Answers.{own}
use Rattle.opened.proofs.Opening.{accepted_holds}
use Rattle.listing.specs.Text.{listing}
use borrow.Author.Rules.{rules}
use Rattle.listing.proofs.Plain.{same_faults}
use Rattle.card_listing.specs.Printed.{card_listing, printed}
use Rattle.card_listing.proofs.list_card.Goals as goal
use Rattle.card_listing.proofs.list_card.Goals.{In-Ok, After-lent-held}

accepts : (c : In-Ok) → own c.args.card.now ≡ accepted
accepts c = step_accepts c.by_head-opened.ensures.judged c.in-Ok.is

pub lent-held-requires : goal.lent-held-requires
lent-held-requires c = (accepted_holds c.by_head-opened.ensures (accepts (goal.at.lent-held-requires c).In-Ok)).full

module _ (c : After-lent-held) where
  own_accepts : own c.args.card.now ≡ accepted
  own_accepts = accepts (goal.at.After-lent-held c).In-Ok

  lent_is : card_lent c.lent-held.result ≡ card_of c.args.card.now
  lent_is = c.lent-held.ensures ∙ (accepted_holds c.by_head-opened.ensures own_accepts).is

  printed_is : (let l = c.lent-held.result in listing 0 0 l.minutes.now l.ordinates.now l.slopes.now l.curvatures.now [] ≡ printed c.args.card.now)
  unfolding printed card_listing
  printed_is =
      ap (λ (k : Card). listing 0 0 k.minutes k.ordinates k.slopes k.curvatures []) lent_is
      ∙ ap (λ v. card_listing v (card_of c.args.card.now)) (sym own_accepts)

pub list-length-requires-in-Ok : goal.list-length-requires-in-Ok
unfolding quintic knots
list-length-requires-in-Ok c =
    let h = (goal.at.list-length-requires-in-Ok c).After-lent-held in
    let g = accepted_good c.args.card.now (own_accepts h) in
    let few = (accepted_count c.args.card.now (own_accepts h)).many in
    let e = lent_is h in
    let n = ap (λ (k : Card). length k.minutes) e in
    let ordinates = ap (λ (k : Card). length k.ordinates) e ∙ g.ys ∙ sym n in
    let slopes = ap (λ (k : Card). length k.slopes) e ∙ g.ms ∙ sym n in
    let curvatures = ap (λ (k : Card). length k.curvatures) e ∙ g.Ms ∙ sym n in
    record {
      ordinates_len = (ordinates, slopes, curvatures);
      minutes_len_bound = (omega (arith, few, n), omega (arith, few, n, c.requires));
      faults_pre = λ z i h. search rules;
    }

pub returns-in-Err-clause-put : goal.returns-in-Err-clause-put
unfolding printed card_listing
returns-in-Err-clause-put c =
    let l = c.list-length.ensures in
    rw (step_refused c.by_head-opened.ensures.judged c.in-Err.is)
    rw (sym c.number-number.ensures) (rw (same_faults c.number-number.result c.in-Err.refusal.place [] [] [] [] l.0 [] (λ z i h. absurd (omega (arith, h)))) at l.2)

pub returns-in-Ok-clause-put : goal.returns-in-Ok-clause-put
returns-in-Ok-clause-put c =
    let l = c.list-length-in-Ok.ensures in
    rw (sym (printed_is (goal.at.returns-in-Ok-clause-put c).After-lent-held))
    (rw (same_faults 0 0 _ _ _ _ l.0 [] (λ z i h. (let e = ((l.1 z).1 i h).0 in search rules))) at l.2)
