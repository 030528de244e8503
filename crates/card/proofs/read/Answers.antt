-- `card::read` meets its contract: refused, it writes nothing; accepted, the opened card is given.
-- Assumes nothing.
use mathlib.Core.Path.{◌≡◌, sym, ap, ◌∙◌}
use mathlib.Core.List.{List}
use Prim.Native.Nat.{ℕ}
use native.Mathlib.Omega.{arith}
use lib.ListN.{length}
use Rattle.answer.specs.Answer.{accepted}
use Rattle.decode.specs.Decoded.{Holds}
use Rattle.opened.proofs.Fronts.{knots_held}
use Rattle.opened.proofs.Opening.{opened_kind, accepted_holds}
use Rattle.card_bytes.specs.Held.{card_of}
use Rattle.card_bytes.specs.Records.{kind_by}
use Rattle.card.specs.Answers.{checked}
use Rattle.card.specs.Promise.{Lists, lists, into}
use Rattle.card.proofs.Lists.{checked_same, into_is, Taken, taken, reads_refused, reads_given}
use Rattle.card.proofs.read.Goals as goal
use Rattle.card.proofs.read.Goals.{In-Ok}

module _ (c : In-Ok) where
  abbrev bytes : List ℕ
  bytes = c.args.card.now

  abbrev lent : Lists
  lent = let a = c.args in lists a.minutes a.ordinates a.slopes a.curvatures

  accepts : into lent bytes ≡ accepted
  accepts = sym (into_is lent bytes c.by_head-opened.ensures) ∙ sym c.in-Ok.ensures

  took : Taken (length lent.minutes) (length lent.ordinates) (length lent.slopes) (length lent.curvatures) bytes
  took = taken lent bytes accepts

  holds : Holds c.by_head-opened.result.card bytes
  holds = accepted_holds c.by_head-opened.ensures took.own

pub give-requires-clause-full : goal.give-requires-clause-full
give-requires-clause-full c = (holds (goal.at.give-requires-clause-full c).In-Ok).full

pub give-requires-clause-knots_in_bounds : goal.give-requires-clause-knots_in_bounds
give-requires-clause-knots_in_bounds c = let i = (goal.at.give-requires-clause-knots_in_bounds c).In-Ok in let t = took i in (omega (arith, t.room, knots_held (holds i)), t.ordinates, t.slopes, t.curvatures)

pub of-requires : goal.of-requires
of-requires c = (holds (goal.at.of-requires c).In-Ok).full

pub returns-in-Err : goal.returns-in-Err
returns-in-Err c =
    let s = c.args.card.now in
    let l = (let a = c.args in lists a.minutes a.ordinates a.slopes a.curvatures) in
    let e = sym (into_is l s c.by_head-opened.ensures) ∙ sym c.in-Err.ensures in
    reads_refused l s (c.from.ensures (kind_by s) (card_of s) ∙ ap (λ v. checked v (kind_by s) (card_of s)) (sym e)) e

pub returns-in-Ok : goal.returns-in-Ok
returns-in-Ok c =
    let i = (goal.at.returns-in-Ok c).In-Ok in
    let g = c.give.ensures in
    reads_given (lent i) (bytes i)
    (checked_same _ c.of.ensures (sym (accepts i)) (opened_kind c.by_head-opened.ensures) (λ a. (holds i).is))
    (accepts i) (holds i) (g.minutes_after, (g.ordinates_after, (g.slopes_after, g.curvatures_after)))
