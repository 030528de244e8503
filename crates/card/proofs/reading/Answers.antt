-- `card::reading` meets its contract: what was opened is the card that the bytes hold.
-- Assumes nothing.
use mathlib.Core.Path.{◌≡◌, sym, ap, ◌∙◌}
use native.Mathlib.Omega.{arith}
use lib.ListN.{length}
use Rattle.answer.specs.Answer.{accepted}
use Rattle.answer.specs.Judge.{verdict_of}
use Rattle.answer.proofs.Chain.{step_refuses}
use Rattle.curve.specs.Kind.{quintic}
use Rattle.curve.specs.Card.{Card, knots}
use Rattle.curve.specs.Orders.{reading_order}
use Rattle.lists.specs.Lists.{answered, answer_at}
use Rattle.card_bytes.specs.Held.{card_of}
use Rattle.card.specs.Answers.{own, read_off}
use Rattle.opened.specs.Readable.{Readable}
use Rattle.opened.proofs.Opening.{accepted_holds, accepted_readable}
use Rattle.card.proofs.reading.Goals as goal
use Rattle.card.proofs.reading.Goals.{In-Ok}

accepts : (c : In-Ok) → own c.args.card.now ≡ accepted
accepts c = sym c.by_head-opened.ensures.judged ∙ ap verdict_of c.in-Ok.is

can_be_read : (c : In-Ok) → Readable c.by_head-opened.result.card
can_be_read c = accepted_readable c.by_head-opened.ensures (accepts c)

pub lists-requires : goal.lists-requires
lists-requires c = can_be_read (goal.at.lists-requires c).In-Ok

pub read_at-requires : goal.read_at-requires
unfolding knots quintic
read_at-requires c = omega (arith, ap (λ (k : Card). length k.minutes) c.lists.ensures, (can_be_read (goal.at.read_at-requires c).In-Ok).some)

pub returns-in-Err : goal.returns-in-Err
unfolding read_off answer_at reading_order
returns-in-Err c = c.from.ensures ∙ ap (answered _) (step_refuses _ c.by_head-opened.ensures.judged c.in-Err.is)

pub returns-in-Ok : goal.returns-in-Ok
unfolding read_off
returns-in-Ok c =
    let card = c.by_head-opened.result.card in
    let e = accepts (goal.at.returns-in-Ok c).In-Ok in
    c.read_at.ensures card.left card.right
    ∙ ap (λ k. answer_at accepted k c.args.minute) (c.lists.ensures ∙ (accepted_holds c.by_head-opened.ensures e).is)
    ∙ ap (λ v. answer_at v (card_of c.args.card.now) c.args.minute) (sym e)
