-- `card::check` meets its contract: what was opened is the card that the bytes hold.
-- Assumes nothing.
use mathlib.Core.Path.{◌≡◌, sym, ap, ◌∙◌}
use Rattle.answer.specs.Answer.{accepted}
use Rattle.answer.specs.Judge.{verdict_of}
use Rattle.card.specs.Answers.{own}
use Rattle.opened.proofs.Opening.{opened_kind, accepted_holds}
use Rattle.card.proofs.Lists.{checked_same}
use Rattle.card.proofs.check.Goals as goal
use Rattle.card.proofs.check.Goals.{In-Ok}

accepts : (c : In-Ok) → own c.args.card.now ≡ accepted
accepts c = sym c.by_head-opened.ensures.judged ∙ ap verdict_of c.in-Ok.is

pub of-requires : goal.of-requires
of-requires c = (accepted_holds c.by_head-opened.ensures (accepts (goal.at.of-requires c).In-Ok)).full

pub returns-in-Ok : goal.returns-in-Ok
returns-in-Ok c =
    let o = c.by_head-opened.ensures in
    checked_same _ c.of.ensures (sym (accepts (goal.at.returns-in-Ok c).In-Ok)) (opened_kind o) (λ a. (accepted_holds o a).is)
