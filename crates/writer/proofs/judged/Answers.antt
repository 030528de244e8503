-- `writer::judged` meets its contract, by its two steps.
-- Assumes nothing.
use mathlib.Core.Path.{sym, ◌≡◌, ap, ◌∙◌}
use Rattle.answer.specs.Judge.{verdict_of}
use Rattle.answer.proofs.Orders.{exits}
use Rattle.answer.proofs.Chain.{step_refuses, step_passes}
use Rattle.curve.specs.Card.{Card, knots}
use Rattle.curve.specs.Steps.{counted}
use Rattle.knots.specs.Kinds.{kind_of}
use Rattle.knots.specs.Lent.{card_lent}
use Rattle.writer.proofs.Ready.{sizes_named, sizes, sizes_then, long_lists}
use Rattle.writer.proofs.judged.Goals as goal
use Rattle.writer.proofs.judged.Goals.{After-sized}

abbrev card : After-sized → Card
card c = card_lent c.args.card

-- every kind has the same limits of count
sized_is : (c : After-sized) → verdict_of c.sized.result ≡ sizes (kind_of c.args.kind) (card c)
unfolding knots counted
sized_is c = c.sized.ensures ∙ ap (sizes_named (kind_of c.args.kind) (card c)) c.codes-named.ensures

pub sound-requires : goal.sound-requires
sound-requires c =
    let z = (goal.at.sound-requires c).After-sized in
    long_lists c.args.kind (card z) (sym (sized_is z) ∙ ap verdict_of c.in_ok-sized.was)

pub returns-in_err-sized : goal.returns-in_err-sized
returns-in_err-sized c =
    let z = (goal.at.returns-in_err-sized c).After-sized in
    exits _ _ c.from_residual.ensures.1 ∙ step_refuses _ (sized_is z) c.in_err-sized.was ∙ sizes_then _ _

pub returns : goal.returns
returns c = step_passes _ (sized_is (goal.at.returns c).After-sized) c.in_ok-sized.was c.sound.ensures ∙ sizes_then _ _
