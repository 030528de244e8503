-- `numbers_sound` meets its contract: 9 asks the same of every kind.
-- Assumes nothing.
use mathlib.Core.Path.{◌∙◌}
use Rattle.answer.proofs.Orders.{exits, then_refused, then_accepted}
use Rattle.curve.specs.Card.{knots}
use Rattle.curve.specs.Orders.{numbers_sound}
use Rattle.knots.proofs.Carried.{in_range_same}
use Rattle.lists.proofs.numbers_sound.Goals as goal

pub returns-in_err-in_range : goal.returns-in_err-in_range
unfolding numbers_sound knots
returns-in_err-in_range c =
    let ranged = c.in_err-in_range.ensures c.args.card.ordinates.now c.args.card.left c.args.card.right in
    exits _ _ c.from_residual.ensures.1 ∙ rw (in_range_same c.args.kind, ← ranged, then_refused)

pub returns : goal.returns
unfolding numbers_sound knots
returns c =
    let ranged = c.in_ok-in_range.ensures c.args.card.ordinates.now c.args.card.left c.args.card.right in
    c.smooth.ensures ∙ rw (in_range_same c.args.kind, ← ranged, then_accepted)
