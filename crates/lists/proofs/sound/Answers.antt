-- `sound` meets its contract: 4, 5 and 6 ask the same of every kind.
-- Assumes nothing.
use mathlib.Core.Path.{◌∙◌}
use Rattle.answer.proofs.Orders.{exits, then_refused, then_accepted}
use Rattle.curve.specs.Card.{knots}
use Rattle.curve.specs.Orders.{sound}
use Rattle.knots.proofs.Carried.{stands_same}
use Rattle.lists.proofs.sound.Goals as goal

pub returns-in_err-stand : goal.returns-in_err-stand
unfolding sound knots
returns-in_err-stand c = exits _ _ c.from_residual.ensures.1 ∙ rw (stands_same c.args.kind, ← c.in_err-stand.ensures, then_refused)

pub returns : goal.returns
unfolding sound knots
returns c = c.numbers_sound.ensures ∙ rw (stands_same c.args.kind, ← c.in_ok-stand.ensures, then_accepted)
