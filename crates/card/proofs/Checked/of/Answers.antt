-- `Checked::of` meets its contract: the card's list of minutes is as long as it has knots.
-- Assumes nothing.
use Rattle.decode.specs.Decoded.{decoded}
use Rattle.opened.proofs.Fronts.{knots_decoded}
use Rattle.card.specs.Answers.{checked}
use Rattle.card.proofs.Checked.of.Goals as goal

pub returns : goal.returns
unfolding checked decoded
returns c = rw (knots_decoded c.args.card.now c.requires)
