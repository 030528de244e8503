-- `swing::widest` meets its contract: the lists are the card's, and a swing asks nothing of the codes.
-- Assumes nothing.
use Rattle.std.proofs.Common.{ap, ◌∙◌, arith, length}
use Rattle.curve.specs.Kind.{quintic}
use Rattle.curve.specs.Card.{Card, knots, knot}
use Rattle.curve.specs.Reading.{reads_at, spell}
use Rattle.swing.specs.Swing.{below_at, above_at, gap_swing, widest, widest_of}
use Rattle.swing.proofs.widest.Goals as goal

pub widest_on-requires : goal.widest_on-requires
unfolding knots quintic
widest_on-requires c = omega (arith, ap (λ (k : Card). length k.minutes) c.lists.ensures, c.requires.some)

pub returns : goal.returns
unfolding widest_of widest gap_swing below_at above_at reads_at spell knot knots
returns c = c.widest_on.ensures ∙ ap widest_of c.lists.ensures
