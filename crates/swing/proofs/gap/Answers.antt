-- `swing::gap` meets its contract: the lists are the card's, and a swing asks nothing of the codes.
-- Assumes nothing.
use Rattle.std.proofs.Common.{ap, ◌∙◌, arith, length}
use Rattle.curve.specs.Card.{Card, knots, knot}
use Rattle.curve.specs.Reading.{reads_at, spell}
use Rattle.opened.proofs.Fronts.{knots_decoded}
use Rattle.swing.specs.Swing.{below_at, above_at, gap_swing}
use Rattle.swing.proofs.gap.Goals as goal

pub gap_on-requires : goal.gap_on-requires
unfolding knots
gap_on-requires c = omega (arith, ap (λ (k : Card). length k.minutes) c.lists.ensures, knots_decoded _ c.requires.readable.full, c.requires.j_bound)

pub returns : goal.returns
unfolding gap_swing below_at above_at reads_at spell knot
returns c = c.gap_on.ensures ∙ ap (λ k. gap_swing k c.args.j) c.lists.ensures
