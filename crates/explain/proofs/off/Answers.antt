-- `off` meets its contract: the lists are the card's.
-- Assumes nothing.
use Rattle.std.proofs.Common.{ap, arith, length}
use Rattle.curve.specs.Kind.{quintic}
use Rattle.curve.specs.Card.{Card, knots}
use Rattle.explain.proofs.off.Goals as goal

pub parts_at-requires : goal.parts_at-requires
unfolding knots quintic
parts_at-requires c = omega (arith, ap (λ (k : Card). length k.minutes) c.lists.ensures, c.requires.some)
