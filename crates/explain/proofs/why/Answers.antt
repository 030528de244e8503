-- `why` meets its contract: a knot of the card is one of its lists.
-- Assumes nothing.
use Rattle.std.proofs.Common.{ap, arith, length}
use Rattle.curve.specs.Card.{Card, knots}
use Rattle.opened.proofs.Fronts.{knots_decoded}
use Rattle.explain.proofs.why.Goals as goal

pub reason-requires : goal.reason-requires
unfolding knots
reason-requires c = omega (arith, ap (λ (k : Card). length k.minutes) c.lists.ensures, knots_decoded _ c.requires.readable.full, c.requires.place_lt_knots)
