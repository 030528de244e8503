-- `table::judged` meets its contract: a card that was accepted has minutes.
-- Assumes nothing.
use Rattle.std.proofs.Common.{ap, arith, length}
use Rattle.answer.specs.Judge.{verdict_of}
use Rattle.curve.specs.Kind.{quintic}
use Rattle.curve.specs.Card.{Card, knots}
use Rattle.table.proofs.judged.Goals as goal

pub outside-requires : goal.outside-requires
unfolding knots quintic
outside-requires c = omega (arith, ap (λ (k : Card). length k.minutes) c.lists.ensures, (c.requires (ap verdict_of c.in_ok-opened.was)).some)
