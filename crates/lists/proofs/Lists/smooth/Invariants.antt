-- `Lists::smooth`: the knots before i are smooth, and what the gap on the left of knot i gives is at hand.
-- Assumes nothing.
use mathlib.Core.Path.{◌≡◌}
use Prim.Native.Nat.{◌<◌}
use lib.IntN.{pos}
use lib.ListN.{length}
use Rattle.answer.proofs.Loops.{Rest}
use Rattle.curve.specs.Card.{back}
use Rattle.curve.specs.Steps.{smooth}
use Rattle.minutes.specs.Gaps.{left_gap}
use Rattle.knots.specs.Kinds.{kind_of}
use Rattle.knots.specs.Lent.{lent}
use Rattle.jumps.specs.declared.Order.TheVariants.{Third}
use Rattle.jumps.specs.Spans.{spans}
use Rattle.lists.specs.Lists.{numbers_at, square_of}
use Rattle.lists.proofs.Lists.smooth.Given as goal

abbrev pub invariant-loop-i : goal.invariant-loop-i
invariant-loop-i l =
    let xs = l.self.minutes.now in
    let numbers = numbers_at l.self.ordinates.now l.self.slopes.now l.self.curvatures.now in
    record {
      before : Rest (smooth (kind_of l.kind) (lent xs l.self.ordinates.now l.self.slopes.now l.self.curvatures.now l.left l.right)) (length xs) l.i;
      left_gap : l.i < length xs → l.before ≡ spans l.kind.fourth (pos (square_of l.kind Third)) (pos (left_gap xs l.i)) (numbers (back l.i)) (numbers l.i);
    }
