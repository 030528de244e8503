-- `writer::writable` meets its contract, by its two steps.
-- Assumes nothing.
use Prim.Native.Nat.{◌≤◌}
use mathlib.Core.Path.{sym, ap, ◌∙◌}
use native.Mathlib.Omega.{arith}
use lib.ListN.{length}
use Rattle.answer.specs.Judge.{verdict_of}
use Rattle.answer.proofs.Orders.{exits}
use Rattle.answer.proofs.Chain.{step_refuses, step_passes}
use Rattle.curve.specs.Card.{knots}
use Rattle.curve.specs.Orders.{write_order}
use Rattle.decode.specs.Decoded.{most}
use Rattle.writer.proofs.Ready.{accepted_few}
use Rattle.writer.proofs.writable.Goals as goal
use Rattle.writer.proofs.writable.Goals.{In_ok-judged}

few : (c : In_ok-judged) → length c.args.card.minutes.now ≤ most
unfolding knots
few c = accepted_few c.args.kind _ (sym c.judged.ensures ∙ ap verdict_of c.in_ok-judged.was)

pub overflow_mul-card : goal.overflow_mul-card
overflow_mul-card c = omega (arith, few c)

pub overflow_add-card : goal.overflow_add-card
overflow_add-card c = omega (arith, few c)

pub returns-in_err-judged : goal.returns-in_err-judged
unfolding write_order
returns-in_err-judged c = exits _ _ c.from_residual.ensures.1 ∙ step_refuses _ c.judged.ensures c.in_err-judged.was

pub returns : goal.returns
unfolding write_order knots
returns c = step_passes _ c.judged.ensures c.in_ok-judged.was c.room.ensures
