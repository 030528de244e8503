-- `writer::write_as` meets its contract: refused, it writes nothing; accepted, the card's bytes.
-- Assumes nothing.
use mathlib.Core.Path.{◌≡◌}
use native.Mathlib.Omega.{arith}
use lib.ListN.{length}
use Rattle.answer.specs.Answer.{accepted}
use Rattle.answer.proofs.Chain.{step_accepts, step_refused}
use Rattle.curve.specs.Orders.{write_order}
use Rattle.knots.specs.Kinds.{kind_of}
use Rattle.knots.specs.Lent.{card_lent}
use Rattle.writer.specs.Promise.{written}
use Rattle.writer.proofs.Ready.{Ready, ready_of, writes_refused, writes_given}
use Rattle.writer.proofs.write_as.Goals as goal
use Rattle.writer.proofs.write_as.Goals.{After-writable, In_default}

accepts : (c : In_default) → (let a = c.args in write_order (kind_of a.kind) (card_lent a.card) (length a.buffer.now) ≡ accepted)
accepts c = step_accepts c.writable.ensures c.in_default.is

ready : (c : In_default) → Ready (card_lent c.args.card) (length c.args.buffer.now)
ready c = ready_of c.args.kind _ _ (accepts c)

pub returns-in-Err : goal.returns-in-Err
unfolding written
returns-in-Err c =
    let a = c.args in
    rw (c.from.ensures 0) (writes_refused (kind_of a.kind) (card_lent a.card) a.buffer.now (step_refused c.writable.ensures c.in-Err.is))

pub put_card-requires : goal.put_card-requires
put_card-requires c =
    let t = ready (goal.at.put_card-requires c).In_default in
    record { minutes_len_bound = omega arith; ordinates_len = omega arith; minutes_in_bounds = omega arith }

pub overflow_mul-result : goal.overflow_mul-result
overflow_mul-result c = let t = ready (goal.at.overflow_mul-result c).In_default in omega arith

pub overflow_add-result : goal.overflow_add-result
overflow_add-result c = let t = ready (goal.at.overflow_add-result c).In_default in omega arith

pub overflow_cast-result : goal.overflow_cast-result
overflow_cast-result c = let t = ready (goal.at.overflow_cast-result c).In_default in omega arith

pub returns : goal.returns
returns c =
    let a = c.args in
    writes_given (kind_of a.kind) (card_lent a.card) a.buffer.now (accepts (goal.at.returns c).In_default) c.put_card.ensures
