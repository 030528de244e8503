-- `answer::each` meets its contract.
-- Assumes nothing.
use Rattle.std.proofs.Common.{sym, arith}
use Rattle.std.proofs.lemmas.Result.{err_from_is_err_and}
use Rattle.answer.proofs.Loops.{rest_passes, rest_stops, rest_accepts}
use Rattle.answer.proofs.each.Goals as goal

pub returns-in_err-check : goal.returns-in_err-check
returns-in_err-check g c = λ step follows.
    let p = err_from_is_err_and c.from_residual.result c.from_residual.ensures.1 in
    rw (p.1, p.2) (rest_stops (c.loop-i.invariant step follows) c.loop-i-test.true (sym (follows _ c.loop-i-test.true _ c.in_err-check.ensures)))

pub loop-i-preserved : goal.loop-i-preserved
loop-i-preserved g c = λ step follows.
    rest_passes (c.loop-i.invariant step follows) c.loop-i-test.true (sym (follows _ c.loop-i-test.true _ c.in_ok-check.ensures))

pub returns : goal.returns
returns g c = λ step follows. rest_accepts (c.loop-i.invariant step follows) (omega arith)
