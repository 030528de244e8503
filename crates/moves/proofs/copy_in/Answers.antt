-- `moves::copy_in` meets its contract.
-- Assumes nothing.
use native.Mathlib.Omega.{arith}
use Rattle.moves.proofs.Shift.{copy_start, copy_more, copy_end}
use Rattle.moves.proofs.copy_in.Goals as goal

pub loop-i-init : goal.loop-i-init
loop-i-init c = (omega arith, copy_start _ _ _)

pub loop-i-preserved : goal.loop-i-preserved
loop-i-preserved c =
    let l = c.before.before in
    let a = l.args in
    (omega arith, copy_more a.list.now a.at a.part.now l.loop-i.i (omega arith) (omega arith) l.loop-i.invariant.1)

pub returns : goal.returns
returns c =
    let l = c.before in
    let a = l.args in
    copy_end a.list.now a.at a.part.now l.loop-i.i (omega arith) (omega arith) (omega arith) l.loop-i.invariant.1
