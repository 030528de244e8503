-- `numeral::value` meets its contract. The loop's invariant: what the digits so far are worth. Assumes nothing.
use mathlib.Core.Path.{refl}
use native.Mathlib.Omega.{arith}
use Rattle.numeral.proofs.Values.{digits_from, summed_none, summed_all, summed_more, summed_over}
use Rattle.numeral.proofs.value.Goals as goal

pub loop-digit-init : goal.loop-digit-init
loop-digit-init c = summed_none _ _

pub overflow_sub-sum : goal.overflow_sub-sum
overflow_sub-sum c = digits_from c.args.digits.now c.requires c.loop-digit.digit-index (omega arith)

pub returns-then-most-sum : goal.returns-then-most-sum
returns-then-most-sum c = summed_over c.loop-digit.invariant (omega arith) refl (omega arith)

pub loop-digit-preserved : goal.loop-digit-preserved
loop-digit-preserved c = summed_more c.loop-digit.invariant (omega arith) refl (omega arith)

pub returns : goal.returns
returns c = summed_all c.loop-digit.invariant (omega arith)
