-- `numeral::value` meets its contract: a loop over the digits. Assumes nothing.
use Rattle.numeral.proofs.Values.{Summed}
use Rattle.numeral.proofs.value.Given as goal

abbrev pub invariant-loop-digit : goal.invariant-loop-digit
invariant-loop-digit l = Summed l.digits l.most l.sum l.digit-index
