-- `numeral::above` meets its contract. Assumes nothing.
use mathlib.Core.Path.{sym}
use native.Mathlib.Omega.{arith}
use Rattle.numeral.proofs.Numbers.{natural_upto, is_above}
use Rattle.numeral.proofs.above.Goals as goal

pub overflow_cast-result : goal.overflow_cast-result
overflow_cast-result c = let h = natural_upto _ _ (sym c.in_ok-n.ensures) in record { sfits = omega arith }

pub returns : goal.returns
returns c = is_above _ (sym c.in_ok-n.ensures)
