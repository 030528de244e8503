-- `numeral::below` meets its contract. Assumes nothing.
use mathlib.Core.Path.{sym}
use native.Mathlib.Omega.{arith}
use Rattle.numeral.proofs.Numbers.{natural_upto, is_below}
use Rattle.numeral.proofs.below.Goals as goal

pub overflow_cast-result : goal.overflow_cast-result
overflow_cast-result c = let h = natural_upto _ _ (sym c.in_ok-n.ensures) in record { sfits = omega (arith, c.if-n-eq0.false) }

pub returns : goal.returns
returns c = is_below _ (sym c.in_ok-n.ensures) c.if-n-eq0.false
