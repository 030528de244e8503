-- `text::Line::knot` meets its contract. Assumes nothing.
use mathlib.Core.Path.{sym}
use native.Mathlib.Omega.{arith}
use Rattle.numeral.proofs.Numbers.{natural_upto}
use Rattle.text.proofs.Line.knot.Goals as goal

pub overflow_cast-x : goal.overflow_cast-x
overflow_cast-x c = omega (arith, natural_upto _ _ (sym c.in_ok-x.ensures))
