-- `fitter::main` prints what was put at the front of its buffer. Assumes nothing.
use Rattle.std.proofs.Common.{arith}
use Rattle.curve.specs.Kind.{quintic}
use Rattle.sheet.proofs.Folding.{few_in_a_sheet}
use Rattle.fitter.proofs.main.Goals as goal

pub list_sheet-length-requires : goal.list_sheet-length-requires
unfolding quintic
list_sheet-length-requires c = let i = c.read_input.ensures in (rw i.is (omega (arith, few_in_a_sheet i.input)), omega (arith, c.buffer-text.ensures))
