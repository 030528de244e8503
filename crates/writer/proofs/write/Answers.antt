-- `writer::write` meets its contract.
-- Assumes nothing.
use mathlib.Core.Path.{ap, ◌∙◌}
use Rattle.knots.specs.Kinds.{kind_of}
use Rattle.knots.proofs.Carried.{quintic_is}
use Rattle.writer.proofs.write.Goals as goal

pub returns : goal.returns
returns c = rw (ap kind_of c.quintic.ensures ∙ quintic_is) at c.write_as.ensures
