-- `writer::write_slopes` meets its contract.
-- Assumes nothing.
use mathlib.Core.Path.{ap, ◌∙◌}
use Rattle.knots.specs.Kinds.{kind_of}
use Rattle.knots.proofs.Carried.{sloped_is}
use Rattle.writer.proofs.write_slopes.Goals as goal

pub returns : goal.returns
returns c = rw (ap kind_of c.sloped.ensures ∙ sloped_is) at c.write_as.ensures
