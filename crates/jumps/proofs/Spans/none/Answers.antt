-- `Spans::none` meets its contract.
-- Assumes nothing.
use mathlib.Core.Path.{ap}
use Rattle.jumps.specs.declared.Span.{Span}
use Rattle.jumps.specs.declared.Spans.{Spans}
use Rattle.jumps.proofs.Spans.none.Goals as goal

abbrev both : Span → Spans
both s = record { third = s; fourth = s }

pub returns : goal.returns
returns c = ap both c.none-span.ensures
