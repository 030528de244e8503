-- `values::blamed` meets its contract. Assumes nothing.
use mathlib.Core.Path.{ap, ◌∙◌}
use Rattle.split.specs.Parts.{words}
use Rattle.values.specs.Values.{first_wrong}
use Rattle.values.proofs.blamed.Goals as goal

pub returns : goal.returns
returns c = c.first_wrong.ensures ∙ ap (λ l. first_wrong (words l)) c.bare_line.ensures
