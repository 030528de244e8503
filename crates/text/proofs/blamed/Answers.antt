-- `text::blamed` meets its contract. Assumes nothing.
use mathlib.Core.Path.{ap, ◌∙◌}
use Rattle.split.specs.Parts.{words}
use Rattle.text.specs.Sheet.{blamed_by}
use Rattle.text.proofs.blamed.Goals as goal

pub returns : goal.returns
returns c = c.blamed_word.ensures ∙ ap (λ l. blamed_by (words l)) c.bare_line.ensures
