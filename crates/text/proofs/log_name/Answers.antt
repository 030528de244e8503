-- `text::log_name` meets its contract. Assumes nothing.
use mathlib.Core.Path.{ap, ◌∙◌}
use Rattle.split.specs.Parts.{words}
use Rattle.text.specs.Sheet.{named_by}
use Rattle.text.proofs.log_name.Goals as goal

pub returns : goal.returns
returns c = c.named_word.ensures ∙ ap (λ l. named_by (words l)) c.bare_line.ensures
