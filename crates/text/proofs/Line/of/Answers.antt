-- `text::Line::of` meets its contract. Assumes nothing.
use mathlib.Core.Path.{ap, ◌∙◌}
use Rattle.split.specs.Parts.{words}
use Rattle.text.specs.Sheet.{line_by, line}
use Rattle.text.proofs.Line.of.Goals as goal

pub returns : goal.returns
unfolding line
returns c = c.of_words.ensures ∙ ap (λ s. line_by (words s)) c.until.ensures
