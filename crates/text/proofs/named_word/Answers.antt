-- `text::named_word` meets its contract: the second word's. Assumes nothing.
use mathlib.Core.Path.{ap, ◌∙◌}
use Rattle.split.specs.Parts.{until, past}
use Rattle.split.specs.declared.Mark.TheVariants.{Blank, Word}
use Rattle.text.specs.Sheet.{named}
use Rattle.text.proofs.Names.{second_named}
use Rattle.text.proofs.named_word.Goals as goal
use Rattle.text.proofs.named_word.Goals.{After-past-first, After-past-second}

pub returns : goal.returns
returns c =
    let third = (goal.at.returns c).After-past-second in
    let first = (goal.at.After-past-second third).After-past-first in
    c.named.ensures ∙ ap named c.until.ensures
    ∙ ap (λ l. named (until Blank l)) third.past-second.ensures
    ∙ ap (λ l. named (until Blank (past Word l))) third.past.ensures
    ∙ ap (λ l. named (until Blank (past Word (past Blank l)))) first.past-first.ensures
    ∙ second_named _
