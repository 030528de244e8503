-- `text::bare_line` meets its contract. Assumes nothing.
use mathlib.Core.Path.{ap, ◌∙◌}
use lib.Seq.{drop-length}
use Rattle.split.specs.Parts.{bare}
use Rattle.text.proofs.Lines.{no_line, line_of_number}
use Rattle.text.proofs.bare_line.Goals as goal

pub returns-then-line-eq0 : goal.returns-then-line-eq0
returns-then-line-eq0 c = c.from.ensures ∙ drop-length c.args.text.now ∙ no_line _ _ c.if-line-eq0.true

pub returns : goal.returns
returns c = c.until.ensures ∙ ap bare c.line_at.ensures ∙ line_of_number _ _ c.if-line-eq0.false
