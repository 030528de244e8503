-- `text::named` meets its contract, by the word's first byte. Assumes nothing.
use mathlib.Core.Path.{sym, ◌∙◌}
use lib.Seq.{drop-length}
use Rattle.numeral.proofs.Numbers.{starts_some}
use Rattle.text.specs.Sheet.{named}
use Rattle.text.proofs.named.Goals as goal
use Rattle.text.proofs.named.Goals.{Else-starts, Then-starts}

pub from-requires : goal.from-requires
from-requires c = starts_some _ _ (sym c.starts.ensures ∙ c.if-starts.true)

pub returns-then-starts : goal.returns-then-starts
unfolding named
returns-then-starts c = let q = (goal.at.returns-then-starts c).Then-starts in rw (sym q.starts.ensures ∙ q.if-starts.true) c.from.ensures

pub returns : goal.returns
unfolding named
returns c = let q = (goal.at.returns c).Else-starts in rw (sym q.starts.ensures ∙ q.if-starts.false) (c.from-2.ensures ∙ drop-length q.args.word.now)
