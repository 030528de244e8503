-- `words::put_line` meets its contract. Assumes nothing.
use Rattle.decimal.specs.Decimal.{spelled}
use Rattle.decimal.proofs.Puts.{put_then}
use Rattle.words.proofs.Lengths.{a_line}
use Rattle.words.proofs.put_line.Goals as goal

pub returns : goal.returns
unfolding spelled
returns c = rw (a_line _ c.if-line-eq0.false) (put_then c.put_worded-next.ensures c.put_words-2.ensures)
