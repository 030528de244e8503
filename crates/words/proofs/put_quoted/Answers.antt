-- `words::put_quoted` meets its contract. Assumes nothing.
use Rattle.decimal.specs.Decimal.{spelled}
use Rattle.decimal.proofs.Puts.{put_then}
use Rattle.words.proofs.put_quoted.Goals as goal

pub returns : goal.returns
unfolding spelled
returns c = put_then (put_then c.put_words-opened.ensures c.put_words-closed.ensures) c.put_words.ensures
