-- `workbench::files::beside` is safe: the name, the word and a number have room. Assumes nothing.
use Rattle.std.proofs.Common.{arith}
use Rattle.decimal.specs.Decimal.{spelled}
use Rattle.decimal.proofs.Lengths.{length_worded}
use Rattle.decimal.proofs.Puts.{same_room}
use Rattle.workbench.proofs.files.beside.Goals as goal

pub put_worded-requires : goal.put_worded-requires
unfolding spelled
put_worded-requires c = let p = c.put_words-n.ensures in omega (arith, c.requires.0, c.requires.1, p.behind, same_room p, length_worded ".new" c.process-process.result)
