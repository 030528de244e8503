-- `kaihveto::kaihveto_read` meets its contract, which is that of the function it calls. Assumes nothing.
use borrow.Author.Rules.{rules}
use Rattle.kaihveto.proofs.kaihveto_read.Goals as goal

pub read-requires : goal.read-requires
read-requires c = search rules

pub returns : goal.returns
returns c = c.read.ensures
