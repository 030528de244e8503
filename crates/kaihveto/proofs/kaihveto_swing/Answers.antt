-- `kaihveto::kaihveto_swing` meets its contract, which is that of the function it calls. Assumes nothing.
use borrow.Author.Rules.{rules}
use Rattle.kaihveto.proofs.kaihveto_swing.Goals as goal

pub swing-requires : goal.swing-requires
swing-requires c = search rules

pub returns : goal.returns
returns c = c.swing.ensures
