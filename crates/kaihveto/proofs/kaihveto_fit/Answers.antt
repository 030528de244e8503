-- `kaihveto::kaihveto_fit` meets its contract, which is that of the function it calls. Assumes nothing.
use borrow.Author.Rules.{rules}
use Rattle.kaihveto.proofs.kaihveto_fit.Goals as goal

pub fit-requires : goal.fit-requires
fit-requires c = search rules

pub returns : goal.returns
returns c = c.fit.ensures
