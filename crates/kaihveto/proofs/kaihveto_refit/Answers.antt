-- `kaihveto::kaihveto_refit` meets its contract, which is that of the function it calls. Assumes nothing.
use borrow.Author.Rules.{rules}
use Rattle.kaihveto.proofs.kaihveto_refit.Goals as goal

pub refit-requires : goal.refit-requires
refit-requires c = search rules

pub returns : goal.returns
returns c = c.refit.ensures
