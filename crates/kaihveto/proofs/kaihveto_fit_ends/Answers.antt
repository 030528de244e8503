-- `kaihveto::kaihveto_fit_ends` meets its contract, which is that of the function it calls. Assumes nothing.
use borrow.Author.Rules.{rules}
use Rattle.kaihveto.proofs.kaihveto_fit_ends.Goals as goal

pub returns : goal.returns
returns c = c.fit_codes.ensures
