-- `kaihveto::kaihveto_reading` meets its contract, which is that of the function it calls. Assumes nothing.
use borrow.Author.Rules.{rules}
use Rattle.kaihveto.proofs.kaihveto_reading.Goals as goal

pub reading-requires : goal.reading-requires
reading-requires c = search rules

pub returns : goal.returns
returns c = c.reading.ensures
