-- `kaihveto::kaihveto_table` meets its contract, which is that of the function it calls. Assumes nothing.
use borrow.Author.Rules.{rules}
use Rattle.kaihveto.proofs.kaihveto_table.Goals as goal

pub table-requires : goal.table-requires
table-requires c = search rules

pub returns : goal.returns
returns c = c.table.ensures
