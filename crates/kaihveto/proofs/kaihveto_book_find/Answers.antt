-- `kaihveto::kaihveto_book_find` meets its contract, which is that of the function it calls. Assumes nothing.
use borrow.Author.Rules.{rules}
use Rattle.kaihveto.proofs.kaihveto_book_find.Goals as goal

pub find-requires : goal.find-requires
find-requires c = search rules

pub returns : goal.returns
returns c = c.find.ensures
