-- `opened::Opened::by_head` meets its contract.
-- Assumes nothing.
use Rattle.opened.proofs.Opening.{opens_by_head}
use borrow.Author.Rules.{rules}
use Rattle.opened.proofs.Opened.by_head.Goals as goal

pub returns : goal.returns
returns c = opens_by_head _ c.kind_by.ensures c.of.ensures
