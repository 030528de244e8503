-- `kaihveto::kaihveto_book_remove` meets its contract, which is that of the function it calls. Assumes nothing.
use native.Mathlib.Omega.{arith}
use borrow.Author.Rules.{rules}
use Rattle.little_endian.specs.Numbers.{Bytes}
use Rattle.kaihveto.specs.Types.{Room}
use Rattle.kaihveto.proofs.kaihveto_book_remove.Goals as goal
use Rattle.kaihveto.proofs.kaihveto_book_remove.Goals.{After-slice_known-1}

pub remove-requires : goal.remove-requires
remove-requires c = search rules

pub returns : goal.returns
unfolding Bytes Room
returns c =
    let k = (goal.at.returns c).After-slice_known-1 in record { puts = c.remove.ensures; typed = (λ i. omega (arith, k.slice_known-1.given i), omega arith) }
