-- `kaihveto::kaihveto_write` meets its contract, which is that of the function it calls. Assumes nothing.
use borrow.Author.Rules.{rules}
use Rattle.kaihveto.specs.Types.{Minutes}
use Rattle.kaihveto.proofs.kaihveto_write.Goals as goal

pub write-requires : goal.write-requires
write-requires c = search rules

pub returns : goal.returns
unfolding Minutes
returns c =
    record { writes = c.write.ensures; typed = λ i. (c.shared_slice_known-1.given i).fits }
