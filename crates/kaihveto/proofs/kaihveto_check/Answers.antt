-- `kaihveto::kaihveto_check` meets its contract, which is that of the function it calls. Assumes nothing.
use borrow.Author.Rules.{rules}
use Rattle.little_endian.specs.Numbers.{Bytes}
use Rattle.kaihveto.proofs.kaihveto_check.Goals as goal

pub check-requires : goal.check-requires
check-requires c = search rules

pub returns : goal.returns
unfolding Bytes
returns c =
    record { value = c.check.ensures; typed = λ i. (c.shared_slice_known-1.given i).fits }
