-- `kaihveto::kaihveto_mean` meets its contract, which is that of the function it calls. Assumes nothing.
use borrow.Author.Rules.{rules}
use Rattle.little_endian.specs.Numbers.{Bytes}
use Rattle.kaihveto.proofs.kaihveto_mean.Goals as goal

pub returns : goal.returns
unfolding Bytes
returns c =
    record { value = c.mean_of.ensures; typed = λ i. (c.shared_slice_known-1.given i).fits }
