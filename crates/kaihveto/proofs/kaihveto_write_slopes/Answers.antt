-- `kaihveto::kaihveto_write_slopes` meets its contract, which is that of the function it calls. Assumes
-- nothing.
use borrow.Author.Rules.{rules}
use Rattle.kaihveto.specs.Types.{Minutes}
use Rattle.kaihveto.proofs.kaihveto_write_slopes.Goals as goal

pub returns : goal.returns
unfolding Minutes
returns c =
    record { writes = c.write_slopes.ensures; typed = λ i. (c.shared_slice_known-1.given i).fits }
