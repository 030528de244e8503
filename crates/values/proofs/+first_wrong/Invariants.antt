-- `values::first_wrong` ends because what is behind a word is shorter. Assumes nothing.
use lib.ListN.{length}
use Rattle.values.proofs.+first_wrong.Given as goal

abbrev pub decreases-first_wrong : goal.decreases-first_wrong
decreases-first_wrong l = length l.text.now
