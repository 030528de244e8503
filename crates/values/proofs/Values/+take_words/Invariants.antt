-- `values::Values::take_words` ends because what is behind a word is shorter. Assumes nothing.
use lib.ListN.{length}
use Rattle.values.proofs.Values.+take_words.Given as goal

abbrev pub decreases-take_words : goal.decreases-take_words
decreases-take_words l = length l.text.now
