-- `split::line_at` meets its contract: a loop over the lines before. Assumes nothing.
use Rattle.split.proofs.Numbered.{Seeking}
use Rattle.split.proofs.line_at.Given as goal

abbrev pub invariant-loop : goal.invariant-loop
invariant-loop l = Seeking l.text l.n l.counter l.at
