-- `split::stop` meets its contract. Assumes nothing.
use Rattle.split.proofs.Stops.{position_stop}
use Rattle.split.proofs.stop.Goals as goal

pub returns : goal.returns
returns c = rw (c.first_marked.ensures, position_stop c.args.mark c.args.text.now) at c.unwrap_or.ensures
