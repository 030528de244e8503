-- `split::until` meets its contract. Assumes nothing.
use mathlib.Core.Path.{sym}
use lib.Seq.{length-take-le}
use Rattle.split.proofs.Stops.{stop_le}
use Rattle.split.proofs.until.Goals as goal

pub slice_bounds-result-end : goal.slice_bounds-result-end
slice_bounds-result-end c = sym (length-take-le _ _ (rw c.stop-end.ensures (stop_le _ _)))
