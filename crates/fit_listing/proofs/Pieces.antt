-- The fitter prints what the definition says of its whole input, though it has no more of it at hand than one record. Assumes nothing.
use mathlib.Core.Path.{◌≡◌, ap}
use mathlib.Core.List.{List}
use Prim.Native.Nat.{ℕ}
use Rattle.sheet.specs.Pieces.{pieces}
use Rattle.gather.specs.Gathered.{most}
use Rattle.sheet.specs.Step.{no_records, steps, closed}
use Rattle.sheet.proofs.Folding.{steps_read_all}
use Rattle.fit_listing.specs.Printed.{listed, printed}

pub pieces_decide : (s : List ℕ) → listed (closed (steps no_records (pieces most s))) ≡ printed s
pieces_decide s = ap listed (steps_read_all s)
