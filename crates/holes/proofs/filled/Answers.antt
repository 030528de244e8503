-- `holes::filled` meets its contract.
-- Assumes nothing.
use Rattle.std.proofs.Common.{◌∙◌, arith, w16}
use Rattle.std.proofs.lemmas.Int.{to_z-of_z}
use Rattle.front.proofs.Filled.{filled_more}
use Rattle.holes.proofs.filled.Goals as goal

pub loop-i-preserved : goal.loop-i-preserved
loop-i-preserved c =
    filled_more c.loop-i.invariant (omega (arith, c.requires)) (to_z-of_z w16 _ (record { sfits = c.filled_at.type_inv }) ∙ c.filled_at.ensures)
