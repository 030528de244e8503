-- `reply::log_at` meets its contract. Assumes nothing.
use native.Mathlib.Omega.{arith}
use Rattle.reply.proofs.Slots.{no_slot}
use Rattle.reply.proofs.log_at.Goals as goal

pub returns-then-logs-at : goal.returns-then-logs-at
returns-then-logs-at c = no_slot _ _ (omega (arith, c.if-logs-at.true))
