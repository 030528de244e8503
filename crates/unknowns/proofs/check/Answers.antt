-- `unknowns::check` meets its contract.
-- Assumes nothing.
use Rattle.std.proofs.Common.{sym, arith}
use borrow.Author.Tests.{ltb-false}
use Rattle.answer.proofs.Steps.{refuse_accepts}
use Rattle.unknowns.proofs.check.Goals as goal

pub in_range-requires : goal.in_range-requires
in_range-requires c = omega (arith, ltb-false _ _ (refuse_accepts 24 0 _ (sym c.in_ok-refuse-2.ensures)))
