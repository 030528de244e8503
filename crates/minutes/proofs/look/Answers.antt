-- `minutes::look` meets its contract.
-- Assumes nothing.
use borrow.Author.Tests.{lt-ltb, le-ltb}
use Rattle.minutes.specs.Search.{middle, look}
use Rattle.minutes.proofs.look.Goals as goal

pub returns-then-minute-knot : goal.returns-then-minute-knot
unfolding look
returns-then-minute-knot c = simp (lt-ltb _ _ c.if-minute-knot.true)

pub returns : goal.returns
unfolding look middle
returns c = simp (le-ltb _ _ c.if-minute-knot.false)
