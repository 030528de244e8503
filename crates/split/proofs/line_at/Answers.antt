-- `split::line_at` meets its contract: a loop over the lines before. Assumes nothing.
use Prim.Native.Nat.{◌+◌, ◌≤◌, ◌<◌}
use mathlib.Core.Path.{◌≡◌, ap, ◌∙◌}
use native.Mathlib.Omega.{arith}
use lib.ListN.{length, drop}
use Rattle.split.specs.Parts.{until}
use Rattle.split.specs.declared.Mark.TheVariants.{LineEnd}
use Rattle.split.proofs.Stops.{part_within}
use Rattle.split.proofs.Numbered.{seeking_starts, seeking_found, seeking_more, seeking_none}
use Rattle.split.proofs.line_at.Goals as goal
use Rattle.split.proofs.line_at.Goals.{After-until}

found : (c : After-until)
    → c.until.result.now ≡ until LineEnd (drop c.loop.at c.args.text.now)
found c = c.until.ensures ∙ ap (until LineEnd) c.from.ensures

within : (c : After-until)
    → c.loop.at + length c.until.result.now ≤ length c.args.text.now
within c = rw (found c) (part_within LineEnd _ _ c.loop.invariant.within)

pub loop-init : goal.loop-init
loop-init c = seeking_starts _ _

pub overflow_add-end : goal.overflow_add-end
overflow_add-end c = omega (arith, within c)

pub from-requires-then-end-text : goal.from-requires-then-end-text
from-requires-then-end-text c = within (goal.at.from-requires-then-end-text c).After-until

pub returns-then-end-text : goal.returns-then-end-text
returns-then-end-text c =
    let u = (goal.at.returns-then-end-text c).After-until in
    c.from-then-end-text.ensures ∙ rw (found u) (seeking_none u.loop.invariant (omega arith) (rw (found u) at c.if-end-text.true))

pub overflow_add-at : goal.overflow_add-at
overflow_add-at c = omega (arith, within (goal.at.overflow_add-at c).After-until)

pub loop-preserved : goal.loop-preserved
loop-preserved c =
    let u = (goal.at.loop-preserved c).After-until in
    let l = u.loop in
    let less : l.at + length u.until.result.now < length u.args.text.now = omega (arith, within u) in
    rw (found u) (seeking_more l.invariant (omega arith) (rw (found u) at less))

pub returns : goal.returns
returns c =
    let l = c.loop in
    c.until-2.ensures ∙ ap (until LineEnd) c.from-2.ensures ∙ seeking_found l.invariant (omega arith)
