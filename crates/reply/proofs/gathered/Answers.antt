-- `reply::gathered` meets its contract: a loop over the knots. Assumes nothing.
use Prim.Native.Nat.{◌<◌}
use mathlib.Core.Path.{◌≡◌, ◌∙◌}
use native.Mathlib.Omega.{arith}
use mir.Syntax.{w16}
use Rattle.little_endian.proofs.Signs.{passed}
use Rattle.text.specs.Sheet.{most}
use Rattle.reply.specs.Knots.{knot_at}
use Rattle.reply.proofs.Gathers.{going_starts, going_on, going_ends}
use Rattle.reply.proofs.gathered.Goals as goal
use Rattle.reply.proofs.gathered.Goals.{After-knot_at-knot, After-loop-i, In-loop-i}

pub loop-i-init : goal.loop-i-init
loop-i-init c = (c.requires, rw c.refused-so_far.ensures (going_starts _ _))

inside : (c : In-loop-i) → c.loop-i.i < most
inside c = omega (arith, c.loop-i.invariant.0, c.loop-i-test.true)

pub offset_bounds-sheet-i : goal.offset_bounds-sheet-i
offset_bounds-sheet-i c = omega (arith, inside (goal.at.offset_bounds-sheet-i c).In-loop-i)

pub offset_bounds-sheet-i-in-loop-i : goal.offset_bounds-sheet-i-in-loop-i
offset_bounds-sheet-i-in-loop-i c = omega (arith, inside (goal.at.offset_bounds-sheet-i-in-loop-i c).In-loop-i)

pub with_knot-so_far-requires : goal.with_knot-so_far-requires
with_knot-so_far-requires c = let q = (goal.at.with_knot-so_far-requires c).In-loop-i in rw q.loop-i.invariant.1.so_many (inside q)

pub loop-i-smaller : goal.loop-i-smaller
loop-i-smaller c = omega (arith, c.loop-i-test.true)

found : (c : After-knot_at-knot) → c.knot_at-knot.result ≡ knot_at c.args.sheet c.args.logs.now c.loop-i.i
unfolding knot_at
found c = rw (passed w16 _ c.knot_at-arg-in-loop-i-2-1.given) at c.knot_at-knot.ensures

pub loop-i-preserved : goal.loop-i-preserved
loop-i-preserved c =
    let q = (goal.at.loop-i-preserved c).In-loop-i in
    let l = q.loop-i.invariant in
    (l.0, rw (c.with_knot-so_far.ensures, found (goal.at.loop-i-preserved c).After-knot_at-knot) (going_on l.1 q.loop-i-test.true))

pub returns : goal.returns
returns c =
    let q = (goal.at.returns c).After-loop-i in
    c.close.ensures ∙ going_ends q.loop-i.invariant.1 q.loop-i-test.false

pub bounds-sheet-i : goal.bounds-sheet-i
bounds-sheet-i = inside

pub bounds-sheet-i-in-loop-i : goal.bounds-sheet-i-in-loop-i
bounds-sheet-i-in-loop-i c = inside (goal.at.bounds-sheet-i-in-loop-i c).In-loop-i

pub bounds-sheet-i-in-loop-i-2 : goal.bounds-sheet-i-in-loop-i-2
bounds-sheet-i-in-loop-i-2 c = inside (goal.at.bounds-sheet-i-in-loop-i-2 c).In-loop-i

pub knot_at-knot-requires : goal.knot_at-knot-requires
knot_at-knot-requires c = inside (goal.at.knot_at-knot-requires c).In-loop-i
