-- `swing::widest_on` meets its contract: a loop over the gaps, that keeps the one that goes furthest.
-- Assumes nothing.
use Rattle.std.proofs.Common.{◌≡◌, ap, ◌∙◌, ◌+◌, ◌-◌, arith, length}
use Rattle.curve.specs.Card.{knots}
use Rattle.knots.specs.Lent.{lent}
use Rattle.swing.specs.Swing.{peak, gap_swing, widest, widest_of}
use Rattle.swing.proofs.Peak.{widest_so_far, widest_on}
use Rattle.swing.proofs.widest_on.Goals as goal

pub loop-j-init : goal.loop-j-init
unfolding peak
loop-j-init c = ap (λ g. record { knot = 0; gap = g }) c.gap_on.ensures

pub loop-j-preserved : goal.loop-j-preserved
loop-j-preserved c =
    let l = c.loop-j in
    let a = c.args.lists in
    let same : l.j + 1 - 1 ≡ l.j = omega arith in
    rw same (widest_on (gap_swing (lent a.minutes.now a.ordinates.now a.slopes.now a.curvatures.now 0 0)) l.j l.auto.j l.invariant c.gap_on-in-loop-j.ensures c.or-widest.ensures)

pub returns : goal.returns
unfolding widest_of widest knots
returns c =
    let l = c.loop-j in
    let a = c.args.lists in
    let all : l.j - 1 ≡ length a.minutes.now - 2 = omega (arith, c.requires, c.loop-j-test.false, l.auto.j) in
    l.invariant ∙ ap (widest_so_far (gap_swing (lent a.minutes.now a.ordinates.now a.slopes.now a.curvatures.now 0 0))) all
