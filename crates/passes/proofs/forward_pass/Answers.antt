-- `passes::forward_pass` meets its contract. Assumes nothing.
use Rattle.std.proofs.Common.{◌≡◌, length, Err, arith, length-set, sym, ap, ◌∙◌, add-one, below_none}
use Rattle.front.proofs.Listed.{grown_up}
use Rattle.passes.specs.Sheet.{left_gap}
use Rattle.passes.specs.Jobs.{step_by}
use Rattle.passes.specs.Forward.{going, run_to, state_at, left_by, judged_of, no_state}
use Rattle.passes.proofs.Runs.{goes_on, stuck_here, knot_is}
use Rattle.passes.proofs.forward_pass.Goals as goal
use Rattle.passes.proofs.forward_pass.Goals.{After-knot_by}

pub loop-i-init : goal.loop-i-init
unfolding run_to left_gap
loop-i-init c = record { run = ap going (sym c.start-before.ensures); left = c.empty_gap-p.ensures; room = c.told-states; states = below_none _ }

knot : (c : After-knot_by) → c.knot_by.result ≡ step_by c.args.minutes.now c.args.ordinates.now c.args.slopes.now c.args.job c.loop-i.before c.loop-i.i
knot c =
    c.knot_by.ensures
    ∙ knot_is c.args.minutes.now c.args.ordinates.now c.args.slopes.now c.args.job c.loop-i.p c.gap_after-g.result c.loop-i.before c.loop-i.i
    c.requires.minutes_len_bound.2 c.loop-i.invariant.left c.gap_after-g.ensures

pub returns-in_default : goal.returns-in_default
returns-in_default c =
    let none = sym c.in_default.is ∙ knot (goal.at.returns-in_default c).After-knot_by in
    record { answer = ap Err c.stuck.ensures ∙ stuck_here _ _ _ _ c.loop-i.invariant.run none c.loop-i-test.true; states_are = λ k z h. cc }

pub loop-i-preserved : goal.loop-i-preserved
unfolding left_gap
loop-i-preserved c =
    let s = c.args in
    let l = c.loop-i in
    let r = goes_on _ _ _ _ l.invariant.run (sym c.in-Some.is ∙ knot (goal.at.loop-i-preserved c).After-knot_by) in
    record {
      run = rw add-one r;
      left = rw add-one c.gap_after-g.ensures;
      room = length-set l.states l.i _ ∙ l.invariant.room;
      states = grown_up (state_at (step_by s.minutes.now s.ordinates.now s.slopes.now s.job)) l.states l.i _ no_state (omega (arith, l.invariant.room, c.requires.minutes_len_bound)) (ap left_by r) l.invariant.states;
    }

pub returns : goal.returns
returns c =
    let s = c.args in
    let all : c.loop-i.i ≡ length s.minutes.now = omega arith in
    record {
      answer = sym (ap judged_of (ap (run_to (step_by s.minutes.now s.ordinates.now s.slopes.now s.job)) (sym all) ∙ c.loop-i.invariant.run));
      states_are = λ k z h. c.loop-i.invariant.states k (omega arith);
    }
