-- `passes::pairs_of` meets its contract: forward, and then the way back, knot by knot from the last. Assumes nothing.
use Rattle.std.proofs.Common.{◌≡◌, ℕ, suc, ◌-◌, ◌<◌, length, get_or, Err, List, arith, true, false, length-set, refl, sym, ap, ap₂, ◌∙◌, add-one}
use Rattle.std.proofs.lemmas.List.{get_or-replicate}
use Rattle.std.proofs.lemmas.Result.{err_from_is_err_and}
use Rattle.elimination.specs.declared.State.{State}
use Rattle.front.specs.Front.{listed}
use Rattle.front.proofs.Listed.{is_listed, grown_down}
use Rattle.passes.specs.Sheet.{most}
use Rattle.passes.specs.Jobs.{step_by, turn_by}
use Rattle.passes.specs.Forward.{no_state}
use Rattle.passes.specs.Back.{back, pair_of, back_to, pair_at, no_pair}
use Rattle.passes.specs.Passes.{returned, back_from, passes}
use Rattle.passes.proofs.Answers.{forward_then_back, stuck_forward, refused_by_step}
use Rattle.passes.proofs.Backs.{goes_on, stays_stopped, pair_here, zeros_behind}
use Rattle.passes.proofs.pairs_of.Goals as goal
use Rattle.passes.proofs.pairs_of.Goals.{After-no_pair-next}

-- the state of knot k
abbrev at : List State → ℕ → State
at states k = get_or states k no_state

pub returns-in_err-forward_pass-clause-whole : goal.returns-in_err-forward_pass-clause-whole
returns-in_err-forward_pass-clause-whole c =
    let p = err_from_is_err_and c.from_residual.result c.from_residual.ensures.1 in
    p.1 ∙ ap Err p.2 ∙ stuck_forward _ _ _ c.forward_pass.ensures _ c.in_err-forward_pass.was

pub returns-in_err-forward_pass-clause-number : goal.returns-in_err-forward_pass-clause-number
returns-in_err-forward_pass-clause-number c = refused_by_step _ _ _ (returns-in_err-forward_pass-clause-whole c)

pub loop-j-init : goal.loop-j-init
unfolding back_to
loop-j-init c =
    let zero = c.no_pair-next.ensures in
    record {
      way = ap back (sym zero);
      room = refl;
      pairs = λ k p q. get_or-replicate most k c.no_pair-next.result no_pair q ∙ zero ∙ sym (zeros_behind (turn_by c.args.job) (at c.forward_pass.new.states) (length c.args.minutes.now) k (omega arith));
    }

-- the way back from the states is both passes
whole : (c : After-no_pair-next)
    → (let s = c.args in
    back_from (turn_by s.job) (at c.forward_pass.new.states) (length s.minutes.now)
    ≡ passes (step_by s.minutes.now s.ordinates.now s.slopes.now s.job) (turn_by s.job) (length s.minutes.now))
whole c = forward_then_back _ _ _ c.forward_pass.ensures c.in_ok-forward_pass.was

pub returns-then-not-finite_pair-clause-whole : goal.returns-then-not-finite_pair-clause-whole
unfolding back_from
returns-then-not-finite_pair-clause-whole c =
    let s = c.args in
    let l = c.loop-j in
    let n = length s.minutes.now in
    let states = at c.forward_pass.new.states in
    let under : l.j < n = c.loop-j-test.true in
    let r = goes_on (turn_by s.job) states n l.j l.next _ false l.invariant.way c.pair_before-next.ensures (sym c.finite_pair.ensures ∙ c.if-not-finite_pair.true) in
    let e = stays_stopped (turn_by s.job) states n (suc l.j) (n - 1 - l.j) r n under in
    ap Err c.stuck.ensures ∙ sym (ap (λ x. returned x (listed (pair_at (turn_by s.job) states n) most)) e) ∙ whole (goal.at.returns-then-not-finite_pair-clause-whole c).After-no_pair-next

pub returns-then-not-finite_pair-clause-number : goal.returns-then-not-finite_pair-clause-number
returns-then-not-finite_pair-clause-number c = refused_by_step _ _ _ (returns-then-not-finite_pair-clause-whole c)

pub loop-j-preserved : goal.loop-j-preserved
loop-j-preserved c =
    let s = c.args in
    let l = c.loop-j in
    let n = length s.minutes.now in
    let states = at c.forward_pass.new.states in
    let v = c.pair_before-next.result in
    let under : l.j < n = c.loop-j-test.true in
    let r = goes_on (turn_by s.job) states n l.j l.next v true l.invariant.way c.pair_before-next.ensures (sym c.finite_pair.ensures ∙ c.if-not-finite_pair.false) in
    let k = n - 1 - l.j in
    let above : (i : ℕ) → k < i → i < most → get_or l.pairs i no_pair ≡ pair_at (turn_by s.job) states n i = λ i p q. l.invariant.pairs i (omega arith) q in
    let down = grown_down (pair_at (turn_by s.job) states n) l.pairs most k v no_pair (omega (arith, c.requires.minutes_len_bound)) (pair_here (turn_by s.job) states n l.j under ∙ ap pair_of r) above in
    record { way = rw add-one r; room = length-set l.pairs k v ∙ l.invariant.room; pairs = λ i p q. down i (omega arith) q }

pub returns-clause-whole : goal.returns-clause-whole
unfolding back_from
returns-clause-whole c =
    let s = c.args in
    let l = c.loop-j in
    let n = length s.minutes.now in
    let states = at c.forward_pass.new.states in
    let all : l.j ≡ n = omega arith in
    let e = ap (back_to (turn_by s.job) states n) (sym all) ∙ l.invariant.way in
    let pairs = is_listed (pair_at (turn_by s.job) states n) no_pair most l.pairs l.invariant.room (λ k p. l.invariant.pairs k (omega arith) p) in
    sym (ap₂ returned e (sym pairs)) ∙ whole (goal.at.returns-clause-whole c).After-no_pair-next
