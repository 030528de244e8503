-- From the contracts of the two passes to the whole's, and that every pair of its answer is finite. Assumes nothing.
use Prim.Native.Nat.{ℕ, ◌-◌, ◌<◌}
use native.Mathlib.Nat.{le_refl}
use native.Mathlib.Omega.{arith}
use mathlib.Core.Path.{◌≡◌, refl, sym, ap, ap₂, ◌∙◌}
use mathlib.Core.Bool.{true}
use mathlib.Core.List.{List}
use lib.ListN.{get_or, get_or-replicate}
use Rattle.elimination.specs.declared.State.{State}
use Rattle.std.specs.Prelude.{Option, None, Ok, Err, IfErr}
use Rattle.answer.specs.Judge.{Judged, number_of}
use Rattle.answer.specs.declared.Refusal.{Refusal}
use Rattle.rows.specs.declared.Pair.{Pair}
use Rattle.elimination.specs.Elimination.{zero_pair}
use Rattle.elimination.specs.Refusal.{both_finite, number_of_step}
use Rattle.passes.specs.Sheet.{most}
use Rattle.passes.specs.Forward.{Run, going, stuck, stuck_at, judged_of, run_to, state_at, no_state, Forwarded}
use Rattle.passes.specs.Back.{Back, back, stopped, pair_of, back_to, pair_at, no_pair}
use Rattle.front.specs.Front.{listed}
use Rattle.passes.specs.Passes.{Solved, pairs_in, returned, answered, back_from, passes}
use Rattle.front.proofs.Listed.{listed_same, get_d_listed}
use Rattle.passes.proofs.Backs.{back_same, zeros_finite, pair_finite}

-- the way back sees nothing of the states but those of its n knots
pub back_from_same : (turn : State → Pair → Pair) (states states' : ℕ → State) (n : ℕ) → ((k : ℕ) → k < n → states k ≡ states' k) → back_from turn states n ≡ back_from turn states' n
unfolding back_from
back_from_same turn states states' n same =
    let there = back_same turn states states' n same in
    ap₂ returned (there n (le_refl n))
    (listed_same (pair_at turn states n) (pair_at turn states' n) most (λ k h. ap pair_of (there (n - k) (omega arith))))

went : (u : Run) (r : Solved) → Ok tt ≡ judged_of u → r ≡ answered u r
went (going x) r e = refl
went (stuck i) r e = cc

stopped_there : (u : Run) (r : Solved) (e : Refusal) → Err e ≡ judged_of u → Err e ≡ answered u r
stopped_there (going x) r e h = cc
stopped_there (stuck i) r e h = cc

module _ (step : State → ℕ → Option State) (turn : State → Pair → Pair) (n : ℕ) {f : Judged} {states : List State} (forward : Forwarded step n f states) where
  pub forward_then_back : f ≡ Ok tt → back_from turn (λ k. get_or states k no_state) n ≡ passes step turn n
  unfolding passes
  forward_then_back z =
      back_from_same turn (λ k. get_or states k no_state) (state_at step) n (λ k p. forward.states_are k z p)
      ∙ went (run_to step n) (back_from turn (state_at step) n) (sym z ∙ forward.answer)

  pub stuck_forward : (e : Refusal) → f ≡ Err e → Err e ≡ passes step turn n
  unfolding passes
  stuck_forward e z = stopped_there (run_to step n) (back_from turn (state_at step) n) e (sym z ∙ forward.answer)

-- ---- every pair of an answer is finite: those of a run that came to its end, and the zeros behind them or behind a refusal
abbrev Finite : Solved → Type 0
Finite r = (k : ℕ) → k < most → both_finite (get_or (pairs_in r) k no_pair) ≡ true

refused_finite : (e : Refusal) → Finite (Err e)
refused_finite e k h = ap both_finite (get_or-replicate most k zero_pair no_pair h) ∙ zeros_finite

module _ (turn : State → Pair → Pair) (states : ℕ → State) (n : ℕ) where
  returned_finite : (b : Back) → Finite (returned b (listed (pair_at turn states n) most))
  returned_finite (back v) k h = ap both_finite (get_d_listed (pair_at turn states n) no_pair most k h) ∙ pair_finite turn states n k
  returned_finite (stopped i) k h = refused_finite (stuck_at i) k h

  back_from_finite : Finite (back_from turn states n)
  unfolding back_from
  back_from_finite = returned_finite (back_to turn states n n)

answered_finite : (u : Run) (r : Solved) → Finite r → Finite (answered u r)
answered_finite (going x) r f = f
answered_finite (stuck i) r f = refused_finite (stuck_at i)

pub pairs_finite : (step : State → ℕ → Option State) (turn : State → Pair → Pair) (n k : ℕ) → k < most → both_finite (get_or (pairs_in (passes step turn n)) k no_pair) ≡ true
unfolding passes
pairs_finite step turn n = answered_finite (run_to step n) (back_from turn (state_at step) n) (back_from_finite turn (state_at step) n)

-- ---- the number of every refusal is a stuck step's
abbrev ByStep : Solved → Type 0
ByStep r = IfErr r (λ e. number_of e.reason ≡ number_of_step None)

returned_by_step : (b : Back) (pairs : List Pair) → ByStep (returned b pairs)
returned_by_step (back v) pairs = tt
returned_by_step (stopped k) pairs = refl

answered_by_step : (u : Run) (r : Solved) → ByStep r → ByStep (answered u r)
answered_by_step (going x) r e = e
answered_by_step (stuck i) r e = refl

pub refused_by_step : (step : State → ℕ → Option State) (turn : State → Pair → Pair) (n : ℕ) {r : Solved} → r ≡ passes step turn n → ByStep r
unfolding passes back_from
refused_by_step step turn n e =
    let pairs = listed (pair_at turn (state_at step) n) most in
    rw e (answered_by_step (run_to step n) (returned (back_to turn (state_at step) n n) pairs) (returned_by_step (back_to turn (state_at step) n n) pairs))
