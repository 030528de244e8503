-- Both passes as one answer: the n pairs, or number 8 at the knot where it is first met, forward then back. Assumes nothing.
use Rattle.std.specs.Prelude.{ℕ, List, replicate, Option, Result, Ok, Err}
use Rattle.front.specs.Front.{listed}
use Rattle.rows.specs.declared.Pair.{Pair}
use Rattle.elimination.specs.declared.State.{State}
use Rattle.elimination.specs.Elimination.{zero_pair}
use Rattle.answer.specs.declared.Refusal.{Refusal}
use Rattle.answer.specs.Answer as Answer
use Rattle.answer.specs.Answer.{Verdict, accepted}
use Rattle.answer.specs.Judge.{number_of}
use Rattle.passes.specs.Sheet.{most}
use Rattle.passes.specs.Forward.{Run, going, stuck, stuck_at, run_to, state_at}
use Rattle.passes.specs.Back.{Back, back, stopped, back_to, pair_at}

-- the pairs, zeros behind them; or the refusal
abbrev pub Solved : Type 0
Solved = Result (List Pair) Refusal

-- zeros stand for the pairs of a refusal
abbrev pub pairs_in : Solved → List Pair
pairs_in (Ok pairs) = pairs
pairs_in (Err e) = replicate most zero_pair

abbrev pub verdict_in : Solved → Verdict
verdict_in (Ok pairs) = accepted
verdict_in (Err e) = Answer.refused (number_of e.reason) e.place

abbrev pub refused : ℕ → Solved
refused place = Err (stuck_at place)

abbrev pub returned : Back → List Pair → Solved
returned (back v) pairs = Ok pairs
returned (stopped k) pairs = refused k

abbrev pub answered : Run → Solved → Solved
answered (going x) r = r
answered (stuck i) r = refused i

-- the way back from the states of n knots
unfoldable pub back_from : (State → Pair → Pair) → (ℕ → State) → ℕ → Solved
back_from turn states n = returned (back_to turn states n n) (listed (pair_at turn states n) most)

-- forward over n knots by `step`, then back by `turn`
unfoldable pub passes : (State → ℕ → Option State) → (State → Pair → Pair) → ℕ → Solved
passes step turn n = answered (run_to step n) (back_from turn (state_at step) n)
