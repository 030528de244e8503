-- The forward pass, over whatever is done at a knot: it goes from the first knot to the last, or to the one where 8 is
-- first met. Assumes nothing.
use Rattle.std.specs.Prelude.{ℕ, zero, suc, ◌<◌, ◌≡◌, List, get_or, Option, Some, None, Ok, Err}
use Rattle.std.specs.Float.{nan}
use Rattle.elimination.specs.declared.State.{State}
use Rattle.answer.specs.declared.Reason.TheVariants.{Stuck}
use Rattle.answer.specs.declared.Refusal.{Refusal}
use Rattle.answer.specs.Judge.{Judged}
use Rattle.rows.specs.Equations.{pair, block}
use Rattle.elimination.specs.Elimination.{zero_state}
use Rattle.elimination.specs.Refusal.{left_by_step}

-- how far elimination has come: with what it left of the knot before, or stuck at a knot
pub data Run : Type 0 where
  going : State → Run
  stuck : ℕ → Run

abbrev pub landed : ℕ → Option State → Run
landed i (Some x) = going x
landed i None = stuck i

abbrev pub left_by : Run → State
left_by (going x) = left_by_step (Some x)
left_by (stuck i) = left_by_step None

-- number 8 at a knot
abbrev pub stuck_at : ℕ → Refusal
stuck_at i = record { reason = Stuck; place = i }

abbrev pub judged_of : Run → Judged
judged_of (going x) = Ok tt
judged_of (stuck i) = Err (stuck_at i)

module _ (step : State → ℕ → Option State) where
  abbrev pub advance : ℕ → Run → Run
  advance i (going before) = landed i (step before i)
  advance i (stuck j) = stuck j

  -- after the knots below i
  unfoldable pub run_to : ℕ → Run
  run_to zero = going zero_state
  run_to (suc i) = advance i (run_to i)

  -- H and P of knot i
  abbrev pub state_at : ℕ → State
  state_at i = left_by (run_to (suc i))

-- what the logic takes a read past the end of an array of states to give
abbrev pub no_state : State
no_state = record { h = block nan nan nan nan; p = pair nan nan }

-- what the forward pass over n knots answers; the states count only where it was not stuck
pub record Forwarded (step : State → ℕ → Option State) (n : ℕ) (r : Judged) (states : List State) : Type 0 where
  pub answer : r ≡ judged_of (run_to step n)
  pub states_are : (k : ℕ) → r ≡ Ok tt → k < n → get_or states k no_state ≡ state_at step k
