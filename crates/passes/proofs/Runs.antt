-- How the forward pass goes on, that it stays stuck, and that it sees nothing of what is done at a knot but the steps
-- themselves. Assumes nothing.
use Prim.Native.Nat.{ℕ, zero, suc, ◌≤◌, ◌<◌}
use native.Mathlib.Nat.{le_of_lt}
use native.Mathlib.Decide.{le_ind}
use mathlib.Core.Path.{◌≡◌, refl, sym, ap, ap₂, ◌∙◌}
use mathlib.Core.List.{List}
use lib.ListN.{length}
use lib.IntN.{ℤ}
use Rattle.rows.specs.declared.Gap.{Gap}
use Rattle.elimination.specs.declared.State.{State}
use Rattle.std.specs.Prelude.{Option, None, Err}
use Rattle.passes.specs.declared.Job.{Job}
use Rattle.passes.specs.declared.Job.TheVariants.{Ends, Slopes}
use Rattle.passes.specs.Sheet.{knot_between, line_between, left_gap, right_gap, knot_at, line_at}
use Rattle.passes.specs.Jobs.{between_by, step_by}
use Rattle.passes.specs.Forward.{Run, going, stuck, stuck_at, judged_of, landed, advance, run_to}

module _ (step : State → ℕ → Option State) where
  pub goes_on : (i : ℕ) (before : State) (x : Option State) → run_to step i ≡ going before → x ≡ step before i → run_to step (suc i) ≡ landed i x
  unfolding run_to
  goes_on i before x e f = ap (advance step i) e ∙ ap (landed i) (sym f)

  pub stays_stuck : (i j : ℕ) → run_to step i ≡ stuck j → (n : ℕ) → i ≤ n → run_to step n ≡ stuck j
  unfolding run_to
  stays_stuck i j e n h = le_ind (λ (m : ℕ). run_to step m ≡ stuck j) e (λ m p f. ap (advance step m) f) n h

  pub stuck_here : (i n : ℕ) (before : State) → run_to step i ≡ going before → None ≡ step before i → i < n → Err (stuck_at i) ≡ judged_of (run_to step n)
  stuck_here i n before e f h = sym (ap judged_of (stays_stuck (suc i) i (goes_on i before None e f) n h))

module _ (step step' : State → ℕ → Option State) (n : ℕ) (same : (before : State) (i : ℕ) → i < n → step before i ≡ step' before i) where
  advance_same : (i : ℕ) → i < n → (r : Run) → advance step i r ≡ advance step' i r
  advance_same i h (going before) = ap (landed i) (same before i h)
  advance_same i h (stuck j) = refl

  pub run_same : (i : ℕ) → i ≤ n → run_to step i ≡ run_to step' i
  unfolding run_to
  run_same zero h = refl
  run_same (suc i) h = ap (advance step i) (run_same i (le_of_lt h)) ∙ advance_same i h (run_to step' i)

-- a knot between the gaps on its left and right, of either job
pub knot_is : (minutes : List ℕ) (ordinates slopes : List ℤ) (job : Job) (p g : Gap) (before : State) (i : ℕ)
    → length slopes ≡ length minutes → p ≡ left_gap minutes ordinates i → g ≡ right_gap minutes ordinates i
    → between_by slopes job p g before i ≡ step_by minutes ordinates slopes job before i
unfolding knot_at line_at
knot_is minutes ordinates slopes (Ends left right) p g before i n e f =
    ap₂ (λ (x y : Gap). knot_between (length slopes) left right x y before i) e f
    ∙ ap (λ (k : ℕ). knot_between k left right (left_gap minutes ordinates i) (right_gap minutes ordinates i) before i) n
knot_is minutes ordinates slopes Slopes p g before i n e f = ap₂ (λ (x y : Gap). line_between slopes x y before i) e f
