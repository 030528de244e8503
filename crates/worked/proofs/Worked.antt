-- From the two passes and the numbers worked out of their pairs to a fit's definition, of either job. Assumes nothing.
use Prim.Native.Nat.{ℕ, ◌<◌, ◌≤◌}
use native.Mathlib.Omega.{arith}
use mathlib.Core.Path.{◌≡◌, sym, ap, ap₂, ◌∙◌}
use mathlib.Core.Bool.{true}
use mathlib.Core.List.{List}
use lib.Dec.{lit<}
use lib.IntN.{ℤ}
use lib.ListN.{length, get_or}
use Rattle.std.specs.Prelude.{Ok, Err}
use Rattle.answer.specs.Answer.{Answer, refused, ◌then◌}
use Rattle.answer.specs.Judge.{number_of}
use Rattle.answer.specs.declared.Refusal.{Refusal}
use Rattle.curve.specs.Kind.{quintic, sloped}
use Rattle.curve.specs.Card.{Card}
use Rattle.front.specs.Front.{listed}
use Rattle.front.proofs.Filled.{front_over}
use Rattle.rows.specs.declared.Pair.{Pair}
use Rattle.rows.specs.Equations.{code}
use Rattle.elimination.specs.Refusal.{both_finite}
use Rattle.passes.specs.declared.Job.{Job}
use Rattle.passes.specs.declared.Job.TheVariants.{Ends, Slopes}
use Rattle.passes.specs.Sheet.{most}
use Rattle.passes.specs.Jobs.{step_by, turn_by}
use Rattle.passes.specs.Back.{no_pair}
use Rattle.passes.specs.Passes.{Solved, pairs_in, verdict_in, passes}
use Rattle.passes.proofs.Answers.{pairs_finite}
use Rattle.units.specs.Units.{held}
use Rattle.numbers.specs.declared.Numbers.{Numbers}
use Rattle.numbers.specs.Numbers.{slope_at, curvature_at, scaled}
use Rattle.worked.specs.Jobs.{tested, kind_by, solved_by, card_by, card_with, worked, numbers_by}
use Rattle.worked.proofs.Held.{both_held, curvatures_held}

module _ (xs : List ℕ) (ys ms : List ℤ) (job : Job) where
  -- 9, 10, of these slopes and curvatures
  abbrev tested_by : List ℤ → List ℤ → Answer Card
  tested_by slopes curvatures = tested (kind_by job) (card_by xs ys ms job slopes curvatures)

  -- 8, and then of the pairs
  abbrev tested_of : Solved → Answer Card
  tested_of s = verdict_in s then tested_by (listed (slope_at (pairs_in s)) (length xs)) (listed (curvature_at (pairs_in s)) (length xs))

-- numbers that are held at the farthest answer as those of the definition
held_by : (xs : List ℕ) (ys ms : List ℤ) (job : Job) (P Q : ℕ → ℤ)
    → tested_by xs ys ms job (listed (λ k. held (P k)) (length xs)) (listed (λ k. held (Q k)) (length xs)) ≡ tested_by xs ys ms job (listed P (length xs)) (listed Q (length xs))
unfolding quintic sloped
held_by xs ys ms (Ends left right) P Q = both_held quintic (lit< tt) (λ gap. lit< tt) xs ys (code left) (code right) P Q
held_by xs ys ms Slopes P Q = curvatures_held sloped (lit< tt) (λ gap. lit< tt) xs ys 0 0 ms Q

module _ (xs : List ℕ) (ys ms : List ℤ) (job : Job) {p : Solved} (is : p ≡ passes (step_by xs ys ms job) (turn_by job) (length xs)) where
  pub refused_8 : {e : Refusal} → p ≡ Err e → refused (number_of e.reason) e.place ≡ worked xs ys ms job
  unfolding worked solved_by ◌then◌
  refused_8 z = sym (ap (tested_of xs ys ms job) (sym is ∙ z))

  module _ {pairs : List Pair} (z : p ≡ Ok pairs) where
    pub all_finite : length xs ≤ most → (k : ℕ) → k < length xs → both_finite (get_or pairs k no_pair) ≡ true
    all_finite few k h =
        ap (λ s. both_finite (get_or (pairs_in s) k no_pair)) (sym z ∙ is) ∙ pairs_finite (step_by xs ys ms job) (turn_by job) (length xs) k (omega arith)

    -- the numbers that were worked out of the pairs
    pub numbers_are : {x : Numbers} → x ≡ scaled pairs (length xs) → x ≡ numbers_by xs ys ms job
    unfolding numbers_by solved_by
    numbers_are e = e ∙ ap (λ s. scaled (pairs_in s) (length xs)) (sym z ∙ is)

    -- and the card that they make
    pub worked_out : {x : Numbers} → x ≡ numbers_by xs ys ms job → tested (kind_by job) (card_with xs ys ms job x) ≡ worked xs ys ms job
    unfolding worked numbers_by solved_by ◌then◌
    worked_out e =
        let n = length xs in
        let all = pairs_in (passes (step_by xs ys ms job) (turn_by job) n) in
        ap (λ x. tested (kind_by job) (card_with xs ys ms job x)) e
        ∙ ap₂ (tested_by xs ys ms job) (front_over _ n _) (front_over _ n _)
        ∙ held_by xs ys ms job (slope_at all) (curvature_at all)
        ∙ sym (ap (λ s. verdict_in s then tested_by xs ys ms job (listed (slope_at all) n) (listed (curvature_at all) n)) (sym is ∙ z))
