-- What is answered, by what has been tested; and what an answer has passed.
-- Assumes nothing.
use mathlib.Core.Path.{◌≡◌, sym, ◌∙◌, ap}
use mathlib.Core.List.{List}
use Prim.Native.Nat.{ℕ, ◌-◌, ◌*◌, ◌≤◌}
use borrow.Author.Tests.{ltb-false}
use lib.IntN.{ℤ}
use lib.ListN.{length}
use Rattle.answer.specs.Answer.{given, Verdict, accepted, ◌then◌}
use Rattle.answer.proofs.Steps.{then_assoc, first_accepts, next_accepts, refuse_accepts, given_same}
use Rattle.curve.proofs.Accepted.{or_false}
use Rattle.unknowns.specs.Unknowns.{checked}
use Rattle.preheat.specs.Preheat.{fewest_parts, most_parts, parted, past, value, preheat}

-- 25, 11
abbrev pub asked : (n parts count : ℕ) → Verdict
asked n parts count = parted parts then past n parts count

pub record Asked (n parts count : ℕ) : Type 0 where
  pub least : fewest_parts ≤ parts
  pub most : parts ≤ most_parts
  pub within : count ≤ (n - 1) * parts

pub asked_accepts : (n parts count : ℕ) → asked n parts count ≡ accepted → Asked n parts count
unfolding parted past
asked_accepts n parts count e =
    let p = or_false _ _ (refuse_accepts 25 0 _ (first_accepts _ _ e)) in
    record { least = ltb-false _ _ p.0; most = ltb-false _ _ p.1; within = ltb-false _ _ (refuse_accepts 11 0 _ (next_accepts _ _ e)) }

module _ (ys : List ℤ) (parts count : ℕ) where
  -- 25 and 11 in one step
  in_steps : preheat ys parts count ≡ (checked ys then (asked (length ys) parts count then given (value ys parts count)))
  unfolding preheat
  in_steps = ap (λ b. checked ys then b) (sym (then_assoc (parted parts) (past (length ys) parts count) (given (value ys parts count))))

  pub answered : checked ys ≡ accepted → asked (length ys) parts count ≡ accepted → preheat ys parts count ≡ given (value ys parts count)
  unfolding ◌then◌
  answered e f = in_steps ∙ rw (e, f)

  pub record Passed (v : ℤ) : Type 0 where
    pub checks : checked ys ≡ accepted
    pub asks : Asked (length ys) parts count
    pub is : v ≡ value ys parts count

  pub passed : {v : ℤ} → preheat ys parts count ≡ given v → Passed v
  passed {v} e = record { checks = first; asks = asked_accepts (length ys) parts count next; is = sym (given_same (sym (answered first next) ∙ e)) }
    where
      first : checked ys ≡ accepted
      first = first_accepts _ _ (sym in_steps ∙ e)

      next : asked (length ys) parts count ≡ accepted
      next = first_accepts _ _ (next_accepts _ _ (sym in_steps ∙ e))
