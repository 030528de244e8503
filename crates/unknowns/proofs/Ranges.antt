-- What 1, 24 and 6 leave, and the sizes of what is computed then, as the machine's intervals.
-- Assumes nothing.
use mathlib.Core.Path.{◌≡◌}
use mathlib.Core.List.{List}
use Prim.Native.Nat.{ℕ, ◌+◌, ◌-◌, ◌*◌, ◌≤◌, ◌<◌}
use native.Mathlib.Nat.{le_trans, mul-le-mul_left}
use native.Mathlib.Omega.{arith}
use borrow.Author.Tests.{ltb-false}
use lib.IntN.{ℤ, pos}
use lib.ListN.{length}
use Rattle.whole.specs.Whole.{beyond}
use Rattle.whole.proofs.Order.{ℕ_le}
use Rattle.whole.proofs.Interval.{◌∈◌, ◌to◌, ±, ∈_abs}
use Rattle.answer.specs.Answer.{accepted}
use Rattle.answer.proofs.Steps.{first_accepts, next_accepts, refuse_accepts, each_accepts}
use Rattle.curve.specs.Kind.{quintic}
use Rattle.cubic.specs.Cubic.{most_values, a, scale, δ², sum, unknown, largest}
use Rattle.cubic.proofs.Entries.{positive}
use Rattle.cubic.proofs.Sizes.{second_difference_size, sum_size, unknown_size}
use Rattle.cubic.proofs.Table.{entry_most}
use Rattle.unknowns.specs.Unknowns.{counted, in_range, checked, Sound}

pub sound : {ys : List ℤ} → checked ys ≡ accepted → Sound ys
unfolding checked counted in_range beyond
sound {ys} e =
    record {
      least = ltb-false _ _ (refuse_accepts 1 0 _ (first_accepts _ _ (first_accepts _ _ e)));
      most = ltb-false _ _ (refuse_accepts 24 0 _ (next_accepts _ _ (first_accepts _ _ e)));
      within = record { each = λ i h. ltb-false _ _ (refuse_accepts 6 i _ (each_accepts _ 0 (length ys) (next_accepts _ _ e) i (omega arith) (omega arith))) };
    }

-- the most that a sum or an unknown can be
abbrev pub most_unknown : ℕ
most_unknown = 2 * quintic.ordinates * largest

pub entry_in : (k : ℕ) → k + 2 ≤ most_values → pos (a k) ∈ pos 1 to pos largest
entry_in k h = record { low = ℕ_le (omega (arith, positive k)); high = ℕ_le (omega (arith, entry_most k h)) }

module _ {ys : List ℤ} (s : Sound ys) where
  -- its scale is an entry
  pub entered : length ys - 2 + 2 ≤ most_values
  unfolding quintic
  entered = omega (arith, s.least, s.most)

  pub scale_in : pos (scale ys) ∈ pos 1 to pos largest
  unfolding scale
  scale_in = entry_in (length ys - 2) entered

  pub difference_in : (i : ℕ) → i + 2 < length ys → δ² ys i ∈ ± (4 * quintic.ordinates)
  difference_in i h = ∈_abs (second_difference_size s.within i h)

  pub sum_in : (i k : ℕ) → i + k + 2 ≤ length ys → sum ys i k ∈ ± most_unknown
  sum_in i k h = ∈_abs (le_trans (sum_size s.within k i h) (mul-le-mul_left (2 * quintic.ordinates) (entry_most k (omega (arith, s.most)))))

  pub unknown_in : (i : ℕ) → i < length ys → unknown ys i ∈ ± most_unknown
  unfolding scale
  unknown_in i h = ∈_abs (le_trans (unknown_size s.within i h) (mul-le-mul_left (2 * quintic.ordinates) (entry_most (length ys - 2) entered)))
