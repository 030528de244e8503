-- What an answer is: within half a hundredth of the exact cubic, even at a half; at the values, the value; and
-- no larger than three times the largest value.
-- Assumes nothing.
use mathlib.Core.Path.{◌≡◌, ◌∙◌, ap}
use mathlib.Core.List.{List}
use Prim.Native.Nat.{ℕ, suc, ◌+◌, ◌-◌, ◌*◌, ◌/◌, ◌≤◌, ◌<◌}
use native.Mathlib.Decide.{dec_le}
use native.Mathlib.Nat.{lt_of_not-le, mul-div_cancel, mul-le-mul_right, sub_self, suc-mul, min-eq_left, min-eq_right}
use native.Mathlib.Omega.{arith}
use borrow.Author.Tests.{le-ltb}
use lib.IntN.{ℤ, pos, nat_abs, *ℤ_comm}
use lib.ListN.{length}
use Rattle.whole.specs.Whole.{◌·◌, nearest}
use Rattle.whole.proofs.Rounding.{Nearest, nearest_is, nearest_exact}
use Rattle.answer.specs.Answer.{given, accepted, ◌then◌, refuse}
use Rattle.curve.specs.Formula.{worth}
use Rattle.curve.specs.Kind.{quintic}
use Rattle.cubic.specs.Cubic.{y, between, denominator}
use Rattle.cubic.proofs.Smooth.{spline}
use Rattle.unknowns.specs.Unknowns.{checked, Sound}
use Rattle.unknowns.proofs.Ranges.{sound}
use Rattle.preheat.specs.Preheat.{fewest_parts, most_parts, step, numerator, value, parted, past, preheat}
use Rattle.preheat.proofs.Counts.{denominator_positive, value_size}
use Rattle.preheat.proofs.Readings.{asked, Asked, passed, answered}

module _ (ys : List ℤ) (parts count : ℕ) (v : ℤ) (e : preheat ys parts count ≡ given v) where
  pub near : Nearest (numerator ys parts count) (denominator ys parts) v
  unfolding value
  near = rw (passed ys parts count e).is (nearest_is _ _ (denominator_positive ys parts (omega (arith, (passed ys parts count e).asks.least))))

  pub small : nat_abs v ≤ 3 * quintic.ordinates
  small = rw (passed ys parts count e).is (value_size (sound (passed ys parts count e).checks) (passed ys parts count e).asks.least (passed ys parts count e).asks.within)

-- ---- at the values

asks : (n parts count : ℕ) → Asked n parts count → asked n parts count ≡ accepted
unfolding parted past refuse ◌then◌
asks n parts count a = rw (le-ltb parts fewest_parts a.least, le-ltb most_parts parts a.most, le-ltb ((n - 1) * parts) count a.within)

module _ (ys : List ℤ) (parts i : ℕ) (p : 0 < parts) (t : Sound ys) (h : i < length ys) where
  n : 2 ≤ length ys
  unfolding quintic
  n = omega (arith, t.least)

  at_step : i * parts / parts ≡ i
  at_step = mul-div_cancel i p

  -- on the step from there, or on the one to there
  pub there : numerator ys parts (i * parts) ≡ denominator ys parts · y ys i
  unfolding numerator step
  there = elim (dec_le i (length ys - 2)) [
    | yes k ↦ rw (at_step, min-eq_left k, sub_self (i * parts)) ((spline ys parts n).from i (omega (arith, n, k)))
    | no k ↦ rw (at_step, min-eq_right (before (lt_of_not-le k))) (last (length ys - 2) (omega (arith, n)) (is_last (lt_of_not-le k)))
  ]
    where
      before : length ys - 2 < i → length ys - 2 ≤ i
      before k = omega arith

      is_last : length ys - 2 < i → i ≡ suc (length ys - 2)
      is_last k = omega (arith, h, n)

      last : (j : ℕ) → j + 1 < length ys → i ≡ suc j → worth (between ys parts j) (pos (i * parts - j * parts)) ≡ denominator ys parts · y ys i
      last j l e = rw (e, one_step) ((spline ys parts n).to j l)
        where
          one_step : suc j * parts - j * parts ≡ parts
          one_step = omega (arith, suc-mul j parts)

  exact : value ys parts (i * parts) ≡ y ys i
  unfolding value
  exact = ap (λ z. nearest z (denominator ys parts)) (there ∙ *ℤ_comm (pos (denominator ys parts)) (y ys i)) ∙ nearest_exact (y ys i) (denominator ys parts) (denominator_positive ys parts p)

pub at_values : (ys : List ℤ) (parts i : ℕ) → checked ys ≡ accepted → fewest_parts ≤ parts → parts ≤ most_parts → i < length ys → preheat ys parts (i * parts) ≡ given (y ys i)
at_values ys parts i e g h l =
    answered ys parts (i * parts) e (asks (length ys) parts (i * parts) (record { least = g; most = h; within = mul-le-mul_right parts up_to }))
    ∙ ap given (exact ys parts i (omega (arith, g)) (sound e) l)
  where
    up_to : i ≤ length ys - 1
    up_to = omega arith
