-- How large an unknown can be: at most twice the largest value times the scale. From the row of each place; by
-- the recurrence alone it could be some 4 to the power of its place, which does not fit 64 bits.
-- Assumes nothing.
use Prim.Native.Nat.{ℕ, zero, suc, ◌+◌, ◌-◌, ◌*◌, ◌≤◌, ◌<◌}
use mathlib.Core.Path.{◌≡◌, sym, ◌∙◌, ap}
use mathlib.Core.List.{List, [], ◌∷◌}
use native.Mathlib.Nat.{mul_comm, mul_left_comm, mul-add, mul-le-mul_left, le_of_mul-le-mul_right}
use native.Mathlib.Omega.{arith}
use lib.IntN.{ℤ, pos, nat_abs, ◌+ℤ◌, ◌-ℤ◌, ◌*ℤ◌}
use lib.ListN.{length}
use Rattle.whole.specs.Whole.{◌·◌}
use Rattle.whole.proofs.Order.{abs_mul, abs_sub}
use Rattle.whole.proofs.Solve.{var, ◌:+◌, ◌:-◌, ◌:*◌, #}
use Rattle.whole.proofs.Linear.{know≡, prove≡, bounded}
use Rattle.cubic.specs.Cubic.{a, y, scale, δ², sum, unknown, Within}
use Rattle.cubic.proofs.Entries.{before, before_suc, entered, positive}
use Rattle.cubic.proofs.Equations.{row}

-- ---- steps, with t for twice the largest value, x for an entry and b for the one before

-- one more term of the sum
sum_step : (t x b x' c s n : ℕ) → x' + b ≡ 4 * x → c ≤ 2 * t → s + t * b ≤ t * x → n ≤ x * c + s → n + t * x ≤ t * x'
sum_step t x b x' c s n e h k l = omega (
  arith,
  ap (λ m. t * m) e,
  mul-add t x' b,
  mul_left_comm t 4 x,
  mul-le-mul_left x h,
  mul_left_comm x 2 t,
  mul_comm x t,
)

-- what is left of the scale d bounds the next unknown
row_step : (t b x d s z z' : ℕ) → 0 < x → x * z' ≤ d * s + b * z → s + t * b ≤ t * x → z ≤ t * d → z' ≤ t * d
row_step t b x d s z z' p e h k = le_of_mul-le-mul_right {k = x} (omega (
  arith,
  mul-le-mul_left d h,
  mul-add d s (t * b),
  mul-le-mul_left b k,
  mul_left_comm d t b,
  mul_left_comm b t d,
  ap (λ m. t * m) (mul_comm d b),
  mul_left_comm d t x,
  mul_left_comm x t d,
  ap (λ m. t * m) (mul_comm d x),
  mul_comm x z',
  mul_comm x (t * d),
)) p

-- a row by sizes
row_sized : (b x d : ℕ) (s z z' : ℤ) → b · z +ℤ x · z' ≡ d · s → x * nat_abs z' ≤ d * nat_abs s + b * nat_abs z
row_sized b x d s z z' e = rw (← abs_mul (pos x) z', ← abs_mul (pos d) s, ← abs_mul (pos b) z, alone) (abs_sub (d · s) (b · z))
  where
    alone : x · z' ≡ d · s -ℤ b · z
    alone = prove≡ (pos b ∷ pos x ∷ pos d ∷ s ∷ z ∷ z' ∷ []) (λ b x d s z z'. (x :* z', d :* s :- b :* z))
        (omega (arith, know≡ (pos b ∷ pos x ∷ pos d ∷ s ∷ z ∷ z' ∷ []) (λ b x d s z z'. (b :* z :+ x :* z', d :* s)) e))

-- ---- of a table

module _ {most : ℕ} {ys : List ℤ} (within : Within most ys) where
  pub second_difference_size : (i : ℕ) → i + 2 < length ys → nat_abs (δ² ys i) ≤ 4 * most
  unfolding δ²
  second_difference_size i h = omega (
    arith,
    bounded {xs = y ys i ∷ y ys (suc i) ∷ y ys (suc (suc i)) ∷ []} {bs = most ∷ most ∷ most ∷ []}
        (record { each = (within.each i (omega arith), (within.each (suc i) (omega arith), (within.each (suc (suc i)) (omega arith), tt))) })
        (var 0 :- # 2 :* var 1 :+ var 2),
  )

  no_term : nat_abs (pos 0) + 2 * most * before 0 ≤ 2 * most * a 0
  unfolding a before
  no_term = omega arith

  sum_small : (k i : ℕ) → i + k + 2 ≤ length ys → nat_abs (sum ys i k) + 2 * most * before k ≤ 2 * most * a k
  unfolding sum
  sum_small zero i h = no_term
  sum_small (suc k) i h = rw (before_suc k)
      (sum_step (2 * most) (a k) (before k) (a (suc k)) (nat_abs (δ² ys i)) (nat_abs (sum ys (suc i) k)) (nat_abs (a k · δ² ys i -ℤ sum ys (suc i) k))
      (entered k).rule (omega (arith, second_difference_size i (omega arith))) (sum_small k (suc i) (omega arith))
      (omega (arith, abs_sub (a k · δ² ys i) (sum ys (suc i) k), abs_mul (pos (a k)) (δ² ys i))))

  -- as the sum is added, from its last term
  pub sum_size : (k i : ℕ) → i + k + 2 ≤ length ys → nat_abs (sum ys i k) ≤ 2 * most * a k
  sum_size k i h = omega (arith, sum_small k i h)

  pub unknown_size : (i : ℕ) → i < length ys → nat_abs (unknown ys i) ≤ 2 * most * scale ys
  unfolding unknown
  unknown_size zero h = omega arith
  unknown_size (suc i) h =
      let k = length ys - 2 - i in
      row_step (2 * most) (before k) (a k) (scale ys) (nat_abs (sum ys i k)) (nat_abs (unknown ys i)) (nat_abs (unknown ys (suc i))) (positive k)
      (row_sized (before k) (a k) (scale ys) (sum ys i k) (unknown ys i) (unknown ys (suc i)) (row ys i k (omega arith)))
      (sum_small k i (omega arith)) (unknown_size i (omega arith))

pub scale_positive : (ys : List ℤ) → 0 < scale ys
unfolding scale
scale_positive ys = positive (length ys - 2)
