-- The nearest sound knots beside a knot: how the loops find them, that they are sound, and where they stand.
-- Assumes nothing.
use Prim.Native.Nat.{ℕ, zero, suc, ◌+◌, ◌-◌, ◌≤◌, ◌<◌}
use native.Mathlib.Omega.{arith}
use native.Mathlib.Numerals.{add-one}
use mathlib.Core.Path.{◌≡◌, refl}
use mathlib.Core.Bool.{Bool, true, false, cond}
use mathlib.Core.List.{List}
use lib.IntN.{ℤ}
use Rattle.holes.specs.Hole.{hole_at, before, after}

module _ (ys : List ℤ) where
  pub before_hole : (i : ℕ) → hole_at ys i ≡ true → before ys (i + 1) ≡ before ys i
  unfolding before
  before_hole i e = rw add-one (simp e)

  pub before_sound : (i : ℕ) → hole_at ys i ≡ false → before ys (i + 1) ≡ i + 1
  unfolding before
  before_sound i e = rw add-one (simp e)

  pub before_first : (i : ℕ) → i ≤ 0 → before ys i ≡ 0
  unfolding before
  before_first zero h = refl
  before_first (suc i) h = absurd (omega arith)

  pub after_hole : (i n : ℕ) → i < n → hole_at ys i ≡ true → after ys i (n - i) ≡ after ys (i + 1) (n - (i + 1))
  unfolding after
  after_hole i n h e =
      let less : n - i ≡ suc (n - suc i) = omega arith in
      rw (add-one, less) (simp e)

  pub after_sound : (i n : ℕ) → i < n → hole_at ys i ≡ false → after ys i (n - i) ≡ i
  unfolding after
  after_sound i n h e =
      let less : n - i ≡ suc (n - suc i) = omega arith in
      rw less (simp e)

  pub after_last : (i n : ℕ) → n ≤ i → after ys i (n - i) ≡ i
  unfolding after
  after_last i n h =
      let none : n - i ≡ 0 = omega arith in
      rw none

  pub before_in : (i : ℕ) → before ys i ≤ i
  unfolding before
  before_in zero = omega arith
  before_in (suc i) = go (hole_at ys i) (before_in i)
    where
      go : (t : Bool) → before ys i ≤ i → cond t (before ys i) (suc i) ≤ suc i
      go true h = omega arith
      go false h = omega arith

  pub before_is_sound : (i : ℕ) → 0 < before ys i → hole_at ys (before ys i - 1) ≡ false
  unfolding before
  before_is_sound zero h = absurd (omega arith)
  before_is_sound (suc i) h = go (hole_at ys i) refl (before_is_sound i) h
    where
      go : (t : Bool) → hole_at ys i ≡ t → (0 < before ys i → hole_at ys (before ys i - 1) ≡ false) → 0 < cond t (before ys i) (suc i) → hole_at ys (cond t (before ys i) (suc i) - 1) ≡ false
      go true e f h = f h
      go false e f h =
          let one : suc i - 1 ≡ i = omega arith in
          rw one e

  pub after_in : (i k : ℕ) → i ≤ after ys i k
  unfolding after
  after_in i zero = omega arith
  after_in i (suc k) = go (hole_at ys i) (after_in (suc i) k)
    where
      go : (t : Bool) → suc i ≤ after ys (suc i) k → i ≤ cond t (after ys (suc i) k) i
      go true h = omega arith
      go false h = omega arith

  pub after_is_sound : (i k : ℕ) → after ys i k < i + k → hole_at ys (after ys i k) ≡ false
  unfolding after
  after_is_sound i zero h = absurd (omega arith)
  after_is_sound i (suc k) h = go (hole_at ys i) refl (after_is_sound (suc i) k) h
    where
      go : (t : Bool) → hole_at ys i ≡ t → (after ys (suc i) k < suc i + k → hole_at ys (after ys (suc i) k) ≡ false) → cond t (after ys (suc i) k) i < i + suc k → hole_at ys (cond t (after ys (suc i) k) i) ≡ false
      go true e f h = f (omega arith)
      go false e f h = e
