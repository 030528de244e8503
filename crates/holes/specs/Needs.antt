-- What the functions here ask of their callers.
-- Assumes nothing.
use Rattle.std.specs.Prelude.{ℕ, ◌≤◌, ◌<◌, ◌≡◌, true, List, ℤ, pos, nat_abs, length, get_or}
use Rattle.curve.specs.Kind.{quintic}
use Rattle.holes.specs.declared.Fill.{Fill}
use Rattle.holes.specs.declared.Fill.TheVariants.{Zero, Line}
use Rattle.holes.specs.Hole.{hole_at, before, left_of, right_of}

-- the places of an array: those of a card
abbrev pub most : ℕ
most = 64

-- two ordinates in range, and minutes of 16 bits on either side
pub record Weighed (y : ℤ) (u : ℕ) (z : ℤ) (v : ℕ) : Type 0 where
  pub y_in : nat_abs y ≤ quintic.ordinates
  pub z_in : nat_abs z ≤ quintic.ordinates
  pub u_in : u ≤ 65535
  pub v_in : v ≤ 65535
  pub some : 0 < v

-- knot i stands between two sound knots
pub record Between (xs : List ℕ) (ys : List ℤ) (i : ℕ) : Type 0 where
  pub left_is : 0 < before ys i
  pub left_in : before ys i ≤ i
  pub right_is : right_of ys i < length ys
  pub y_in : nat_abs (get_or ys (left_of ys i) (pos 0)) ≤ quintic.ordinates
  pub z_in : nat_abs (get_or ys (right_of ys i) (pos 0)) ≤ quintic.ordinates
  pub rises : get_or xs (left_of ys i) 0 < get_or xs i 0
  pub rises_on : get_or xs i 0 < get_or xs (right_of ys i) 0

-- a line is asked for only between sound knots
abbrev pub Fillable : Fill → List ℕ → List ℤ → Type 0
Fillable Zero xs ys = Unit {0}
Fillable Line xs ys = (i : ℕ) → i < length ys → hole_at ys i ≡ true → Between xs ys i
