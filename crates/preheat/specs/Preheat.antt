-- Document 02, order 10, "The cubic for the pre-heater": the value at a whole count of parts from the first
-- value of a table, and what is refused. Assumes nothing.
use Rattle.std.specs.Prelude.{ℕ, ◌-◌, ◌*◌, ◌/◌, ◌^◌, ◌≤◌, ◌<◌, min, ◌||◌, List, ℤ, pos, nat_abs, ◌+ℤ◌, ◌-ℤ◌, ◌*ℤ◌, ltb, ◌≤ℤ◌, length}
use Rattle.whole.specs.Whole.{nearest}
use Rattle.answer.specs.Answer.{Answer, refused, given, Verdict, ◌then◌, refuse}
use Rattle.curve.specs.Formula.{worth}
use Rattle.curve.specs.Kind.{quintic}
use Rattle.cubic.specs.Cubic.{between, denominator, largest}
use Rattle.unknowns.specs.Unknowns.{checked}
use Rattle.preheat.specs.declared.Heated.{Heated}

-- "2 to 60 parts to a step": the pre-heater's own, which no limit of a card moves
abbrev pub fewest_parts : ℕ
fewest_parts = 2

abbrev pub most_parts : ℕ
most_parts = 60

-- ---- the value

-- the step that a count of parts falls into, of a table of n values: an inner value belongs to the step on its
-- right, the last value to the last step
unfoldable pub step : (n parts count : ℕ) → ℕ
step n parts count = min (count / parts) (n - 2)

-- the exact cubic there, over `denominator`
unfoldable pub numerator : List ℤ → (parts count : ℕ) → ℤ
numerator ys parts count =
    let i = step (length ys) parts count in
    worth (between ys parts i) (pos (count - i * parts))

-- "ties to even"
unfoldable pub value : List ℤ → (parts count : ℕ) → ℤ
value ys parts count = nearest (numerator ys parts count) (denominator ys parts)

-- ---- the order

-- "25 for a part count not 2 to 60"
unfoldable pub parted : ℕ → Verdict
parted parts = refuse 25 0 (ltb parts fewest_parts || ltb most_parts parts)

-- "11 past the last value", which itself passes
unfoldable pub past : (n parts count : ℕ) → Verdict
past n parts count = refuse 11 0 (ltb ((n - 1) * parts) count)

-- "order 1, 24, 6, 25, 11"
unfoldable pub preheat : List ℤ → (parts count : ℕ) → Answer ℤ
preheat ys parts count =
    checked ys
    then parted parts
    then past (length ys) parts count
    then given (value ys parts count)

-- zeros beside a refusal
abbrev pub heated : Answer ℤ → Heated
heated (refused n p) = record { number = n; place = p; value = pos 0 }
heated (given v) = record { number = 0; place = 0; value = v }

-- ---- inside

-- how much an unknown counts, r of q parts from the other value
abbrev pub weight : (q r : ℤ) → ℤ
weight q r = q *ℤ q *ℤ r -ℤ r *ℤ r *ℤ r

-- the straight line between two values, q³ times
abbrev pub line : (q r y y' : ℤ) → ℤ
line q r y y' = q *ℤ q *ℤ (y *ℤ (q -ℤ r) +ℤ y' *ℤ r)

-- what is left of it, or of some multiple, under two unknowns by their weights
abbrev pub bent : (x w w' z z' : ℤ) → ℤ
bent x w w' z z' = x -ℤ w *ℤ z -ℤ w' *ℤ z'

-- the bounds of the arithmetic, from the limits
abbrev pub most_cube : ℕ
most_cube = most_parts * most_parts * most_parts

abbrev pub most_level : ℕ
most_level = 10 * quintic.ordinates * most_cube

pub record InLeft (z d f : ℤ) : Type 0 where
  pub z_in : nat_abs z < 2 ^ 62
  pub d_in : nat_abs d < 2 ^ 62
  pub f_in : nat_abs f < 2 ^ 62
  pub product_in : nat_abs (d *ℤ f) < 2 ^ 62

-- two weights, and what is weighed by them
pub record InWeights (w w' z z' : ℤ) : Type 0 where
  pub w_in : nat_abs w ≤ 2 * most_cube
  pub w'_in : nat_abs w' ≤ 2 * most_cube
  pub z_in : nat_abs z ≤ largest
  pub z'_in : nat_abs z' ≤ largest

pub record InBend (x w w' z z' : ℤ) : Type 0 where
  pub x_in : nat_abs x ≤ largest * most_cube
  pub weights : InWeights w w' z z'

-- with a·q³ below
pub record InLevel (a cube level w w' z z' : ℤ) : Type 0 where
  pub a_low : pos 1 ≤ℤ a
  pub a_high : a ≤ℤ pos largest
  pub cube_low : pos 1 ≤ℤ cube
  pub cube_high : cube ≤ℤ pos most_cube
  pub level_in : nat_abs level ≤ most_level
  pub weights : InWeights w w' z z'

pub record InStep (a q r y y' z z' : ℤ) : Type 0 where
  pub a_low : pos 1 ≤ℤ a
  pub a_high : a ≤ℤ pos largest
  pub q_low : pos 1 ≤ℤ q
  pub q_high : q ≤ℤ pos most_parts
  pub r_low : pos 0 ≤ℤ r
  pub r_high : r ≤ℤ q
  pub y_in : nat_abs y ≤ quintic.ordinates
  pub y'_in : nat_abs y' ≤ quintic.ordinates
  pub z_in : nat_abs z ≤ 2 * quintic.ordinates * nat_abs a
  pub z'_in : nat_abs z' ≤ 2 * quintic.ordinates * nat_abs a
