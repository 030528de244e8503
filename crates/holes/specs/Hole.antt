-- Holes in a sheet, and the straight line that fills them: document 02, order 1.
-- Assumes nothing.
use Rattle.std.specs.Prelude.{ℕ, zero, suc, ◌+◌, ◌-◌, Bool, false, cond, ◌&&◌, ◌||◌, List, ℤ, pos, negsuc, ◌+ℤ◌, ◌*ℤ◌, eqb, leb, length, get_or}
use Rattle.whole.specs.Whole.{nearest, minus}
use Rattle.answer.specs.Answer.{Verdict, refuse}
use Rattle.front.specs.Front.{listed}
use Rattle.holes.specs.declared.Fill.{Fill}
use Rattle.holes.specs.declared.Fill.TheVariants.{Zero, Line}

-- "a hole written as −32,768"
abbrev pub hole : ℤ
hole = minus 32_768

unfoldable pub is_hole : ℤ → Bool
is_hole (pos n) = false
is_hole (negsuc n) = eqb (suc n) 32_768

-- "the straight line between" an ordinate y, v minutes before, and an ordinate z, u minutes behind, "rounded to nearest, ties to even": its value, once
unfoldable pub line : (y : ℤ) (u : ℕ) (z : ℤ) (v : ℕ) → ℤ
line y u z v = nearest (y *ℤ pos u +ℤ z *ℤ pos v) (u + v)

module _ (ys : List ℤ) where
  unfoldable pub hole_at : ℕ → Bool
  hole_at i = is_hole (get_or ys i (pos 0))

  -- one past the nearest sound knot before i; 0 where there is none
  unfoldable pub before : ℕ → ℕ
  before zero = 0
  before (suc i) = cond (hole_at i) (before i) (suc i)

  -- the nearest sound knot among i and the k − 1 behind it; i + k where there is none
  unfoldable pub after : ℕ → ℕ → ℕ
  after i zero = i
  after i (suc k) = cond (hole_at i) (after (suc i) k) i

  -- "the nearest sound knots left and right": sound as the sheet came
  unfoldable pub left_of : ℕ → ℕ
  left_of i = before i - 1

  unfoldable pub right_of : ℕ → ℕ
  right_of i = after (suc i) (length ys - suc i)

  -- "17, a hole with no sound knot on one side, at that hole"
  unfoldable pub bridged : ℕ → Verdict
  bridged i = refuse 17 i (hole_at i && (eqb (before i) 0 || leb (length ys) (right_of i)))

  -- how many of the first i knots are holes
  unfoldable pub holes_to : ℕ → ℕ
  holes_to zero = 0
  holes_to (suc i) = holes_to i + cond (hole_at i) 1 0

  unfoldable pub holes : ℕ
  holes = holes_to (length ys)

module _ (xs : List ℕ) (ys : List ℤ) where
  -- the line at knot i
  unfoldable pub line_at : ℕ → ℤ
  line_at i =
      let l = left_of ys i in
      let r = right_of ys i in
      line (get_or ys l (pos 0)) (get_or xs r 0 - get_or xs i 0) (get_or ys r (pos 0)) (get_or xs i 0 - get_or xs l 0)

  unfoldable pub put_at : Fill → ℕ → ℤ
  put_at Zero i = pos 0
  put_at Line i = line_at i

  -- what stands at knot i: sound knots stay
  unfoldable pub filled_at : Fill → ℕ → ℤ
  filled_at fill i = cond (hole_at ys i) (put_at fill i) (get_or ys i (pos 0))

  unfoldable pub filled : Fill → List ℤ
  filled fill = listed (filled_at fill) (length ys)

  -- the mended sheet
  abbrev pub mended : List ℤ
  mended = filled Line

  -- "The per-knot check 6 passes the hole mark in this tool only": it sees a 0 there
  abbrev pub passable : List ℤ
  passable = filled Zero
