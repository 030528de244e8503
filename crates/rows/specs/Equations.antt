-- A knot's two equations in binary64, after document 01's "The equations" and the first paragraph of "The elimination":
-- the powers of a gap, and the rows of `coefficients` at them, with those that an end replaces. Assumes nothing.
use Rattle.std.specs.Prelude.{ℕ, zero, suc, ℤ, pos, ◌-ℤ◌, Float}
use Rattle.std.specs.Float.{binary64}
use Rattle.std.specs.Float.Ieee.{of_int}
use Rattle.rows.specs.declared.Pair.{Pair}
use Rattle.rows.specs.declared.Block.{Block}
use Rattle.rows.specs.declared.Powers.{Powers}
use Rattle.rows.specs.declared.Gap.{Gap}
use Rattle.rows.specs.declared.Row.{Row}
use Rattle.rows.specs.declared.End.{End}
use Rattle.rows.specs.declared.End.TheVariants.{Free, Both, Curvature}
use Rattle.coefficients.specs.Coefficients
use Rattle.coefficients.specs.Coefficients.{Matrix, Column, Rows, matrix, column}
use Rattle.rows.specs.Floats.{◌⊗◌, ◌⊘◌, f0, f1, floats}

-- (slope, curvature); also a right side or a column
abbrev pub pair : Float → Float → Pair
pair s c = record { s = s; c = c }

-- a matrix by its rows
abbrev pub block : Float → Float → Float → Float → Block
block e11 e12 e21 e22 = record { e11 = e11; e12 = e12; e21 = e21; e22 = e22 }

abbrev pub zeros : Block
zeros = block f0 f0 f0 f0

-- ---- gaps

-- g = 1/h
abbrev pub one_over : ℕ → Float
one_over h = f1 ⊘ of_int binary64 (pos h)

-- g2 = g·g, g3 = g2·g, g4 = g3·g
abbrev pub powers : Float → Powers
powers g = record { g = g; g2 = g ⊗ g; g3 = g ⊗ g ⊗ g; g4 = g ⊗ g ⊗ g ⊗ g }

-- D = next ordinate minus this one
abbrev pub difference : ℤ → ℤ → Float
difference y next = of_int binary64 (next -ℤ y)

-- what a gap of h minutes brings to the equations of the knots beside it
unfoldable pub gap : ℕ → ℤ → ℤ → Gap
gap h y next = record { powers = powers (one_over h); rise = difference y next }

-- at the first knot p, E are 0; at the last g, D are 0
unfoldable pub no_gap : Gap
no_gap = record { powers = powers f0; rise = f0 }

-- ---- rows: those of `coefficients`, in binary64

-- `at g 3` is the document's g3
abbrev pub at : Powers → ℕ → Float
at x zero = f1
at x (suc zero) = x.g
at x (suc (suc zero)) = x.g2
at x (suc (suc (suc zero))) = x.g3
at x (suc (suc (suc (suc n)))) = x.g4

abbrev pub block_of : Matrix Float → Block
block_of m = block m.e11 m.e12 m.e21 m.e22

abbrev pub row_of : Rows Float → Row
row_of x = record { a = block_of x.a; l = block_of x.l; r = block_of x.r; k = pair x.k.s x.k.c }

abbrev pub row : Powers → Float → Powers → Float → Row
row p E g D = row_of (Coefficients.rows floats (at p) E (at g) D)

-- ---- ends

abbrev pub matrix_of : Block → Matrix Float
matrix_of m = matrix m.e11 m.e12 m.e21 m.e22

abbrev pub rows_of : Row → Rows Float
rows_of x = record { a = matrix_of x.a; l = matrix_of x.l; r = matrix_of x.r; k = column x.k.s x.k.c }

abbrev pub second : Block → Float → Float → Block
second m e21 e22 = block_of (Coefficients.second (matrix_of m) e21 e22)

abbrev pub both_given : Float → Float → Row
both_given s c = row_of (Coefficients.both_given floats s c)

abbrev pub curvature_given : Row → Float → Row
curvature_given x c = row_of (Coefficients.curvature_given floats (rows_of x) c)

-- "code 0, free"; "code 1, slope and curvature given"; "code 2, curvature alone given"
abbrev pub code : End → ℕ
code Free = 0
code (Both slope curvature) = 1
code (Curvature curvature) = 2

-- the numbers that an end gives, zeros for those that it does not
abbrev pub given : End → Column Float
given Free = column f0 f0
given (Both slope curvature) = column slope curvature
given (Curvature curvature) = column f0 curvature

abbrev pub replaced : Row → End → Row
replaced x end = row_of (Coefficients.replaced floats (code end) (given end) (rows_of x))

-- the equations of a knot with these gaps on its left and right; an inner knot keeps both rows, as a free end does
unfoldable pub equations : Gap → Gap → End → Row
equations p g end = replaced (row p.powers p.rise g.powers g.rise) end
