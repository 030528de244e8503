-- One knot of the elimination, after points 1 to 3 of document 01's "The elimination, rounded once per operation".
-- Assumes nothing.
use Rattle.std.specs.Prelude.{Float, Bool, cond}
use Rattle.rows.specs.declared.Pair.{Pair}
use Rattle.rows.specs.declared.Block.{Block}
use Rattle.rows.specs.declared.Row.{Row}
use Rattle.elimination.specs.declared.System.{System}
use Rattle.elimination.specs.declared.State.{State}
use Rattle.rows.specs.Floats.{◌⊖◌, ◌⊗◌, ◌⊘◌, f0}
use Rattle.rows.specs.Equations.{pair, block, zeros}
use Rattle.rows.specs.Matrices.{◌times◌, ◌on◌, ◌less◌, ◌minus◌}

-- ---- 1

-- S = A, t = k
abbrev pub own : Row → System
own x = record { s = x.a; t = x.k }

-- S = A − L-as-H and t = k − L-as-P, with H and P of the knot before
abbrev pub reduced : Row → State → System
reduced x before = record { s = x.a less x.l times before.h; t = x.k minus x.l on before.p }

unfoldable pub system : Row → State → Bool → System
system x before first = cond first (own x) (reduced x before)

-- ---- 2

-- s11·s22 − s12·s21
abbrev pub det : Block → Float
det s = s.e11 ⊗ s.e22 ⊖ s.e12 ⊗ s.e21

-- ((s22·r1 − s12·r2)/det, (s11·r2 − s21·r1)/det)
abbrev pub solution : Block → Float → Float → Float → Pair
solution s d r1 r2 = pair ((s.e22 ⊗ r1 ⊖ s.e12 ⊗ r2) ⊘ d) ((s.e11 ⊗ r2 ⊖ s.e21 ⊗ r1) ⊘ d)

-- the matrix with these columns
abbrev pub beside : Pair → Pair → Block
beside u v = block u.s v.s u.c v.c

-- H solves the columns of R
abbrev pub columns : Block → Float → Block → Block
columns s d r = beside (solution s d r.e11 r.e21) (solution s d r.e12 r.e22)

-- P solves t; H not at the last knot, where zeros stand for it
abbrev pub state : System → Float → Block → Bool → State
state y d r last = record { h = cond last zeros (columns y.s d r); p = solution y.s d y.t.s y.t.c }

abbrev pub zero_pair : Pair
zero_pair = pair f0 f0

abbrev pub zero_state : State
zero_state = record { h = zeros; p = zero_pair }

-- ---- 3

-- P − H·(next pair)
abbrev pub backward : State → Pair → Pair
backward x next = x.p minus x.h on next
