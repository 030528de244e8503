-- Number 8 of document 01's "Numbers of refusal" at one knot: determinant zero or not finite, or an entry of H, P or a
-- pair not finite. Assumes nothing.
use Rattle.std.specs.Prelude.{ℕ, Bool, true, false, ◌&&◌, cond, Float, Option, Some, None}
use Rattle.std.specs.Float.{nan, inf, fin}
use Rattle.std.specs.Float.Ieee.{ne}
use Rattle.rows.specs.declared.Pair.{Pair}
use Rattle.rows.specs.declared.Block.{Block}
use Rattle.rows.specs.declared.Row.{Row}
use Rattle.elimination.specs.declared.System.{System}
use Rattle.elimination.specs.declared.State.{State}
use Rattle.rows.specs.Floats.{f0}
use Rattle.elimination.specs.Elimination.{system, det, state, zero_state}

-- neither an infinity nor a NaN
abbrev pub is_finite : Float → Bool
is_finite nan = false
is_finite (inf sign) = false
is_finite (fin sign m e) = true

abbrev pub both_finite : Pair → Bool
both_finite v = is_finite v.s && is_finite v.c

abbrev pub all_finite : Block → Bool
all_finite m = is_finite m.e11 && (is_finite m.e12 && (is_finite m.e21 && is_finite m.e22))

-- a determinant that is finite and not zero
abbrev pub usable : Float → Bool
usable d = is_finite d && ne d f0

-- 8 is not met at a knot with this determinant, H and P
abbrev pub passed : Float → State → Bool
passed d x = usable d && (both_finite x.p && all_finite x.h)

abbrev pub judged : Float → State → Option State
judged d x = cond (passed d x) (Some x) None

-- P and H with the determinant that they were divided by
unfoldable pub solved : System → Block → Bool → Option State
solved y r last = judged (det y.s) (state y (det y.s) r last)

-- a knot with these equations, once the knot before is eliminated
unfoldable pub eliminated : Row → State → Bool → Bool → Option State
eliminated x before first last = solved (system x before first) x.r last

-- ---- a step in the paper's number and values: 0 with H and P, or 8 with zeros

abbrev pub number_of_step : Option State → ℕ
number_of_step (Some x) = 0
number_of_step None = 8

abbrev pub left_by_step : Option State → State
left_by_step (Some x) = x
left_by_step None = zero_state
