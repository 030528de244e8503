-- The line between two sound knots: within the ordinates' range, and so within its width.
-- Assumes nothing.
use Prim.Native.Nat.{ℕ, ◌+◌, ◌-◌, ◌*◌, ◌≤◌, ◌<◌}
use native.Mathlib.Omega.{arith}
use native.Mathlib.Nat.{mul-le-mul_right}
use mathlib.Core.List.{List}
use lib.IntN.{ℤ, pos, nat_abs, ◌+ℤ◌, ◌*ℤ◌}
use lib.ListN.{get_or}
use mir.Syntax.{w16}
use mir.Val.{SFits}
use Rattle.whole.proofs.Order.{abs_mul, abs_add}
use Rattle.whole.proofs.Linear.{abs_fits}
use Rattle.whole.proofs.Rounding.{nearest_most}
use Rattle.curve.specs.Kind.{quintic}
use Rattle.holes.specs.Hole.{line, left_of, right_of}
use Rattle.holes.specs.Needs.{Weighed, Between}

-- what is rounded, against the minutes between the two
pub weighed_most : (y : ℤ) (u : ℕ) (z : ℤ) (v most : ℕ) → nat_abs y ≤ most → nat_abs z ≤ most → nat_abs (y *ℤ pos u +ℤ z *ℤ pos v) ≤ most * (u + v)
weighed_most y u z v most hy hz =
    omega (arith, abs_add (y *ℤ pos u) (z *ℤ pos v), abs_mul y (pos u), abs_mul z (pos v), mul-le-mul_right {m = nat_abs y} {n = most} u hy, mul-le-mul_right {m = nat_abs z} {n = most} v hz)

pub line_most : (y : ℤ) (u : ℕ) (z : ℤ) (v most : ℕ) → nat_abs y ≤ most → nat_abs z ≤ most → 0 < v → nat_abs (line y u z v) ≤ most
unfolding line
line_most y u z v most hy hz p = nearest_most (y *ℤ pos u +ℤ z *ℤ pos v) (u + v) most (omega arith) (weighed_most y u z v most hy hz)

pub line_fits : {y : ℤ} {u : ℕ} {z : ℤ} {v : ℕ} → Weighed y u z v → SFits w16 (line y u z v)
unfolding quintic
line_fits {y} {u} {z} {v} w = abs_fits (omega (arith, line_most y u z v quintic.ordinates w.y_in w.z_in w.some))

-- between sound knots it may be worked out
pub weighs : {xs : List ℕ} {ys : List ℤ} {i : ℕ} → Between xs ys i → get_or xs (right_of ys i) 0 ≤ 65535 → get_or xs i 0 ≤ 65535
    → Weighed (get_or ys (left_of ys i) (pos 0)) (get_or xs (right_of ys i) 0 - get_or xs i 0) (get_or ys (right_of ys i) (pos 0)) (get_or xs i 0 - get_or xs (left_of ys i) 0)
weighs b h k = record { y_in = b.y_in; z_in = b.z_in; u_in = omega arith; v_in = omega arith; some = omega (arith, b.rises) }
