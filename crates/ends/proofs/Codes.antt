-- The code of an end is 0, 1 or 2, and is the code by which the end was asked. Assumes nothing.
use Prim.Native.Nat.{ℕ, zero, suc, ◌≤◌}
use native.Mathlib.Omega.{arith}
use mathlib.Core.Path.{◌≡◌, refl}
use mathlib.Core.Bool.{false}
use lib.Dec.{ltb}
use lib.Ieee.{Float}
use Rattle.rows.specs.declared.End.{End}
use Rattle.rows.specs.declared.End.TheVariants.{Free, Both, Curvature}
use Rattle.rows.specs.Equations.{code}
use Rattle.ends.specs.Ends.{end_by}

pub code_known : (end : End) → ltb 2 (code end) ≡ false
code_known Free = refl
code_known (Both slope curvature) = refl
code_known (Curvature curvature) = refl

pub code_asked : (number : ℕ) (slope curvature : Float) → number ≤ 2 → code (end_by number slope curvature) ≡ number
unfolding end_by
code_asked zero slope curvature h = refl
code_asked (suc zero) slope curvature h = refl
code_asked (suc (suc zero)) slope curvature h = refl
code_asked (suc (suc (suc n))) slope curvature h = absurd (omega arith)
