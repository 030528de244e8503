-- Numbers in card units by computation of the definition: halves go to even on both sides of zero, and there is no limit. Assumes nothing.
use mathlib.Core.Path.{◌≡◌, refl}
use mathlib.Core.Bool.{true, false}
use mathlib.Core.List.{[], ◌∷◌, map}
use Prim.Native.Nat.{◌*◌, ◌^◌}
use lib.IntN.{pos, negsuc}
use lib.Ieee.{fin}
use Rattle.whole.specs.Whole.{nearest}
use Rattle.units.specs.Units.{units_of}

-- 1/8192, 3/8192, −3/8192, −5/8192, 256, 2^60
halves : map units_of (fin false 1 (negsuc 12) ∷ fin false 3 (negsuc 12) ∷ fin true 3 (negsuc 12) ∷ fin true 5 (negsuc 12) ∷ fin false 1 (pos 8) ∷ fin false 1 (pos 60) ∷ [])
    ≡ pos 0 ∷ pos 2 ∷ negsuc 1 ∷ negsuc 1 ∷ pos 1048576 ∷ pos (4096 * 2 ^ 60) ∷ []
unfolding units_of nearest
halves = refl
