-- Card units that are held at the farthest number: the same within it, and beyond the same limits. Assumes nothing.
use mathlib.Core.Path.{◌≡◌, refl, sym, ap, ◌∙◌}
use mathlib.Core.Bool.{Bool, true, false}
use Prim.Native.Nat.{ℕ, zero, suc, ◌≤◌, ◌<◌, min}
use native.Mathlib.Decide.{dec_le}
use native.Mathlib.Omega.{arith}
use lib.Dec.{ltb}
use lib.IntN.{ℤ, pos, negsuc, nat_abs}
use lib.Ieee.Nearest.{closest}
use borrow.Author.Tests.{le-leb, lt-leb}
use Rattle.whole.specs.Whole.{minus, beyond, nearest}
use Rattle.whole.proofs.Order.{abs_neg}
use Rattle.whole.proofs.Rounding.{nearest_neg}
use Rattle.units.specs.Units.{signed, farthest, held}

held_size : (z : ℤ) → nat_abs (held z) ≡ min (nat_abs z) farthest
unfolding held
held_size (pos n) = refl
held_size (negsuc n) = abs_neg (pos (min (suc n) farthest))

-- a limit below the farthest number is a test of what is held
pub beyond_held : (limit : ℕ) (z : ℤ) → limit < farthest → beyond limit (held z) ≡ beyond limit z
unfolding beyond
beyond_held limit z h =
    let n = nat_abs z in
    ap (ltb limit) (held_size z)
    ∙ elim (dec_le (suc limit) n) [
      | yes p ↦ le-leb (suc limit) (min n farthest) (omega arith) ∙ sym (le-leb (suc limit) n p)
      | no p ↦ lt-leb (suc limit) (min n farthest) (omega arith) ∙ sym (lt-leb (suc limit) n (omega arith))
    ]

pub held_within : (z : ℤ) → nat_abs z ≤ farthest → held z ≡ z
unfolding held
held_within (pos n) h = ap pos (omega arith)
held_within (negsuc n) h = ap minus (let e : min (suc n) farthest ≡ suc n = omega arith in e)

pub held_signed : (sign : Bool) (n : ℕ) → held (signed sign n) ≡ signed sign (min n farthest)
unfolding held
held_signed false n = refl
held_signed true zero = refl
held_signed true (suc n) = refl

pub nearest_signed : (sign : Bool) (n d : ℕ) → 0 < d → nearest (signed sign n) d ≡ signed sign (closest n d)
unfolding nearest
nearest_signed false n d h = refl
nearest_signed true n d h = nearest_neg (pos n) d h
