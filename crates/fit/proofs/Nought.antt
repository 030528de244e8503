-- Zeros in binary64: what a zero times anything, sums of such products and their negatives come to, in card units too. Assumes nothing.
use Prim.Native.Nat.{ℕ, ◌*◌, ◌/◌, ◌<◌}
use native.Mathlib.Nat.{zero-lt-suc, zero-mul, mul-one, mul-pos}
use mathlib.Core.Path.{◌≡◌, refl, sym, ap}
use mathlib.Core.Bool.{Bool, true, false, ◌&&◌, cond, beq}
use lib.Dec.{eqb}
use lib.IntN.{pos}
use lib.Ieee.{Float, nan, inf, fin, binary64, up, down, size, odd, units, round, neg, sum, add, mul}
use lib.Ieee.Fits.{down_pos}
use lib.Ieee.Nearest.{closest, closest_same, div_same}
use Rattle.whole.specs.Whole.{nearest}
use Rattle.units.specs.Units.{signed, units_of}
use Rattle.rows.specs.Floats.{◌⊕◌, ◌⊗◌}

-- finite only as a zero
abbrev pub Nought : Float → Type 0
Nought nan = Unit {0}
Nought (inf s) = Unit {0}
Nought (fin s m e) = m ≡ 0

none_of : (d : ℕ) → 0 < d → closest 0 d ≡ 0
none_of d h = closest_same 0 d 0 1 h (zero-lt-suc 0) (sym (zero-mul d))

round_nought : (s : Bool) (d : ℕ) → 0 < d → Nought (round binary64 s 0 d)
unfolding round size units odd
round_nought s d h =
    let whole : 0 / d ≡ 0 = div_same 0 d 0 1 h (zero-lt-suc 0) (sym (zero-mul d)) in
    rw (whole, mul-one d, none_of d h) refl

either_nought : (b : Bool) (x y : Float) → Nought x → Nought y → Nought (cond b x y)
either_nought true x y h k = h
either_nought false x y h k = k

pub neg_nought : (x : Float) → Nought x → Nought (neg x)
unfolding neg
neg_nought nan h = tt
neg_nought (inf s) h = tt
neg_nought (fin s m e) h = h

pub mul_nought : (x y : Float) → Nought x → Nought (x ⊗ y)
unfolding mul
mul_nought nan y h = tt
mul_nought (inf s) nan h = tt
mul_nought (inf s) (inf t) h = tt
mul_nought (inf s) (fin t n d) h = either_nought (eqb n 0) _ _ tt tt
mul_nought (fin s m e) nan h = tt
mul_nought (fin s m e) (inf t) h = either_nought (eqb m 0) _ _ tt tt
mul_nought (fin s m e) (fin t n d) h = rw (h, zero-mul (up e), zero-mul (n * up d)) (round_nought _ _ (mul-pos (down_pos e) (down_pos d)))

sum_nought : (s t : Bool) (d : ℕ) → 0 < d → Nought (sum binary64 s 0 t 0 d)
unfolding sum
sum_nought s t d h = either_nought (beq s t) _ _ (round_nought s d h) (round_nought (s && false) d h)

pub add_nought : (x y : Float) → Nought x → Nought y → Nought (x ⊕ y)
unfolding add
add_nought nan y h k = tt
add_nought (inf s) nan h k = tt
add_nought (inf s) (inf t) h k = either_nought (beq s t) _ _ tt tt
add_nought (inf s) (fin t n d) h k = tt
add_nought (fin s m e) nan h k = tt
add_nought (fin s m e) (inf t) h k = tt
add_nought (fin s m e) (fin t n d) h k = rw (h, k, zero-mul (up e), zero-mul (up d), zero-mul (down e), zero-mul (down d)) (sum_nought s t _ (mul-pos (down_pos e) (down_pos d)))

-- card units of it are none
pub units_nought : (x : Float) → Nought x → units_of x ≡ pos 0
unfolding units_of nearest
units_nought nan h = refl
units_nought (inf s) h = refl
units_nought (fin s m e) h = rw (h, zero-mul (up e)) (go s)
  where
    go : (b : Bool) → nearest (signed b 0) (down e) ≡ pos 0
    go true = ap pos (none_of (down e) (down_pos e))
    go false = ap pos (none_of (down e) (down_pos e))
