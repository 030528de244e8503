-- A finite float by the fields of its bit pattern, and so in card units. Assumes nothing.
use Prim.Native.Nat.{ℕ, zero, suc, ◌+◌, ◌-◌, ◌*◌, ◌/◌, ◌%◌, ◌^◌}
use native.Mathlib.Nat.{mul_assoc, add_comm}
use native.Mathlib.Omega.{arith}
use mathlib.Core.Path.{◌≡◌, sym, ap, subst, ◌∙◌}
use mathlib.Core.Bool.{Bool, true, false, cond, not}
use lib.Dec.{T, leb, eqb, eqb-suc-zero}
use lib.Pow.{pow_pos}
use lib.IntN.{ℤ}
use lib.Ieee.{Float, nan, inf, fin, binary64, odd, of_fields, of_bits, to_bits, fits, is_nan, up, down}
use lib.Ieee.Bits.{of_bits-to_bits}
use lib.Ieee.Exact.{HasValue, odd_sign}
use lib.Ieee.Fits.{down_pos}
use lib.Ieee.Nearest.{closest, closest_same}
use Rattle.elimination.specs.Refusal.{is_finite}
use Rattle.units.specs.Units.{signed, units_of, held}
use Rattle.units.specs.Bits.{significand, power, size_of}
use Rattle.units.proofs.Held.{held_signed, nearest_signed}

abbrev Finite : Float → Type 0
Finite x = is_finite x ≡ true

no : {X : Type 0} → false ≡ true → X
no e = absurd (subst T (sym e) tt)

pub no_nan : (x : Float) → Finite x → T (not (is_nan x))
unfolding is_nan
no_nan nan f = no f
no_nan (inf s) f = tt
no_nan (fin s m e) f = tt

not_finite : (b s : Bool) → Finite (cond b (inf s) nan) → ⊥
not_finite true s f = no f
not_finite false s f = no f

fields_value : (s : Bool) (x t : ℕ) → Finite (of_fields binary64 s x t)
    → HasValue (of_fields binary64 s x t) s (cond (eqb x 0) t (t + 4503599627370496) * 2 ^ cond (eqb x 0) 0 (x - 1)) (2 ^ 1074)
unfolding of_fields
fields_value s zero t f = odd_sign 53 s t 0 1074
fields_value s (suc x) t f = rw (eqb-suc-zero x) (go (eqb (suc x) 2047) f)
  where
    less : suc x - 1 ≡ x
    less = omega arith

    go : (b : Bool) → Finite (cond b (cond (eqb t 0) (inf s) nan) (odd 53 s (4503599627370496 + t) x 1074))
        → HasValue (cond b (cond (eqb t 0) (inf s) nan) (odd 53 s (4503599627370496 + t) x 1074)) s ((t + 4503599627370496) * 2 ^ (suc x - 1)) (2 ^ 1074)
    go true h = absurd (not_finite (eqb t 0) s h)
    go false h = rw (less, add_comm t 4503599627370496) (odd_sign 53 s (4503599627370496 + t) x 1074)

-- the sign of a bit pattern
abbrev negative : ℕ → Bool
negative b = leb 9223372036854775808 b

bits_value : (b : ℕ) → Finite (of_bits binary64 b) → HasValue (of_bits binary64 b) (negative b) (significand b * 2 ^ power b) (2 ^ 1074)
unfolding of_bits
bits_value b f =
    let t = b % 4503599627370496 in
    let e : b % 9223372036854775808 / 4503599627370496 ≡ b / 4503599627370496 % 2048 = omega arith in
    subst (λ x. HasValue (of_fields binary64 (negative b) (b % 9223372036854775808 / 4503599627370496) t) (negative b) (cond (eqb x 0) t (t + 4503599627370496) * 2 ^ cond (eqb x 0) 0 (x - 1)) (2 ^ 1074)) e
    (fields_value (negative b) (b % 9223372036854775808 / 4503599627370496) t f)

own_value : (v : Float) → T (fits binary64 v) → Finite v → HasValue v (negative (to_bits binary64 v)) (significand (to_bits binary64 v) * 2 ^ power (to_bits binary64 v)) (2 ^ 1074)
own_value v h f =
    let b = to_bits binary64 v in
    let back = of_bits-to_bits binary64 v h in
    subst (λ x. HasValue x (negative b) (significand b * 2 ^ power b) (2 ^ 1074)) back (bits_value b (subst Finite (sym back) f))

scaled : (s : Bool) (m : ℕ) (e : ℤ) (t : Bool) (a : ℕ) → HasValue (fin s m e) t a (2 ^ 1074) → units_of (fin s m e) ≡ signed t (closest a (2 ^ 1062))
unfolding units_of
scaled s m e t a h =
    nearest_signed s (m * up e * 4096) (down e) (down_pos e)
    ∙ ap (λ x. signed x (closest (m * up e * 4096) (down e))) h.0
    ∙ ap (signed t) (closest_same (m * up e * 4096) (down e) a (2 ^ 1062) (down_pos e) (pow_pos 1062) (mul_assoc (m * up e) 4096 (2 ^ 1062) ∙ h.1))

by_bits : (v : Float) → T (fits binary64 v) → Finite v → units_of v ≡ signed (negative (to_bits binary64 v)) (closest (significand (to_bits binary64 v) * 2 ^ power (to_bits binary64 v)) (2 ^ 1062))
by_bits nan h f = no f
by_bits (inf s) h f = no f
by_bits (fin s m x) h f = let b = to_bits binary64 (fin s m x) in scaled s m x (negative b) (significand b * 2 ^ power b) (own_value (fin s m x) h f)

-- n is the size that its bits say
pub held_by_bits : (v : Float) → T (fits binary64 v) → Finite v → (n : ℕ) → n ≡ size_of (to_bits binary64 v) → signed (negative (to_bits binary64 v)) n ≡ held (units_of v)
unfolding size_of
held_by_bits v h f n e =
    let b = to_bits binary64 v in
    ap (signed (negative b)) e ∙ sym (ap held (by_bits v h f) ∙ held_signed (negative b) (closest (significand b * 2 ^ power b) (2 ^ 1062)))
