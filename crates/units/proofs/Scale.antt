-- q·2^k / 2^1062, rounded: where it is the farthest number or nothing, and by a shift between. Assumes nothing.
use Prim.Native.Nat.{ℕ, ◌+◌, ◌-◌, ◌*◌, ◌%◌, ◌^◌, ◌≤◌, ◌<◌, min}
use native.Mathlib.Nat.{le_of_lt, le_trans, le_of_eq, mul_assoc, mul-one, one-mul, mul-le-mul_right, mul-le-mul_left}
use native.Mathlib.Omega.{arith}
use mathlib.Core.Path.{◌≡◌, sym, ap, ◌∙◌}
use lib.Dec.{lit<}
use lib.Pow.{pow_pos, pow_mono, pow-add, shl_exact}
use lib.Ieee.Nearest.{closest, closest_mono, closest_same}
use Rattle.units.specs.Units.{farthest}

pub farthest_from : (q k : ℕ) → 1040 ≤ k → 2 ^ 52 ≤ q → farthest ≡ min (closest (q * 2 ^ k) (2 ^ 1062)) farthest
farthest_from q k h p =
    let r : 2 ^ 52 * 2 ^ 1040 ≤ q * 2 ^ k = le_trans (mul-le-mul_right (2 ^ 1040) p) (mul-le-mul_left q (pow_mono h)) in
    let m = closest_mono farthest 1 (q * 2 ^ k) (2 ^ 1062) (lit< tt) (pow_pos 1062) (le_trans r (le_of_eq (sym (mul-one (q * 2 ^ k))))) in
    omega arith

pub nothing_below : (q k : ℕ) → k < 1008 → q < 2 ^ 53 → 0 ≡ min (closest (q * 2 ^ k) (2 ^ 1062)) farthest
nothing_below q k h p =
    let r : q * 2 ^ k ≤ 2 ^ 53 * 2 ^ 1007 = le_trans (mul-le-mul_right (2 ^ k) (le_of_lt p)) (mul-le-mul_left (2 ^ 53) (pow_mono {j = 1007} (omega arith))) in
    let m = closest_mono (q * 2 ^ k) (2 ^ 1062) 1 4 (pow_pos 1062) (lit< tt) (mul-le-mul_right 4 r) in
    omega arith

-- 1 << d as the machine has it
pub one_shifted : (d : ℕ) → d < 64 → 1 * 2 ^ d % 2 ^ 64 ≡ 2 ^ d
one_shifted d h = shl_exact {a = 1} 1 d 64 (lit< tt) (omega arith) ∙ one-mul (2 ^ d)

within : (q k : ℕ) → k < 1040 → q < 2 ^ 53 → closest (q * 2 ^ k) (2 ^ 1062) ≤ farthest
within q k h p =
    let r : q * 2 ^ k ≤ 2 ^ 53 * 2 ^ 1039 = le_trans (mul-le-mul_right (2 ^ k) (le_of_lt p)) (mul-le-mul_left (2 ^ 53) (pow_mono {j = 1039} (omega arith))) in
    closest_mono (q * 2 ^ k) (2 ^ 1062) farthest 1 (pow_pos 1062) (lit< tt) (le_trans (le_of_eq (mul-one (q * 2 ^ k))) r)

shifted : (q k d : ℕ) → k + d ≡ 1062 → closest q (2 ^ d) ≡ closest (q * 2 ^ k) (2 ^ 1062)
shifted q k d e =
    closest_same q (2 ^ d) (q * 2 ^ k) (2 ^ 1062) (pow_pos d) (pow_pos 1062)
    (ap (λ x. q * 2 ^ x) (sym e) ∙ ap (λ x. q * x) (pow-add 2 k d) ∙ sym (mul_assoc q (2 ^ k) (2 ^ d)))

pub between : (q k : ℕ) → 1008 ≤ k → k < 1040 → q < 2 ^ 53 → closest q (1 * 2 ^ (1062 - k) % 2 ^ 64) ≡ min (closest (q * 2 ^ k) (2 ^ 1062)) farthest
between q k l h p =
    let e = ap (closest q) (one_shifted (1062 - k) (omega arith)) ∙ shifted q k (1062 - k) (omega arith) in
    omega (arith, e, within q k h p)
