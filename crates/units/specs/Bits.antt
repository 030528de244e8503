-- The size of a binary64 number in card units, by the fields of its bit pattern, the sign left aside. Assumes nothing.
use Rattle.std.specs.Prelude.{ℕ, ◌+◌, ◌-◌, ◌*◌, ◌/◌, ◌%◌, ◌^◌, min, cond, eqb}
use Rattle.std.specs.Float.Ieee.Nearest.{closest}
use Rattle.units.specs.Units.{farthest}

-- the exponent's field and the digits' field
abbrev pub exponent : ℕ → ℕ
exponent bits = bits / 4_503_599_627_370_496 % 2048

abbrev pub digits : ℕ → ℕ
digits bits = bits % 4_503_599_627_370_496

-- the number's size is significand · 2^power / 2^1074: an exponent's field of 0 has no leading digit, and counts as 1
abbrev pub significand : ℕ → ℕ
significand bits = cond (eqb (exponent bits) 0) (digits bits) (digits bits + 4_503_599_627_370_496)

abbrev pub power : ℕ → ℕ
power bits = cond (eqb (exponent bits) 0) 0 (exponent bits - 1)

-- 4096 is 2^12
unfoldable pub size_of : ℕ → ℕ
size_of bits = min (closest (significand bits * 2 ^ power bits) (2 ^ 1062)) farthest
