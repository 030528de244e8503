-- Numbers at the ends of their types, in decimal. Computed from the definitions; assumes nothing.
use mathlib.Core.Path.{◌≡◌, refl}
use lib.IntN.{pos, negsuc}
use Rattle.decimal.specs.Decimal.{spelled, digits, decimal, signed, field}

pub numbers :
    (decimal 0 ≡ spelled "0") × (decimal 4294967295 ≡ spelled "4294967295") × (decimal 18446744073709551615 ≡ spelled "18446744073709551615")
    × (signed (negsuc 2147483647) ≡ spelled "-2147483648") × (signed (negsuc 9223372036854775807) ≡ spelled "-9223372036854775808") × (field (pos 10) 32 ≡ spelled "10 ")
unfolding spelled digits signed field
numbers = (refl, refl, refl, refl, refl, refl)
