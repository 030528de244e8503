-- The bit patterns of `rows` `specs/Floats` are the numbers of the exact equations. Assumes nothing.
use Rattle.std.specs.Prelude.{◌≡◌, refl, map}
use Rattle.std.specs.Float.{binary64}
use Rattle.std.specs.Float.Ieee.{of_bits, of_int}
use Rattle.coefficients.specs.Coefficients.{exact, listed}
use Rattle.rows.specs.Floats.{floats}

pub numbers : listed floats ≡ map (of_int binary64) (listed exact)
unfolding of_bits of_int
numbers = refl
