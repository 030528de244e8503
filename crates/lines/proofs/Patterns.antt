-- The bit pattern of `lines` `specs/Lines` is the number that it stands for. Assumes nothing.
use Rattle.std.specs.Prelude.{◌≡◌, refl, pos}
use Rattle.std.specs.Float.{binary64}
use Rattle.std.specs.Float.Ieee.{of_bits, of_int}
use Rattle.lines.specs.Lines.{f4096}

-- the pattern is that number
pub is_units : f4096 ≡ of_int binary64 (pos 4096)
unfolding of_bits of_int
is_units = refl
