-- The bit pattern of `ends` `specs/Ends` is the number that it stands for. Assumes nothing.
use Rattle.std.specs.Prelude.{◌≡◌, refl, pos}
use Rattle.std.specs.Float.{binary64}
use Rattle.std.specs.Float.Ieee.{of_bits, of_int}
use Rattle.knots.specs.Kinds.{most_given}
use Rattle.ends.specs.Ends.{f256}

-- the pattern is the limit's
pub is_limit : f256 ≡ of_int binary64 (pos most_given)
unfolding of_bits of_int
is_limit = refl
