-- "the nearest sound knots left and right" (document 02, order 1), computed: a hole with two sound knots on
-- either side. Assumes nothing.
use mathlib.Core.Path.{◌≡◌, refl}
use mathlib.Core.List.{[], ◌∷◌}
use lib.IntN.{pos}
use Rattle.whole.specs.Whole.{nearest}
use Rattle.holes.specs.Hole.{hole, is_hole, line, hole_at, before, after, left_of, right_of, line_at, put_at, filled_at, filled, mended}

-- 100 stands 3 minutes before the hole and 300 one behind it: 250. With a farther knot on the left it would
-- come to 258, on the right to 486, on both sides to 578
pub between_the_nearest : mended (0 ∷ 2 ∷ 5 ∷ 6 ∷ 9 ∷ []) (pos 50 ∷ pos 100 ∷ hole ∷ pos 300 ∷ pos 1000 ∷ []) ≡ (pos 50 ∷ pos 100 ∷ pos 250 ∷ pos 300 ∷ pos 1000 ∷ [])
unfolding filled filled_at put_at line_at line nearest hole_at is_hole before after left_of right_of
between_the_nearest = refl
