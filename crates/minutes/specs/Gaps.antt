-- The gaps beside a knot, by the card's minutes. Document 01, "The curve and its card".
-- Assumes nothing.
use Rattle.std.specs.Prelude.{ℕ, ◌+◌, ◌-◌, min, max, List, length, get_or}
use Rattle.curve.specs.Card.{back}

-- on the left and on the right of a knot; at an end the missing gap is 0
abbrev pub left_gap : List ℕ → ℕ → ℕ
left_gap xs i = get_or xs i 0 - get_or xs (back i) 0

abbrev pub right_gap : List ℕ → ℕ → ℕ
right_gap xs i = get_or xs (min (i + 1) (length xs - 1)) 0 - get_or xs i 0

unfoldable pub wider_gap : List ℕ → ℕ → ℕ
wider_gap xs i = max (left_gap xs i) (right_gap xs i)
