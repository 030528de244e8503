-- Document 01, "The elimination", point 4: a binary64 number in card units. Whatever its size: 9 alone decides what is beyond a card's range.
-- Assumes nothing.
use Rattle.std.specs.Prelude.{ℕ, suc, ◌*◌, min, Bool, cond, ℤ, pos, negsuc, Float}
use Rattle.std.specs.Float.{nan, inf, fin}
use Rattle.std.specs.Float.Ieee.{up, down}
use Rattle.whole.specs.Whole.{minus, nearest}

-- n, below zero where the sign is set
abbrev pub signed : Bool → ℕ → ℤ
signed sign n = cond sign (minus n) (pos n)

-- "the whole number nearest to the exact 4096·u, ties to even". A finite u is m · up e / down e with its sign; others do not occur
unfoldable pub units_of : Float → ℤ
units_of (fin sign m e) = nearest (signed sign (m * up e * 4096)) (down e)
units_of (inf sign) = pos 0
units_of nan = pos 0

-- the code holds card units in 32 bits: numbers beyond this, far outside every card's range, stay at it
abbrev pub farthest : ℕ
farthest = 1_073_741_824

unfoldable pub held : ℤ → ℤ
held (pos n) = pos (min n farthest)
held (negsuc n) = minus (min (suc n) farthest)
