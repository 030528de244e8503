-- What the type of a lent list says of its elements, where a theorem on the boundary needs it. Assumes nothing.
use Rattle.std.specs.Prelude.{ℕ, ◌<◌, ◌^◌, List, get_or}

-- a minute is a number of two bytes; behind the list zeros are read
unfoldable pub Minutes : List ℕ → Type 0
Minutes xs = (i : ℕ) → get_or xs i 0 < 2 ^ 16

-- and so is a room's
unfoldable pub Room : ℕ → Type 0
Room r = r < 2 ^ 16
