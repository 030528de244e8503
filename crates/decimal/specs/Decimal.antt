-- Words and numbers as bytes: the numbers in decimal, with a minus where they are negative.
-- Assumes nothing.
use Rattle.std.specs.Prelude.{ℕ, zero, suc, ◌+◌, ◌-◌, ◌*◌, ◌/◌, ◌%◌, cond, List, [], ◌∷◌, ◌++◌, ltb, ℤ, pos, negsuc}
use Prim.Native.String.{String, [] as empty, ◌∷◌ as ◌before◌}
use Prim.Native.Char.{code}

-- the bytes of fixed words
unfoldable pub spelled : String → List ℕ
spelled empty = []
spelled (letter before rest) = code letter ∷ spelled rest

-- the digits of n, the highest first and none of them a zero in front, of which there are at most k
unfoldable pub digits : ℕ → ℕ → List ℕ
digits zero n = []
digits (suc k) n = cond (ltb n 10) [] (digits k (n / 10)) ++ ((48 + n % 10) ∷ [])

-- each number of 64 bits has at most 20 digits
abbrev pub places : ℕ
places = 20

abbrev pub decimal : ℕ → List ℕ
decimal n = digits places n

-- what digits are worth, behind others that are worth a
unfoldable pub value_from : ℕ → List ℕ → ℕ
value_from a [] = a
value_from a (d ∷ ds) = value_from (10 * a + (d - 48)) ds

abbrev pub value : List ℕ → ℕ
value ds = value_from 0 ds

abbrev pub minus : ℕ
minus = 45

unfoldable pub signed : ℤ → List ℕ
signed (pos n) = decimal n
signed (negsuc n) = minus ∷ decimal (suc n)

-- a number, and the byte that parts it from the next one or ends the line
unfoldable pub field : ℤ → ℕ → List ℕ
field z parting = signed z ++ (parting ∷ [])

-- fixed words, and a number behind them
abbrev pub worded : String → ℕ → List ℕ
worded words n = spelled words ++ decimal n
