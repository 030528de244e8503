-- Little-endian numbers as lists of bytes, over the number of bytes; signed ones over the width. Document 01, "Card bytes".
-- Assumes nothing.
use Rattle.std.specs.Prelude.{ℕ, zero, suc, ◌+◌, ◌*◌, ◌/◌, ◌%◌, ◌<◌, List, [], ◌∷◌, take, drop, get_or, ℤ}
use Rattle.std.specs.Int.{Width}
use mir.Val.{bytes, to_z, of_z}

-- the k bytes of n, the lowest first
unfoldable pub le : ℕ → ℕ → List ℕ
le zero n = []
le (suc k) n = n % 256 ∷ le k (n / 256)

-- the number that bytes are, the lowest first
unfoldable pub un : List ℕ → ℕ
un [] = 0
un (b ∷ bs) = b + 256 * un bs

-- the number of the k bytes of s that start at `at`
unfoldable pub num_at : ℕ → List ℕ → ℕ → ℕ
num_at k s at = un (take k (drop at s))

-- the bytes of a signed number, in two's complement
unfoldable pub signed_bytes : Width → ℤ → List ℕ
signed_bytes w z = le (bytes w) (of_z w z)

-- the signed number of the bytes of s that start at `at`
unfoldable pub signed_at : Width → List ℕ → ℕ → ℤ
signed_at w s at = to_z w (num_at (bytes w) s at)

-- each element is a byte
unfoldable pub Bytes : List ℕ → Type 0
Bytes s = (i : ℕ) → get_or s i 0 < 256
