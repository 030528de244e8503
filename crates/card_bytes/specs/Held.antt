-- Document 01, "Card bytes", read back: the card that bytes hold, whatever the bytes are.
-- Assumes nothing.
use Rattle.std.specs.Prelude.{ℕ, ◌+◌, ◌*◌, List, ℤ}
use Rattle.std.specs.Int.{w16, w32}
use Rattle.front.specs.Front.{listed}
use Rattle.little_endian.specs.Numbers.{num_at, signed_at}
use Rattle.curve.specs.Card.{Knot, Card}

-- where the record of a knot starts, behind a head of 10 bytes; the end's starts where one more knot's would
abbrev pub start : ℕ → ℕ
start i = 10 + 16 * i

abbrev pub minute_at : List ℕ → ℕ → ℕ
minute_at s i = num_at 2 s (start i + 4)

abbrev pub ordinate_at : List ℕ → ℕ → ℤ
ordinate_at s i = signed_at w16 s (start i + 6)

abbrev pub slope_at : List ℕ → ℕ → ℤ
slope_at s i = signed_at w32 s (start i + 8)

abbrev pub curvature_at : List ℕ → ℕ → ℤ
curvature_at s i = signed_at w32 s (start i + 12)

abbrev pub knot_at : List ℕ → ℕ → Knot
knot_at s i = record { x = minute_at s i; y = ordinate_at s i; m = slope_at s i; M = curvature_at s i }

abbrev pub count_at : List ℕ → ℕ
count_at s = num_at 2 s 4

unfoldable pub card_of : List ℕ → Card
card_of s =
    record {
      minutes = listed (minute_at s) (count_at s);
      ordinates = listed (ordinate_at s) (count_at s);
      slopes = listed (slope_at s) (count_at s);
      curvatures = listed (curvature_at s) (count_at s);
      left = num_at 2 s 6;
      right = num_at 2 s 8;
    }
