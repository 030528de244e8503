-- Document 02, order 10: what a table of values is refused for, and an unknown as it is answered. Assumes
-- nothing.
use Rattle.std.specs.Prelude.{ℕ, suc, ◌≤◌, List, ℤ, pos, leb, ltb, length, Result, Ok, Err}
use Rattle.whole.specs.Whole.{beyond}
use Rattle.answer.specs.Answer.{Answer, refused, given, Verdict, ◌then◌, refuse, each}
use Rattle.answer.specs.Judge.{number_of}
use Rattle.answer.specs.declared.Refusal.{Refusal}
use Rattle.curve.specs.Kind.{quintic}
use Rattle.cubic.specs.Cubic.{most_values, y, scale, unknown, Within}
use Rattle.unknowns.specs.declared.Pair.{Pair}
use Rattle.unknowns.specs.declared.Unknown.{Unknown}

-- "1 and 6 as they stand", "24 for more than 20 values"
unfoldable pub counted : ℕ → Verdict
counted n = refuse 1 0 (ltb n quintic.fewest_knots) then refuse 24 0 (ltb most_values n)

unfoldable pub in_range : List ℤ → ℕ → Verdict
in_range ys i = refuse 6 i (beyond quintic.ordinates (y ys i))

-- "order 1, 24, 6"
unfoldable pub checked : List ℤ → Verdict
checked ys = counted (length ys) then each (in_range ys) 0 (length ys)

-- ---- an unknown, and the scale that it is over

abbrev pub fraction : List ℤ → ℕ → Unknown
fraction ys i = record { unknown = unknown ys i; scale = pos (scale ys) }

-- what is given, or the refusal in the table's numbers
abbrev pub answer_of : {A : Type 0} → Result A Refusal → Answer A
answer_of (Ok a) = given a
answer_of (Err e) = refused (number_of e.reason) e.place

-- 1, 24, 6, and 11 past the last value
unfoldable pub unknown_order : List ℤ → ℕ → Answer Unknown
unknown_order ys i = checked ys then refuse 11 0 (leb (length ys) i) then given (fraction ys i)

-- ---- inside

abbrev pub pair_at : List ℤ → ℕ → Pair
pair_at ys i = record { here = unknown ys i; next = unknown ys (suc i) }

-- what 1, 24 and 6 leave
pub record Sound (ys : List ℤ) : Type 0 where
  pub least : quintic.fewest_knots ≤ length ys
  pub most : length ys ≤ most_values
  pub within : Within quintic.ordinates ys
