-- Document 01, "The exact curve": the gap of a minute, and what is read there.
-- Assumes nothing.
use Rattle.std.specs.Prelude.{ℕ, zero, suc, ◌+◌, ◌-◌, ◌*◌, ◌^◌, cond, List, length, get_or, ℤ, pos, leb}
use Rattle.whole.specs.Whole.{◌·◌, nearest}
use Rattle.curve.specs.Formula.{Formula, num, worth, ∂^}
use Rattle.curve.specs.Curve.{N}
use Rattle.curve.specs.Card.{Knot, Card, knot, gap}

-- the last of the places 0 to i whose minute is at or before the minute
unfoldable pub last_at : List ℕ → ℕ → ℕ → ℕ
last_at xs minute zero = zero
last_at xs minute (suc i) = cond (leb (get_or xs (suc i) 0) minute) (suc i) (last_at xs minute i)

-- the gap of a minute, by the place of its left knot: "an inner knot belongs to the gap on its right, the last knot to the last gap"
unfoldable pub gap_of : List ℕ → ℕ → ℕ
gap_of xs minute = last_at xs minute (length xs - 2)

-- where a minute falls: the knots of its gap, and τ, the minutes from the left one
pub record Spell : Type 0 where
  pub from : Knot
  pub to : Knot
  pub minutes : ℕ

unfoldable pub spell : Card → ℕ → Spell
spell c minute =
    let i = gap_of c.minutes minute in
    record { from = knot c i; to = knot c (i + 1); minutes = minute - (knot c i).x }

-- the exact curve on the gap from a to b: "The value is N/(8192·h^5)"
unfoldable pub between : Knot → Knot → Formula ℤ
between a b = N (num (pos (gap a b))) (num a.y) (num b.y) (num a.m) (num b.m) (num a.M) (num b.M)

unfoldable pub denominator : Knot → Knot → ℕ
denominator a b = 8192 * gap a b ^ 5

pub record Reading : Type 0 where
  pub value : ℤ
  pub slope : ℤ
  pub curvature : ℤ

-- "the first and second derivatives of this polynomial in τ, times 4096"; "the three rounded to nearest, ties to even"
unfoldable pub reads : Knot → Knot → ℕ → Reading
reads a b t =
    record {
      value = nearest (worth (between a b) (pos t)) (denominator a b);
      slope = nearest (4096 · worth (∂^ 1 (between a b)) (pos t)) (denominator a b);
      curvature = nearest (4096 · worth (∂^ 2 (between a b)) (pos t)) (denominator a b);
    }

unfoldable pub reads_at : Card → ℕ → Reading
reads_at c minute = let s = spell c minute in reads s.from s.to s.minutes
