-- Document 01, "Cases at the edges": P1 to P12, with the minutes and faults of document 02, orders 2 and 4, a single table under one claim, of the definitions: by computation.
-- Assumes nothing.
use mathlib.Core.Path.{◌≡◌, refl}
use mathlib.Core.List.{List, [], ◌∷◌, ◌++◌, map}
use Prim.Native.Nat.{ℕ}
use lib.IntN.{ℤ, pos}
use lib.ListN.{replicate}
use Rattle.whole.specs.Whole.{minus, beyond, nearest}
use Rattle.answer.specs.Answer.{Answer, refused, given, ◌then◌, refuse, each}
use Rattle.curve.specs.Log.{count, sum, faults, mean_of, long, readable, some_good, half_good, reachable, mean}
use Rattle.curve.specs.Formula.{power, worth, ∂, ∂^, amount}
use Rattle.curve.specs.Curve.{degree, N, rightward, leftward, allowance}
use Rattle.curve.specs.Kind.{quintic_asks, quintic}
use Rattle.curve.specs.Card.{Card, knots, knot, back, on, gap, spot, joint}
use Rattle.curve.specs.Jump.{inverse, clear, over, rise, jump, allowed, jumps}
use Rattle.curve.specs.Steps.{slope_beyond, curvature_beyond, lengths, counted, codes, stands, in_range, smooth, outside}
use Rattle.curve.specs.Orders.{numbers_sound, sound, verdict, reading_order, reading}
use Rattle.curve.specs.Reading.{last_at, gap_of, spell, denominator, between, reads, reads_at}

-- what of an answer the document names
unfoldable pub shown : {A : Type 0} → (A → List ℤ) → Answer A → Answer (List ℤ)
shown f (refused n p) = refused n p
shown f (given a) = given (f a)

-- Table 3's card, with another curvature at place 2
unfoldable pub table_3 : ℤ → Card
table_3 M =
    record {
      minutes = 0 ∷ 8 ∷ 16 ∷ 24 ∷ 32 ∷ [];
      ordinates = pos 500 ∷ pos 0 ∷ pos 500 ∷ pos 0 ∷ pos 500 ∷ [];
      slopes = minus 819_200 ∷ pos 230_400 ∷ pos 0 ∷ minus 230_400 ∷ pos 819_200 ∷ [];
      curvatures = pos 147_200 ∷ pos 83_200 ∷ M ∷ pos 83_200 ∷ pos 147_200 ∷ [];
      left = 0;
      right = 0;
    }

unfoldable pub line : Card
line =
    record {
      minutes = 0 ∷ 2 ∷ 4 ∷ [];
      ordinates = pos 0 ∷ pos 1 ∷ pos 2 ∷ [];
      slopes = pos 2048 ∷ pos 2048 ∷ pos 2048 ∷ [];
      curvatures = pos 0 ∷ pos 0 ∷ pos 0 ∷ [];
      left = 0;
      right = 0;
    }

-- Table 3's own
unfoldable pub p1 : Card
p1 = table_3 (minus 108_800)

unfoldable pub value : Card → ℕ → Answer (List ℤ)
value c minute = shown (λ r. r.value ∷ []) (reading quintic c minute)

unfoldable pub value_slope : Card → ℕ → Answer (List ℤ)
value_slope c minute = shown (λ r. r.value ∷ r.slope ∷ []) (reading quintic c minute)

unfoldable pub judged : Card → Answer (List ℤ)
judged c = shown (λ u. []) (verdict quintic c)

-- of a log from a first minute on: the minute for which it stands, its ordinate and its counts of good bytes and of faults
unfoldable pub mean_from : ℕ → List ℕ → Answer (List ℤ)
mean_from first log = shown (λ r. pos r.minute ∷ r.ordinate ∷ pos r.good_bytes ∷ pos r.fault_bytes ∷ []) (mean first log)

infix 4 ◌is◌
pub record Case : Type 0 where
  pub found : Answer (List ℤ)
  pub wanted : Answer (List ℤ)

abbrev pub ◌is◌ : Answer (List ℤ) → Answer (List ℤ) → Case
f is w = record { found = f; wanted = w }

unfoldable pub cases : List Case
cases =
    (value_slope p1 4 is given (minus 14 ∷ minus 238_400 ∷ []))
    ∷ (value p1 12 is given (pos 314 ∷ []))
    ∷ (value p1 32 is given (pos 500 ∷ []))
    ∷ (judged (table_3 (minus 108_798)) is given [])
    ∷ (judged (table_3 (minus 108_797)) is refused 10 2)
    ∷ (judged (table_3 (minus 108_802)) is given [])
    ∷ (judged (table_3 (minus 108_803)) is refused 10 2)
    ∷ (value line 1 is given (pos 0 ∷ []))
    ∷ (value line 3 is given (pos 2 ∷ []))
    ∷ (mean_from 60 (100 ∷ 255 ∷ 102 ∷ []) is given (pos 61 ∷ pos 5050 ∷ pos 2 ∷ pos 1 ∷ []))
    ∷ (mean_from 60 (0 ∷ 0 ∷ 0 ∷ 1 ∷ []) is given (pos 62 ∷ pos 12 ∷ pos 4 ∷ pos 0 ∷ []))
    ∷ (mean_from 60 (0 ∷ 1 ∷ 1 ∷ 1 ∷ []) is given (pos 62 ∷ pos 38 ∷ pos 4 ∷ pos 0 ∷ []))
    ∷ (mean_from 60 (255 ∷ []) is refused 13 0)
    ∷ (mean_from 60 (201 ∷ []) is refused 12 0)
    -- faults count in the length
    ∷ (mean_from 60 (100 ∷ 255 ∷ 255 ∷ 102 ∷ []) is given (pos 62 ∷ pos 5050 ∷ pos 2 ∷ pos 2 ∷ []))
    ∷ (mean_from 65_534 (100 ∷ 255 ∷ 255 ∷ 102 ∷ []) is refused 19 0)
    -- the last minute, and the one behind it: 12 and 13 go before 19
    ∷ (mean_from 65_534 (100 ∷ 102 ∷ []) is given (pos 65_535 ∷ pos 5050 ∷ pos 2 ∷ pos 0 ∷ []))
    ∷ (mean_from 65_535 (100 ∷ 102 ∷ []) is refused 19 0)
    ∷ (mean_from 65_535 (255 ∷ 255 ∷ []) is refused 13 0)
    ∷ (mean_from 65_535 (100 ∷ 201 ∷ []) is refused 12 1)
    -- half of an even length and one less, half of an odd one and one less; 12 and 13 go before 23, and 23 before 19
    ∷ (mean_from 60 (100 ∷ 255 ∷ 255 ∷ 255 ∷ []) is refused 23 0)
    ∷ (mean_from 60 (100 ∷ 255 ∷ 102 ∷ 255 ∷ 255 ∷ []) is refused 23 0)
    ∷ (mean_from 60 (100 ∷ 255 ∷ 102 ∷ 255 ∷ 104 ∷ []) is given (pos 62 ∷ pos 5100 ∷ pos 3 ∷ pos 2 ∷ []))
    ∷ (mean_from 60 (100 ∷ replicate 59 255) is refused 23 0)
    ∷ (mean_from 60 (replicate 30 255 ++ replicate 30 100) is given (pos 90 ∷ pos 5000 ∷ pos 30 ∷ pos 30 ∷ []))
    ∷ (mean_from 60 (100 ∷ 255 ∷ 255 ∷ 201 ∷ []) is refused 12 3)
    ∷ (mean_from 65_535 (100 ∷ 255 ∷ 255 ∷ []) is refused 23 0)
    -- the limits of a byte and of the length
    ∷ (mean_from 60 (200 ∷ 255 ∷ []) is given (pos 61 ∷ pos 10_000 ∷ pos 1 ∷ pos 1 ∷ []))
    ∷ (mean_from 60 (200 ∷ 254 ∷ []) is refused 12 1)
    ∷ (mean_from 60 [] is refused 16 0)
    ∷ (mean_from 60 (replicate 60 100) is given (pos 90 ∷ pos 5000 ∷ pos 60 ∷ pos 0 ∷ []))
    ∷ (mean_from 60 (replicate 61 100) is refused 16 0)
    ∷ []

pub hold : map (λ c. c.found) cases ≡ map (λ c. c.wanted) cases
unfolding cases shown table_3 p1 line value value_slope judged mean_from
    beyond nearest ◌then◌ refuse each readable count sum faults mean_of long some_good half_good reachable mean
    power worth ∂ ∂^ amount degree N rightward leftward allowance quintic_asks quintic
    knots knot back on gap spot inverse clear over rise jump allowed joint jumps slope_beyond curvature_beyond
    lengths counted codes stands in_range smooth outside numbers_sound sound verdict last_at gap_of spell denominator between reads reads_at reading_order reading
hold = refl
