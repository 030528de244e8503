-- Document 02, order 10, by computation: values of document 001's example, of tables at the limits and one past
-- them, ties of both signs that go up and down, and every refusal with those that come behind it. One claim, of
-- the definitions. The numbers were worked out apart from them, in fractions, by the documents. The far steps
-- of twenty values, which take too long here, are run. Assumes nothing.
use mathlib.Core.Path.{◌≡◌, refl, ap}
use mathlib.Core.List.{List, [], ◌∷◌}
use Prim.Native.Nat.{ℕ}
use lib.IntN.{ℤ, pos}
use lib.ListN.{get_or, replicate}
use Rattle.whole.specs.Whole.{minus, beyond, nearest}
use Rattle.answer.specs.Answer.{◌then◌, refuse, each}
use Rattle.curve.specs.Formula.{power, worth}
use Rattle.curve.specs.Kind.{quintic}
use Rattle.cubic.specs.Cubic.{a, scale, δ², sum, unknown, cubic, between, denominator}
use Rattle.cubic.proofs.Example.{example}
use Rattle.unknowns.specs.Unknowns.{counted, in_range, checked}
use Rattle.preheat.specs.declared.Heated.{Heated}
use Rattle.preheat.specs.Preheat.{step, numerator, parted, past, preheat, heated}
use Rattle.preheat.specs.Preheat as Preheat

abbrev pub read : List ℤ → (parts count : ℕ) → Heated
read ys parts count = heated (preheat ys parts count)

abbrev pub value : ℤ → Heated
value v = record { number = 0; place = 0; value = v }

abbrev refusal : ℕ → ℕ → Heated
refusal n p = record { number = n; place = p; value = pos 0 }

abbrev shortest : List ℤ
shortest = pos 20000 ∷ minus 20000 ∷ pos 20000 ∷ []

abbrev longest : List ℤ
longest =
    pos 20000 ∷ minus 20000 ∷ pos 20000 ∷ minus 20000 ∷ pos 20000 ∷ minus 20000 ∷ pos 20000 ∷ minus 20000 ∷ pos 20000 ∷ minus 20000
    ∷ pos 20000 ∷ minus 20000 ∷ pos 20000 ∷ minus 20000 ∷ pos 20000 ∷ minus 20000 ∷ pos 20000 ∷ minus 20000 ∷ pos 20000 ∷ minus 20000 ∷ []

abbrev computed : List Heated
computed =
    read example 10 0
    ∷ read example 10 1
    ∷ read example 10 5
    ∷ read example 10 10
    ∷ read example 10 14
    ∷ read example 10 45
    ∷ read example 10 85
    ∷ read example 10 89
    ∷ read example 10 90
    ∷ read example 10 91
    ∷ read example 2 18
    ∷ read example 2 19
    ∷ read example 60 540
    ∷ read example 60 541
    ∷ read example 60 299
    ∷ read example 59 299
    ∷ read example 1 0
    ∷ read example 61 0
    ∷ read shortest 2 1
    ∷ read shortest 2 3
    ∷ read shortest 2 4
    ∷ read shortest 2 5
    ∷ read shortest 60 30
    ∷ read shortest 60 60
    ∷ read shortest 60 61
    ∷ read shortest 60 120
    ∷ read shortest 60 121
    ∷ read longest 2 0
    ∷ read longest 2 1
    ∷ read longest 60 29
    ∷ read longest 59 58
    ∷ read longest 2 39
    ∷ read (minus 9 ∷ minus 8 ∷ minus 7 ∷ []) 2 3
    ∷ read (minus 9 ∷ minus 4 ∷ pos 1 ∷ []) 2 3
    ∷ read (minus 9 ∷ minus 8 ∷ minus 7 ∷ []) 2 1
    ∷ read (minus 9 ∷ minus 9 ∷ pos 7 ∷ []) 2 1
    ∷ read (minus 9 ∷ pos 0 ∷ pos 9 ∷ []) 2 3
    ∷ read (minus 9 ∷ pos 3 ∷ minus 1 ∷ []) 2 3
    ∷ read (minus 9 ∷ pos 8 ∷ minus 7 ∷ []) 2 3
    ∷ read (minus 9 ∷ minus 2 ∷ pos 5 ∷ []) 2 3
    ∷ read ([]) 0 0
    ∷ read (pos 0 ∷ pos 0 ∷ []) 2 0
    ∷ read (pos 30000 ∷ pos 0 ∷ []) 0 9999
    ∷ read (replicate 21 (pos 0)) 2 0
    ∷ read (replicate 22 (pos 20_001)) 0 9999
    ∷ read (replicate 20 (pos 0)) 2 1
    ∷ read (pos 20001 ∷ pos 0 ∷ pos 0 ∷ []) 60 0
    ∷ read (pos 0 ∷ minus 20001 ∷ pos 20001 ∷ []) 60 0
    ∷ read (pos 0 ∷ pos 0 ∷ minus 20001 ∷ []) 1 999
    ∷ read (pos 0 ∷ pos 0 ∷ minus 32768 ∷ []) 61 0
    ∷ read (pos 20000 ∷ pos 20000 ∷ pos 20000 ∷ []) 0 9999
    ∷ read (pos 20000 ∷ pos 20000 ∷ pos 20000 ∷ []) 61 9999
    ∷ read (pos 20000 ∷ pos 20000 ∷ pos 20000 ∷ []) 1 0
    ∷ read (pos 20000 ∷ pos 20000 ∷ pos 20000 ∷ []) 60 120
    ∷ []

abbrev worked_out : List Heated
worked_out =
    value (pos 2440)
    ∷ value (pos 2415)
    ∷ value (pos 2318)
    ∷ value (pos 2210)
    ∷ value (pos 2142)
    ∷ value (pos 2138)
    ∷ value (pos 2209)
    ∷ value (pos 2202)
    ∷ value (pos 2200)
    ∷ refusal 11 0
    ∷ value (pos 2200)
    ∷ refusal 11 0
    ∷ value (pos 2200)
    ∷ refusal 11 0
    ∷ value (pos 2159)
    ∷ value (pos 2163)
    ∷ refusal 25 0
    ∷ refusal 25 0
    ∷ value (minus 7500)
    ∷ value (minus 7500)
    ∷ value (pos 20000)
    ∷ refusal 11 0
    ∷ value (minus 7500)
    ∷ value (minus 20000)
    ∷ value (minus 19983)
    ∷ value (pos 20000)
    ∷ refusal 11 0
    ∷ value (pos 20000)
    ∷ value (minus 10981)
    ∷ value (minus 10180)
    ∷ value (minus 20290)
    ∷ refusal 11 0
    ∷ value (minus 8)
    ∷ value (minus 2)
    ∷ value (minus 8)
    ∷ value (minus 10)
    ∷ value (pos 4)
    ∷ value (pos 2)
    ∷ value (pos 4)
    ∷ value (pos 2)
    ∷ refusal 1 0
    ∷ refusal 1 0
    ∷ refusal 1 0
    ∷ refusal 24 0
    ∷ refusal 24 0
    ∷ value (pos 0)
    ∷ refusal 6 0
    ∷ refusal 6 1
    ∷ refusal 6 2
    ∷ refusal 6 2
    ∷ refusal 25 0
    ∷ refusal 25 0
    ∷ refusal 25 0
    ∷ value (pos 20000)
    ∷ []

cases : computed ≡ worked_out
unfolding Preheat.value preheat checked counted in_range beyond refuse each ◌then◌ parted past quintic step numerator between denominator cubic worth power a scale δ² sum unknown nearest
cases = refl

pub example_at_14 : read example 10 14 ≡ value (pos 2142)
example_at_14 = ap (λ l. get_or l 4 (refusal 0 0)) cases
