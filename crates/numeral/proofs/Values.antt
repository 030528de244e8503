-- The value of digits, as a loop sums it up: once it is too large, it stays so.
-- Assumes nothing.
use Prim.Native.Nat.{ℕ, suc, ◌+◌, ◌-◌, ◌*◌, ◌≤◌, ◌<◌}
use mathlib.Core.Path.{◌≡◌, refl, sym, ◌∙◌}
use mathlib.Core.Bool.{Bool, true, false, ◌&&◌, ◌||◌, true≢false}
use mathlib.Core.List.{List, [], ◌∷◌}
use native.Mathlib.Omega.{arith}
use native.Mathlib.Numerals.{add-one}
use lib.Dec.{ltb}
use lib.ListN.{length, drop, get_or}
use lib.Seq.{drop-cons, drop-length}
use borrow.Author.Tests.{lt-ltb, le-ltb, ltb-false, eqb-true}
use Rattle.decimal.specs.Decimal.{value_from, value}
use Rattle.split.specs.Parts.{marks, stop}
use Rattle.numeral.specs.Number.{all_digits, at_most}
use Rattle.numeral.specs.declared.Wrong.{Wrong}
use Rattle.std.specs.Prelude.{Ok, Err}
use Rattle.split.specs.declared.Mark.TheVariants.{NoDigit}
use Rattle.split.proofs.Stops.{before_stop}

-- ---- a word of digits alone

pub second : (a b : Bool) → (a && b) ≡ true → b ≡ true
second true b e = e
second false b e = absurd (true≢false (sym e))

neither : (a b : Bool) → (a || b) ≡ false → a ≡ false
neither true b e = absurd (true≢false e)
neither false b e = refl

no_digit : (b : ℕ) → marks NoDigit b ≡ false → 48 ≤ b
unfolding marks
no_digit b e = ltb-false b 48 (neither (ltb b 48) (ltb 57 b) e)

pub digits_from : (w : List ℕ) → all_digits w ≡ true → (i : ℕ) → i < length w → 48 ≤ get_or w i 0
digits_from w e i l =
    let n : stop NoDigit w ≡ length w = eqb-true _ _ (second (ltb 0 (length w)) _ e) in
    no_digit (get_or w i 0) (before_stop NoDigit w i (omega arith))

-- ---- the loop

pub grows : (a : ℕ) (ds : List ℕ) → a ≤ value_from a ds
unfolding value_from
grows a [] = omega arith
grows a (d ∷ ds) = omega (arith, grows (10 * a + (d - 48)) ds)

pub record Summed (s : List ℕ) (most sum i : ℕ) : Type 0 where
  pub within : i ≤ length s
  pub small : sum ≤ most
  pub decides : value s ≡ value_from sum (drop i s)

pub summed_none : (s : List ℕ) (most : ℕ) → Summed s most 0 0
summed_none s most = record { within = omega arith; small = omega arith; decides = refl }

module _ {s : List ℕ} {most sum i : ℕ} (p : Summed s most sum i) where
  pub summed_all : length s ≤ i → Ok sum ≡ at_most most (value s)
  unfolding value_from at_most
  summed_all h =
      let e : i ≡ length s = omega (arith, p.within) in
      let d : value s ≡ sum = p.decides ∙ rw (e, drop-length) in
      rw (d, le-ltb most sum p.small)

  module _ {next : ℕ} (h : i < length s) (n : next ≡ 10 * sum + (get_or s i 0 - 48)) where
    then_by : value s ≡ value_from next (drop (suc i) s)
    unfolding value_from
    then_by = p.decides ∙ rw (drop-cons s i 0 h, n)

    pub summed_more : next ≤ most → Summed s most next (i + 1)
    summed_more l = record { within = omega arith; small = l; decides = rw add-one then_by }

    pub summed_over : most < next → Err Wrong.TooLarge ≡ at_most most (value s)
    unfolding at_most
    summed_over l = rw (lt-ltb most (value s) (omega (arith, then_by, grows next (drop (suc i) s))))
