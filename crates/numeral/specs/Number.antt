-- Whole numbers in decimal: digits alone, none of them a zero in front, a minus before a slope or an ordinate
-- below zero, or alone where there is a hole; and what is wrong with another word. Assumes nothing.
use Rattle.std.specs.Prelude.{ℕ, zero, suc, Bool, false, cond, ◌&&◌, ◌||◌, List, [], ◌∷◌, ltb, eqb, ℤ, pos, negsuc, length, drop, Option, Some, None, Result, Ok, Err}
use Rattle.std.specs.Int.Signed.{lt_z}
use Rattle.decimal.specs.Decimal.{minus}
use Rattle.decimal.specs.Decimal.{value}
use Rattle.split.specs.Parts.{stop}
use Rattle.split.specs.declared.Mark.TheVariants.{NoDigit, Hidden}
use Rattle.numeral.specs.declared.Wrong.{Wrong}

-- the number of the sentence that says what is wrong
abbrev pub number_of : Wrong → ℕ
number_of Wrong.NotWhole = 1
number_of Wrong.LeadingZero = 2
number_of Wrong.TooLarge = 3
number_of Wrong.TooFew = 4
number_of Wrong.TooMany = 5
number_of Wrong.TooLong = 6
number_of Wrong.Hole = 7
number_of Wrong.Nameless = 8
number_of Wrong.NoSlope = 9
number_of Wrong.Slopeless = 10
number_of Wrong.OddSlope = 11
number_of Wrong.Unmended = 12

unfoldable pub starts : ℕ → List ℕ → Bool
starts b [] = false
starts b (x ∷ w) = eqb x b

-- digits, and nothing else
abbrev pub all_digits : List ℕ → Bool
all_digits w = ltb 0 (length w) && eqb (stop NoDigit w) (length w)

-- a word that can be shown as it is
unfoldable pub plain : List ℕ → Bool
plain w = cond (ltb 32 (length w)) false (ltb 0 (length w) && eqb (stop Hidden w) (length w))

abbrev pub padded : List ℕ → Bool
padded w = ltb 1 (length w) && starts 48 w

unfoldable pub at_most : ℕ → ℕ → Result ℕ Wrong
at_most most n = cond (ltb most n) (Err Wrong.TooLarge) (Ok n)

unfoldable pub natural : ℕ → List ℕ → Result ℕ Wrong
natural most w = cond (all_digits w) (cond (padded w) (Err Wrong.LeadingZero) (at_most most (value w))) (Err Wrong.NotWhole)

-- a number from its digits; there is no zero below zero
unfoldable pub above : Result ℕ Wrong → Result ℤ Wrong
above (Ok n) = Ok (pos n)
above (Err wrong) = Err wrong

unfoldable pub below : Result ℕ Wrong → Result ℤ Wrong
below (Ok zero) = Err Wrong.LeadingZero
below (Ok (suc n)) = Ok (negsuc n)
below (Err wrong) = Err wrong

-- as far as 32 bits hold it
unfoldable pub signed_number : List ℕ → Result ℤ Wrong
signed_number w = cond (starts minus w) (below (natural 2147483648 (drop 1 w))) (above (natural 2147483647 w))

-- an ordinate is held in 16
unfoldable pub narrowed : Result ℤ Wrong → Result (Option ℤ) Wrong
narrowed (Ok z) = cond (lt_z z (negsuc 32767) || lt_z (pos 32767) z) (Err Wrong.TooLarge) (Ok (Some z))
narrowed (Err wrong) = Err wrong

abbrev pub lone_minus : List ℕ → Bool
lone_minus w = eqb (length w) 1 && starts minus w

-- a hole is a minus alone
unfoldable pub ordinate : List ℕ → Result (Option ℤ) Wrong
ordinate w = cond (lone_minus w) (Ok None) (narrowed (signed_number w))
