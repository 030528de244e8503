-- Tables as they are written: several words on a line, a comment, CR LF, a tab; each thing that can be wrong, with
-- its line and its word; and the 21st value, behind which nothing is read. Computed from the definitions; assumes
-- nothing.
use Prim.Native.Nat.{ℕ}
use Prim.Native.String.{String}
use mathlib.Core.Path.{◌≡◌, refl}
use mathlib.Core.List.{List, [], ◌∷◌, ◌++◌}
use lib.IntN.{pos, negsuc}
use lib.ListN.{take}
use Rattle.decimal.specs.Decimal.{spelled, value_from}
use Rattle.split.specs.Parts.{marks, stop, split, some, words}
use Rattle.numeral.specs.Number.{starts, at_most, natural, above, below, signed_number, narrowed, ordinate}
use Rattle.numeral.specs.declared.Wrong.{Wrong}
use Rattle.std.specs.Prelude.{Result, Ok, Err}
use Rattle.text.specs.Sheet.{bare_line, blame, then}
use Rattle.text.specs.declared.Blame.{Blame}
use Rattle.values.specs.declared.Values.{Values}
use Rattle.values.specs.Values.{no_values, with_value, taken, with_words, read, values, blamed_by, first_wrong, blamed}

abbrev written : List String → List ℕ
written [] = []
written (s ∷ ss) = spelled s ++ (10 ∷ written ss)

abbrev table : List ℕ
table = written ("# at the pre-heater" ∷ "2440 2210" ∷ "" ∷ "  -40 # cold" ∷ []) ++ spelled "0" ++ (9 ∷ spelled "7") ++ (13 ∷ 10 ∷ [])

-- the values, where nothing is wrong
abbrev of : Result Values Blame → Values
of (Ok v) = v
of (Err b) = no_values

pub tables :
    (values table ≡ Ok (of (values table))) × ((of (values table)).count ≡ 5) × (take 6 (of (values table)).values ≡ pos 2440 ∷ pos 2210 ∷ negsuc 39 ∷ pos 0 ∷ pos 7 ∷ pos 0 ∷ [])
    × (take 6 (of (values table)).lines ≡ 2 ∷ 2 ∷ 4 ∷ 5 ∷ 5 ∷ 0 ∷ []) × (values [] ≡ Ok no_values)
unfolding spelled value_from marks stop split some words starts at_most natural above below signed_number narrowed ordinate no_values with_value taken then with_words read values
tables = (refl, refl, refl, refl, refl)

abbrev second : String → List ℕ
second s = written ("5 # 6" ∷ s ∷ [])

pub wrongs :
    (values (second "1 5.5 x") ≡ Err (blame Wrong.NotWhole 2)) × (blamed (second "1 5.5 x") 2 ≡ spelled "5.5") × (values (second "1 -") ≡ Err (blame Wrong.NotWhole 2))
    × (blamed (second "1 -") 2 ≡ spelled "-") × (values (second "050") ≡ Err (blame Wrong.LeadingZero 2)) × (values (second "32768") ≡ Err (blame Wrong.TooLarge 2))
    × (values (second "-32768") ≡ Ok (of (values (second "-32768")))) × (blamed (second "1 2") 2 ≡ [])
unfolding spelled value_from marks stop split some words starts at_most natural above below signed_number narrowed ordinate bare_line no_values with_value taken then with_words read values blamed_by first_wrong
wrongs = (refl, refl, refl, refl, refl, refl, refl, refl)

abbrev ten : String
ten = "0 1 2 3 4 5 6 7 8 9"

-- the 20 values of a full table, one more, and words behind that
pub full :
    ((of (values (written (ten ∷ ten ∷ [])))).count ≡ 20) × ((of (values (written (ten ∷ ten ∷ "1" ∷ [])))).count ≡ 21)
    × (values (written (ten ∷ ten ∷ "1 x" ∷ "y" ∷ [])) ≡ values (written (ten ∷ ten ∷ "1" ∷ []))) × (values (written (ten ∷ ten ∷ "x" ∷ [])) ≡ Err (blame Wrong.NotWhole 3))
unfolding spelled value_from marks stop split some words starts at_most natural above below signed_number narrowed ordinate no_values with_value taken then with_words read values
full = (refl, refl, refl, refl)
