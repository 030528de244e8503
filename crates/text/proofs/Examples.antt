-- Sheets as they are written: a comment, an empty line, a tab, CR LF, a hole, a log; and each thing that can be wrong, with its line. Computed from the definitions; assumes nothing.
use Prim.Native.Nat.{ℕ}
use Prim.Native.String.{String}
use mathlib.Core.Path.{◌≡◌, refl}
use mathlib.Core.Bool.{true, false}
use mathlib.Core.List.{List, [], ◌∷◌, ◌++◌}
use lib.IntN.{pos, negsuc}
use lib.ListN.{take}
use Rattle.decimal.specs.Decimal.{spelled, value_from}
use Rattle.split.specs.Parts.{marks, stop, split, some, words}
use Rattle.numeral.specs.Number.{starts, at_most, natural, above, below, signed_number, narrowed, ordinate}
use Rattle.numeral.specs.declared.Wrong.{Wrong}
use Rattle.std.specs.Prelude.{Some, None, Result, Ok, Err}
use Rattle.holes.specs.Hole.{hole}
use Rattle.text.specs.Sheet.{with_ordinate, behind, knot_by, with_slope, line_by, line, bare_line, blamed_of, blamed_third, blamed_by, blamed, named, named_by, log_name, no_knots, with_knot, without_slope, sloping, taken, blame, blaming, line_taken, then, read, sheet}
use Rattle.text.specs.declared.Blame.{Blame}
use Rattle.text.specs.declared.Sheet.{Sheet}
use Rattle.text.specs.declared.Line.{Line}
use Rattle.text.specs.declared.Line.TheVariants.{Empty, Knot, Hole, Log}

abbrev written : List String → List ℕ
written [] = []
written (s ∷ ss) = spelled s ++ (10 ∷ written ss)

abbrev night : List ℕ
night = written ("# night" ∷ "0 500" ∷ "" ∷ "  8   -40 # the vents open" ∷ []) ++ spelled "16 0"

abbrev a_line : String → Result Line Wrong
a_line s = line (spelled s)

-- the sheet, where nothing is wrong
abbrev of : Result Sheet Blame → Sheet
of (Ok a) = a
of (Err b) = no_knots

pub sheets :
    (sheet false night ≡ Ok (of (sheet false night))) × ((of (sheet false night)).knots ≡ 3) × (take 4 (of (sheet false night)).minutes ≡ 0 ∷ 8 ∷ 16 ∷ 0 ∷ [])
    × (take 4 (of (sheet false night)).ordinates ≡ pos 500 ∷ negsuc 39 ∷ pos 0 ∷ pos 0 ∷ []) × (take 4 (of (sheet false night)).lines ≡ 2 ∷ 4 ∷ 5 ∷ 0 ∷ [])
    × (sheet false (written ("0 0" ∷ "# 1 2 3" ∷ "050 3" ∷ [])) ≡ Err (blame Wrong.LeadingZero 3)) × (sheet false [] ≡ Ok no_knots)
unfolding spelled value_from marks stop split some words starts at_most natural above below signed_number narrowed ordinate with_ordinate behind knot_by with_slope line_by line no_knots with_knot without_slope sloping taken blaming line_taken then read sheet
sheets = (refl, refl, refl, refl, refl, refl, refl)

abbrev broken : List ℕ
broken = written ("0 500" ∷ "8 - # dead" ∷ "16 0" ∷ [])

-- a hole is wrong where the sheet is not to be mended, and the word for which it is refused is the minus; where it is, the hole has the mark, as the mark itself has that somebody types
pub holes :
    (sheet false broken ≡ Err (blame Wrong.Hole 2)) × (blamed broken 2 ≡ spelled "-") × (sheet true broken ≡ Ok (of (sheet true broken))) × ((of (sheet true broken)).knots ≡ 3)
    × (take 4 (of (sheet true broken)).ordinates ≡ pos 500 ∷ hole ∷ pos 0 ∷ pos 0 ∷ []) × (take 4 (of (sheet true broken)).lines ≡ 1 ∷ 2 ∷ 3 ∷ 0 ∷ [])
    × (sheet true (written ("0 -32768" ∷ [])) ≡ sheet true (written ("0 -" ∷ []))) × (sheet true night ≡ sheet false night)
unfolding spelled value_from marks stop split some words starts at_most natural above below signed_number narrowed ordinate with_ordinate behind knot_by with_slope line_by line bare_line blamed_of blamed_third blamed_by no_knots with_knot without_slope sloping taken blaming line_taken then read sheet
holes = (refl, refl, refl, refl, refl, refl, refl, refl)

pub lines :
    (a_line "5.5 3" ≡ Err Wrong.NotWhole) × (a_line "0x10 3" ≡ Err Wrong.NotWhole) × (a_line "1e3 3" ≡ Err Wrong.NotWhole) × (a_line "-1 3" ≡ Err Wrong.NotWhole)
    × (a_line "1 -" ≡ Ok (Hole 1)) × (a_line "- 1" ≡ Err Wrong.NotWhole) × (a_line "1 --" ≡ Err Wrong.NotWhole) × (a_line "1 - -" ≡ Err Wrong.TooMany) × (a_line "1 -0" ≡ Err Wrong.LeadingZero) × (a_line "1 00" ≡ Err Wrong.LeadingZero) × (a_line "0 -32768" ≡ Ok (Knot 0 (negsuc 32767) None))
    × (a_line "0 32768" ≡ Err Wrong.TooLarge) × (a_line "65535 0" ≡ Ok (Knot 65535 (pos 0) None)) × (a_line "65536 0" ≡ Err Wrong.TooLarge)
    × (a_line "18446744073709551616 0" ≡ Err Wrong.TooLarge) × (a_line "7" ≡ Err Wrong.TooFew) × (a_line "1 2 3" ≡ Ok (Knot 1 (pos 2) (Some (pos 3)))) × (a_line "1 2 3 4" ≡ Err Wrong.TooMany)
    × (line (spelled "7" ++ (9 ∷ spelled "8") ++ (13 ∷ [])) ≡ Ok (Knot 7 (pos 8) None)) × (a_line " " ≡ Ok Empty)
unfolding spelled value_from marks stop split some words starts at_most natural above below signed_number narrowed ordinate with_ordinate behind knot_by with_slope line_by line
lines = (refl, refl, refl, refl, refl, refl, refl, refl, refl, refl, refl, refl, refl, refl, refl, refl, refl, refl, refl, refl)

abbrev blamed_in : String → List ℕ
blamed_in s = blamed (written ("0 0" ∷ s ∷ [])) 2

pub blames :
    (blamed_in "5.5 3" ≡ spelled "5.5") × (blamed_in "3 x # y" ≡ spelled "x") × (blamed_in "7" ≡ spelled "7") × (blamed_in "1 2 3 4" ≡ spelled "4") × (blamed_in "" ≡ [])
unfolding spelled value_from marks stop split some words starts at_most natural above below signed_number narrowed ordinate with_ordinate behind knot_by bare_line blamed_of blamed_third blamed_by
blames = (refl, refl, refl, refl, refl)

abbrev with_log : List ℕ
with_log = written ("0 500" ∷ "8 @hour.log # from minute 8" ∷ "16 0" ∷ [])

-- a log is taken whether or not the sheet is to be mended, at its first minute; its name is told by its line
pub logs :
    (sheet false with_log ≡ Ok (of (sheet false with_log))) × ((of (sheet false with_log)).knots ≡ 3) × (take 4 (of (sheet false with_log)).minutes ≡ 0 ∷ 8 ∷ 16 ∷ 0 ∷ [])
    × (take 4 (of (sheet false with_log)).ordinates ≡ pos 500 ∷ pos 0 ∷ pos 0 ∷ pos 0 ∷ []) × (take 4 (of (sheet false with_log)).logs ≡ false ∷ true ∷ false ∷ false ∷ [])
    × (sheet true with_log ≡ sheet false with_log) × (log_name with_log 2 ≡ spelled "hour.log") × (log_name with_log 1 ≡ []) × (log_name with_log 0 ≡ []) × (log_name with_log 9 ≡ [])
unfolding spelled value_from marks stop split some words starts at_most natural above below signed_number narrowed ordinate with_ordinate behind knot_by with_slope line_by line bare_line named named_by no_knots with_knot without_slope sloping taken blaming line_taken then read sheet
logs = (refl, refl, refl, refl, refl, refl, refl, refl, refl, refl)

-- what is wrong with a log's line, the minute first, and the word to blame; a '@' in another place is part of a word
pub log_lines :
    (a_line "8 @a" ≡ Ok (Log 8 None)) × (a_line "8 @@" ≡ Ok (Log 8 None)) × (a_line "65535 @0" ≡ Ok (Log 65535 None)) × (a_line "8 @" ≡ Err Wrong.Nameless) × (a_line "8 @#a" ≡ Err Wrong.Nameless) × (a_line "8 @ a" ≡ Err Wrong.Nameless) × (a_line "@a" ≡ Err Wrong.TooFew)
    × (a_line "65536 @a" ≡ Err Wrong.TooLarge) × (a_line "x @" ≡ Err Wrong.NotWhole) × (a_line "08 @" ≡ Err Wrong.LeadingZero) × (a_line "8 a@" ≡ Err Wrong.NotWhole) × (a_line "@8 1" ≡ Err Wrong.NotWhole)
unfolding spelled value_from marks stop split some words starts at_most natural above below signed_number narrowed ordinate with_ordinate behind knot_by with_slope line_by line
log_lines = (refl, refl, refl, refl, refl, refl, refl, refl, refl, refl, refl, refl)

pub log_blames : (blamed_in "8 @" ≡ spelled "@") × (blamed_in "x @a" ≡ spelled "x") × (blamed_in "8 @a b" ≡ spelled "b") × (blamed_in "8 @ b" ≡ spelled "@") × (log_name (written ("8 a" ∷ "8 @a b" ∷ [])) 2 ≡ spelled "a")
unfolding spelled value_from marks stop split some words starts at_most natural above below signed_number narrowed ordinate with_ordinate behind knot_by bare_line blamed_of blamed_third blamed_by named named_by
log_blames = (refl, refl, refl, refl, refl)

abbrev measured : List ℕ
measured = written ("0 500 -819200" ∷ "8 @hour.log 230400" ∷ "" ∷ "16 500 0" ∷ [])

-- slopes on every line, a log's too; a hole, a knot without one, and one where the others have none are
-- wrong, and so is every slope where the sheet is to be mended
pub slopes :
    (sheet false measured ≡ Ok (of (sheet false measured))) × ((of (sheet false measured)).knots ≡ 3) × ((of (sheet false measured)).sloped ≡ true) × ((of (sheet false night)).sloped ≡ false)
    × (take 4 (of (sheet false measured)).slopes ≡ negsuc 819199 ∷ pos 230400 ∷ pos 0 ∷ pos 0 ∷ []) × (take 4 (of (sheet false measured)).logs ≡ false ∷ true ∷ false ∷ false ∷ [])
    × (sheet false (written ("0 1 5" ∷ "8 2" ∷ [])) ≡ Err (blame Wrong.Slopeless 2)) × (sheet false (written ("0 1 5" ∷ "8 @a" ∷ [])) ≡ Err (blame Wrong.Slopeless 2))
    × (sheet false (written ("0 1" ∷ "8 2 0" ∷ [])) ≡ Err (blame Wrong.OddSlope 2)) × (sheet false (written ("0 @a" ∷ "" ∷ "8 @a 0" ∷ [])) ≡ Err (blame Wrong.OddSlope 3))
    × (sheet true measured ≡ Err (blame Wrong.Unmended 1)) × (sheet true (written ("0 1" ∷ "8 2 0" ∷ [])) ≡ Err (blame Wrong.Unmended 2)) × (sheet false (written ("0 1 5" ∷ "8 -" ∷ [])) ≡ Err (blame Wrong.Hole 2))
unfolding spelled value_from marks stop split some words starts at_most natural above below signed_number narrowed ordinate with_ordinate behind knot_by with_slope line_by line no_knots with_knot without_slope sloping taken blaming line_taken then read sheet
slopes = (refl, refl, refl, refl, refl, refl, refl, refl, refl, refl, refl, refl, refl)

pub slope_lines :
    (a_line "1 2 -3" ≡ Ok (Knot 1 (pos 2) (Some (negsuc 2)))) × (a_line "1 @a 3" ≡ Ok (Log 1 (Some (pos 3)))) × (a_line "1 2 2147483647" ≡ Ok (Knot 1 (pos 2) (Some (pos 2147483647)))) × (a_line "1 2 -2147483648" ≡ Ok (Knot 1 (pos 2) (Some (negsuc 2147483647))))
    × (a_line "1 2 2147483648" ≡ Err Wrong.NoSlope) × (a_line "1 2 x" ≡ Err Wrong.NoSlope) × (a_line "1 2 -" ≡ Err Wrong.NoSlope) × (a_line "1 2 03" ≡ Err Wrong.NoSlope) × (a_line "1 2 -0" ≡ Err Wrong.NoSlope) × (a_line "1 @a b" ≡ Err Wrong.NoSlope)
    × (a_line "1 - 3" ≡ Err Wrong.TooMany) × (a_line "x 2 y" ≡ Err Wrong.NotWhole) × (a_line "1 05 y" ≡ Err Wrong.LeadingZero)
unfolding spelled value_from marks stop split some words starts at_most natural above below signed_number narrowed ordinate with_ordinate behind knot_by with_slope line_by line
slope_lines = (refl, refl, refl, refl, refl, refl, refl, refl, refl, refl, refl, refl, refl)

pub slope_blames : (blamed_in "1 2 x" ≡ spelled "x") × (blamed_in "1 - 3" ≡ spelled "3") × (blamed_in "x 2 y" ≡ spelled "x") × (blamed_in "1 05 y" ≡ spelled "05") × (blamed_in "1 2 3" ≡ spelled "3") × (blamed_in "1 @a b c" ≡ spelled "c")
unfolding spelled value_from marks stop split some words starts at_most natural above below signed_number narrowed ordinate with_ordinate behind knot_by bare_line blamed_of blamed_third blamed_by
slope_blames = (refl, refl, refl, refl, refl, refl)
