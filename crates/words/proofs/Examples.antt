-- Complaints and mended knots as they are read, and the limits that the sentences name, each of them the one of the definitions. Computed; assumes nothing.
use Prim.Native.String.{String}
use Prim.Native.Nat.{ℕ, ◌+◌, ◌-◌}
use mathlib.Core.Path.{◌≡◌, refl}
use mathlib.Core.List.{List, [], ◌∷◌, ◌++◌}
use lib.IntN.{pos, negsuc}
use Rattle.decimal.specs.Decimal.{spelled, digits, worded, signed, field}
use Rattle.split.specs.Parts.{marks, stop}
use Rattle.numeral.specs.Number.{plain}
use Rattle.curve.specs.Kind.{quintic}
use Rattle.curve.specs.Card.{latest}
use Rattle.curve.specs.Log.{longest, largest_good, fault}
use Rattle.words.specs.declared.Table.TheVariants.{Refusals, Remedies, Wrongs}
use Rattle.words.specs.Sentences.{sentence}
use Rattle.words.specs.Said.{at_line, counts, at_place, refused_words, refused_line, value_line, shown, wrong_line, mended_line}

abbrev said : String → List ℕ
said words = spelled words ++ (10 ∷ [])

pub refusals :
    (refused_line 4 2 4 ≡ said ":4: knot 2: refused 4: minute is not above the one before") × (refused_line 1 0 0 ≡ said ": refused 1: fewer than 3 knots or values")
    × (refused_line 14 90 0 ≡ said ": byte 90: refused 14: record is cut short, of the wrong kind or length, or bytes follow the end")
    × (refused_line 15 1 0 ≡ said ": end 1: refused 15: code of this end (0 left, 1 right) is not 0, 1 or 2, or not 0 where slopes are given")
    × (refused_line 17 0 2 ≡ said ":2: knot 0: refused 17: hole has no sound knot on one side") × (refused_line 18 0 0 ≡ said ": refused 18: list of changes has fewer places than there are holes")
    × (refused_line 20 0 0 ≡ said ": refused 20: room is not in the book") × (refused_line 21 0 0 ≡ said ": refused 21: book would be over 16384 bytes, or over the lent buffer")
    × (refused_line 22 16 0 ≡ said ": byte 16: refused 22: room number is not above the one before")
unfolding spelled digits sentence at_line counts at_place refused_words refused_line
refusals = (refl, refl, refl, refl, refl, refl, refl, refl, refl)

-- of a pre-heater's table, and of one of its values on a line
pub tables :
    (refused_line 24 0 0 ≡ said ": refused 24: more than 20 values") × (refused_line 25 0 0 ≡ said ": refused 25: step has not 2 to 60 parts")
    × (value_line 6 2 4 ≡ said ":4: value 2: refused 6: ordinate or value is beyond 20000 hundredths either way")
unfolding spelled digits sentence at_line counts at_place refused_words refused_line value_line
tables = (refl, refl, refl)

-- a log by itself, and on a line of a sheet
pub logs :
    (refused_line 12 3 0 ≡ said ": byte 3: refused 12: log byte is from 201 to 254") × (refused_line 12 2 4 ≡ said ":4: knot 2: refused 12: log byte is from 201 to 254")
    × (refused_line 23 0 0 ≡ said ": refused 23: log has good bytes, but fewer than half") × (refused_line 23 2 4 ≡ said ":4: knot 2: refused 23: log has good bytes, but fewer than half")
unfolding spelled digits sentence at_line counts at_place refused_words refused_line
logs = (refl, refl, refl, refl)

pub wrongs :
    (wrong_line 1 4 (spelled "5.5") ≡ said ":4: '5.5' is not a whole number; hundredths are whole: write 550 for 5.5 %")
    × (wrong_line 1 4 (195 ∷ 164 ∷ []) ≡ said ":4: this word is not a whole number; hundredths are whole: write 550 for 5.5 %")
    × (wrong_line 6 0 [] ≡ said ": the text is longer than 65535 bytes: no sheet or table is") × (wrong_line 7 4 (spelled "-") ≡ said ":4: '-' is a hole: kaihveto mend fills it, in a sheet without slopes")
    × (wrong_line 8 4 (spelled "@") ≡ said ":4: '@' asks for the name of a log's file: write MINUTE @FILE")
unfolding spelled digits marks stop plain sentence at_line shown wrong_line
wrongs = (refl, refl, refl, refl, refl)

pub mendings : (mended_line 4 1 (pos 480) ≡ said ":4: knot 1: hole, now 480") × (mended_line 12 10 (negsuc 4) ≡ said ":12: knot 10: hole, now -5")
unfolding spelled digits signed field at_line mended_line
mendings = (refl, refl)

pub limits :
    (sentence Refusals 1 ≡ worded "fewer than " quintic.fewest_knots ++ spelled " knots or values") × (sentence Refusals 2 ≡ worded "more than " quintic.most_knots ++ spelled " knots")
    × (sentence Refusals 5 ≡ worded "more than " quintic.widest_gap ++ spelled " minutes lie between this knot and the one before")
    × (sentence Refusals 6 ≡ worded "ordinate or value is beyond " quintic.ordinates ++ spelled " hundredths either way")
    × (sentence Refusals 9 ≡ worded "slope or curvature is beyond " quintic.slopes ++ spelled " card units")
    × (sentence Refusals 12 ≡ worded "log byte is from " (largest_good + 1) ++ worded " to " (fault - 1)) × (sentence Refusals 16 ≡ worded "log has not 1 to " longest ++ spelled " bytes")
    × (sentence Refusals 19 ≡ worded "log's middle is behind minute " latest)
    × (sentence Remedies 19 ≡ worded "a knot's minute is at most " latest ++ spelled ", and a log's knot stands in its middle: look at the log's first minute")
    × (sentence Wrongs 3 ≡ worded "is too large: a minute is at most " latest ++ spelled ", an ordinate or value from -32768 to 32767")
    × (sentence Remedies 18 ≡ worded "the program that calls is wrong: it has to lend a list with a place for each hole (" quintic.most_knots ++ spelled " are always enough)")
unfolding spelled digits sentence quintic
limits = (refl, refl, refl, refl, refl, refl, refl, refl, refl, refl, refl)
