-- The sentences, each at the place of its number: document 01, "Numbers of refusal", and those of document 02, with what to do about each; and what can be wrong in the text of a sheet (crate `text`).
-- README's table is this one. Assumes nothing.
use Rattle.std.specs.Prelude.{ℕ, List, [], ◌∷◌, get_or}
use Prim.Native.String.{String}
use Rattle.decimal.specs.Decimal.{spelled}
use Rattle.words.specs.declared.Table.{Table}
use Rattle.words.specs.declared.Table.TheVariants.{Refusals, Places, Remedies, Wrongs}

-- what is wrong, what its place counts where it has one, and what to do
pub record Row : Type 0 where
  pub what : String
  pub place : String
  pub remedy : String

abbrev row : String → String → String → Row
row what place remedy = record { what = what; place = place; remedy = remedy }

-- acceptance, and a number that no refusal has
abbrev pub no_refusal : Row
no_refusal = row "" "" ""

-- 0 to 26
abbrev pub refusals : List Row
refusals =
    no_refusal
    ∷ row "fewer than 3 knots or values" "" "give more logs; a pre-heater's table has 3 to 20 values"
    ∷ row "more than 64 knots" "" "leave knots out, or make two cards"
    ∷ row "lent lists differ in length" "" "the program that calls is wrong: it has to lend lists of one length"
    ∷ row "minute is not above the one before" "knot" "two logs have the same middle, or the sheet is out of order: look at that knot"
    ∷ row "more than 60 minutes lie between this knot and the one before" "knot" "a log is missing before that knot"
    ∷ row "ordinate or value is beyond 20000 hundredths either way" "knot" "look at that number: 100 % is 10000"
    ∷ row "number given for this end is no number, or beyond 256 either way" "knot" "give the end's slope and curvature in hundredths per minute (squared), not in card units"
    ∷ row "elimination met a zero or a number that is not finite" "knot" "no input is known that does this: keep the sheet and report it"
    ∷ row "slope or curvature is beyond 1048576 card units" "knot" "the curve is too steep there: knots too close for so large a step; or a slope in the sheet is not in card units; or a number on the card was changed"
    ∷ row "third or fourth derivative jumps by more than is allowed" "knot" "a number at or beside that knot was changed, or an end has another code than in its fit: kaihveto explain says how far it jumps; make the card anew; if a fit says it, keep the sheet and report it"
    ∷ row "minute is outside the card" "" "it is before the first knot or after the last, or past a table's last value; a log's knot stands in its middle, so the first log's first half and the last log's second half are not on the card"
    ∷ row "log byte is from 201 to 254" "byte" "the log is damaged at that byte; of a log in a sheet, whose place is the knot, kaihveto mean says the byte"
    ∷ row "log has no good byte" "" "the sensor was dead: leave this log out, or write a hole at the minute of its middle and mend the sheet"
    ∷ row "record is cut short, of the wrong kind or length, or bytes follow the end" "byte" "the file is damaged there, or is another kind of file, or a book of more than 16384 bytes; of a card in a book the bytes count from the card's first"
    ∷ row "code of this end (0 left, 1 right) is not 0, 1 or 2, or not 0 where slopes are given" "end" "the card is damaged or comes from a newer program, or the calling program gave a wrong code"
    ∷ row "log has not 1 to 60 bytes" "" "cut a longer log to one hour, leave out an empty one"
    ∷ row "hole has no sound knot on one side" "knot" "no line can be laid to a hole before the first sound knot or behind the last: leave that knot out, or give it a number"
    ∷ row "list of changes has fewer places than there are holes" "" "the program that calls is wrong: it has to lend a list with a place for each hole (64 are always enough)"
    ∷ row "log's middle is behind minute 65535" "" "a knot's minute is at most 65535, and a log's knot stands in its middle: look at the log's first minute"
    ∷ row "room is not in the book" "" "look at the room's number: kaihveto book list says which rooms are there, kaihveto book put puts one in"
    ∷ row "book would be over 16384 bytes, or over the lent buffer" "" "take out a room that is not used any more (kaihveto book remove), put the card into a second book, or make it with fewer knots; a program that calls has to lend as many bytes as the book then has"
    ∷ row "room number is not above the one before" "byte" "the record there is out of order, or its room is in the book already: make the book anew from the rooms' cards"
    ∷ row "log has good bytes, but fewer than half" "" "the sensor was out for most of that time: cut the log to minutes of which half are good, leave it out, or write a hole at the minute of its middle and mend the sheet"
    ∷ row "more than 20 values" "" "a pre-heater's table has 3 to 20 values: leave some out, or make two tables"
    ∷ row "step has not 2 to 60 parts" "" "ask for 2 to 60 parts to a step of the pre-heater's table"
    ∷ row "lent buffer or lists are too short" "" "lend 14 + 16n bytes, or n places"
    ∷ []

-- what is wrong with a word of a sheet's text, or with the whole of it
abbrev pub wrongs : List String
wrongs =
    ""
    ∷ "is not a whole number; hundredths are whole: write 550 for 5.5 %"
    ∷ "has a zero or a sign too many: write 50 for 050, and 0 for -0"
    ∷ "is too large: a minute is at most 65535, an ordinate or value from -32768 to 32767"
    ∷ "stands alone: a knot is a minute and an ordinate, or a minute and @FILE for a log"
    ∷ "is one word too many: a knot is a minute, an ordinate or @FILE for a log, whose name has no blank here, and behind that its slope if it has one"
    ∷ "is longer than 65535 bytes: no sheet or table is"
    ∷ "is a hole: kaihveto mend fills it, in a sheet without slopes"
    ∷ "asks for the name of a log's file: write MINUTE @FILE"
    ∷ "is no slope: behind an ordinate or @FILE, whose name has no blank here, stands nothing or a whole number of card units, with no zero in front"
    ∷ "has no slope behind it, and the knots before have one: give every knot its slope in card units, or none"
    ∷ "is a slope, and the knots before have none: give every knot its slope in card units, or none"
    ∷ "is a slope: kaihveto mend takes a sheet without slopes"
    ∷ []

-- one of the columns
abbrev pub column : (Row → String) → List Row → List String
column of [] = []
column of (r ∷ rs) = of r ∷ column of rs

abbrev pub strings : Table → List String
strings Refusals = column (λ r. r.what) refusals
strings Places = column (λ r. r.place) refusals
strings Remedies = column (λ r. r.remedy) refusals
strings Wrongs = wrongs

-- nothing for a number that has no row
unfoldable pub sentence : Table → ℕ → List ℕ
sentence t n = spelled (get_or (strings t) n "")

-- no sentence is longer
abbrev pub longest : ℕ
longest = 200
