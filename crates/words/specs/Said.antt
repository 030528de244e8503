-- What is said of a file behind its name: ":4: knot 2: refused 4: minute is ..", ":4: '5.5' is not ..", or ": refused 1: .." where no line is to blame;
-- and of a knot that was mended.
-- Assumes nothing.
use Rattle.std.specs.Prelude.{ℕ, cond, List, [], ◌∷◌, ◌++◌, eqb, ℤ, length}
use Rattle.decimal.specs.Decimal.{spelled, worded, field}
use Rattle.numeral.specs.Number.{plain}
use Rattle.words.specs.declared.Table.TheVariants.{Refusals, Places, Wrongs}
use Rattle.words.specs.Sentences.{sentence}

-- line 0 is none
unfoldable pub at_line : ℕ → List ℕ
at_line line = cond (eqb line 0) (spelled ": ") (worded ":" line ++ spelled ": ")

-- what the place counts: of a line of a sheet always the knot, also for a log's refusals, whose own place is a byte or none; without a line what the number says
unfoldable pub counts : (number line : ℕ) → List ℕ
counts number line = cond (eqb line 0) (sentence Places number) (spelled "knot")

-- "knot 2: ", by what the place counts; nothing where it counts nothing
unfoldable pub at_place : (number place line : ℕ) → List ℕ
at_place number place line = cond (eqb (length (counts number line)) 0) [] (counts number line ++ worded " " place ++ spelled ": ")

-- "refused 4: minute is not above the one before", and the end of the line
unfoldable pub refused_words : ℕ → List ℕ
refused_words number = worded "refused " number ++ spelled ": " ++ sentence Refusals number ++ (10 ∷ [])

unfoldable pub refused_line : (number place line : ℕ) → List ℕ
refused_line number place line = at_line line ++ at_place number place line ++ refused_words number

-- ":4: value 2: refused 6: ..", of a pre-heater's table
unfoldable pub value_line : (number place line : ℕ) → List ℕ
value_line number place line = at_line line ++ worded "value " place ++ spelled ": " ++ refused_words number

abbrev pub quoted : List ℕ → List ℕ
quoted word = spelled "'" ++ word ++ spelled "'"

-- a word as it is where it can be shown; without a line it is the whole text that is wrong
unfoldable pub shown : (line : ℕ) → List ℕ → List ℕ
shown line word = cond (eqb line 0) (spelled "the text") (cond (plain word) (quoted word) (spelled "this word"))

unfoldable pub wrong_line : (wrong line : ℕ) → List ℕ → List ℕ
wrong_line wrong line word = at_line line ++ shown line word ++ spelled " " ++ sentence Wrongs wrong ++ (10 ∷ [])

-- ":4: knot 1: hole, now 480", and the end of the line
unfoldable pub mended_line : (line knot : ℕ) → (new : ℤ) → List ℕ
mended_line line knot new = at_line line ++ worded "knot " knot ++ spelled ": hole, now " ++ field new 10
