-- The parts of a text: its lines, what of a line is no comment, and the words of that.
-- Assumes nothing.
use Rattle.std.specs.Prelude.{ℕ, suc, Bool, not, cond, ◌||◌, List, [], ◌∷◌, ltb, eqb, take, drop}
use Rattle.split.specs.declared.Mark.{Mark}
use Rattle.split.specs.declared.Mark.TheVariants.{LineEnd, Note, Blank, Word, NoDigit, Hidden}

-- a space, a tab, or the carriage return before a line feed
abbrev pub blank : ℕ → Bool
blank b = eqb b 32 || eqb b 9 || eqb b 13

-- a line ends at a line feed; a comment starts at '#'; a word is of bytes that are no blanks
unfoldable pub marks : Mark → ℕ → Bool
marks LineEnd b = eqb b 10
marks Note b = eqb b 35
marks Blank b = blank b
marks Word b = not (blank b)
marks NoDigit b = ltb b 48 || ltb 57 b
marks Hidden b = ltb b 33 || ltb 126 b

-- how many bytes stand before the first that is marked
unfoldable pub stop : Mark → List ℕ → ℕ
stop m [] = 0
stop m (b ∷ s) = cond (marks m b) 0 (suc (stop m s))

-- those bytes, and the others
abbrev pub until : Mark → List ℕ → List ℕ
until m s = take (stop m s) s

abbrev pub past : Mark → List ℕ → List ℕ
past m s = drop (stop m s) s

-- a byte in front of the first part
abbrev pub onto : ℕ → List (List ℕ) → List (List ℕ)
onto b [] = (b ∷ []) ∷ []
onto b (p ∷ ps) = (b ∷ p) ∷ ps

-- the parts between the bytes that are marked, of which there is one more than of those
unfoldable pub split : Mark → List ℕ → List (List ℕ)
split m [] = [] ∷ []
split m (b ∷ s) = cond (marks m b) ([] ∷ split m s) (onto b (split m s))

-- the parts that have a byte
unfoldable pub some : List (List ℕ) → List (List ℕ)
some [] = []
some ([] ∷ ps) = some ps
some ((b ∷ p) ∷ ps) = (b ∷ p) ∷ some ps

abbrev pub lines : List ℕ → List (List ℕ)
lines s = split LineEnd s

-- what of a line is no comment
abbrev pub bare : List ℕ → List ℕ
bare l = until Note l

unfoldable pub words : List ℕ → List (List ℕ)
words s = some (split Blank s)
