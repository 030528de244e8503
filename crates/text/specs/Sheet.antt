-- A sheet: its lines in order up to the first that is wrong, and no further than the 65th knot. A hole is
-- wrong, unless the sheet is to be mended. A log stands for a knot by the name of its file. A third number is
-- the knot's slope in card units (document 02, order 8); all knots have one, or none has. Assumes nothing.
use Rattle.std.specs.Prelude.{ℕ, zero, suc, ◌+◌, Bool, true, false, not, cond, ◌&&◌, List, [], ◌∷◌, ltb, eqb, ℤ, pos, length, drop, get_or, set, replicate, Option, Some, None, Result, Ok, Err}
use Rattle.split.specs.Parts.{lines, bare, words}
use Rattle.numeral.specs.Number.{starts, natural, signed_number, ordinate}
use Rattle.numeral.specs.declared.Wrong.{Wrong}
use Rattle.text.specs.declared.Blame.{Blame}
use Rattle.text.specs.declared.Line.{Line}
use Rattle.text.specs.declared.Line.TheVariants.{Empty, Knot, Hole, Log}
use Rattle.text.specs.declared.Sheet.{Sheet}
use Rattle.curve.specs.Card.{latest}
use Rattle.holes.specs.Hole.{hole}

-- '@'
abbrev pub at_sign : ℕ
at_sign = 64

-- behind a minute: an ordinate or a hole
unfoldable pub with_ordinate : ℕ → Result (Option ℤ) Wrong → Result Line Wrong
with_ordinate x (Err wrong) = Err wrong
with_ordinate x (Ok None) = Ok (Hole x)
with_ordinate x (Ok (Some y)) = Ok (Knot x y None)

-- or the name of a log's file behind a '@'; the minute is then the log's first one
unfoldable pub behind : ℕ → List ℕ → Result Line Wrong
behind x w = cond (starts at_sign w) (cond (eqb (length w) 1) (Err Wrong.Nameless) (Ok (Log x None))) (with_ordinate x (ordinate w))

-- the minute is looked at first
unfoldable pub knot_by : Result ℕ Wrong → List ℕ → Result Line Wrong
knot_by (Err wrong) w = Err wrong
knot_by (Ok x) w = behind x w

abbrev pub knot : List ℕ → List ℕ → Result Line Wrong
knot x w = knot_by (natural latest x) w

-- a third word is the slope; behind a hole it is one too many
unfoldable pub with_slope : Result Line Wrong → Result ℤ Wrong → Result Line Wrong
with_slope (Err wrong) m = Err wrong
with_slope (Ok Empty) m = Ok Empty
with_slope (Ok (Knot x y None)) (Ok m) = Ok (Knot x y (Some m))
with_slope (Ok (Knot x y None)) (Err wrong) = Err Wrong.NoSlope
with_slope (Ok (Knot x y (Some z))) m = Ok (Knot x y (Some z))
with_slope (Ok (Log x None)) (Ok m) = Ok (Log x (Some m))
with_slope (Ok (Log x None)) (Err wrong) = Err Wrong.NoSlope
with_slope (Ok (Log x (Some z))) m = Ok (Log x (Some z))
with_slope (Ok (Hole x)) m = Err Wrong.TooMany

unfoldable pub line_by : List (List ℕ) → Result Line Wrong
line_by [] = Ok Empty
line_by (x ∷ []) = Err Wrong.TooFew
line_by (x ∷ y ∷ []) = knot x y
line_by (x ∷ y ∷ z ∷ []) = with_slope (knot x y) (signed_number z)
line_by (x ∷ y ∷ z ∷ w ∷ ws) = Err Wrong.TooMany

unfoldable pub line : List ℕ → Result Line Wrong
line l = line_by (words (bare l))

-- of line n, from 1, what is no comment
unfoldable pub bare_line : List ℕ → ℕ → List ℕ
bare_line s zero = []
bare_line s (suc n) = bare (get_or (lines s) n [])

-- the word for which a line is refused: the first that is no number, or is a hole or nameless, or the first too many
unfoldable pub blamed_of : Result ℕ Wrong → List ℕ → List ℕ → List ℕ
blamed_of (Err wrong) x y = x
blamed_of (Ok n) x y = y

-- of three words the last, where the two before it are a knot
unfoldable pub blamed_third : Result Line Wrong → (two third : List ℕ) → List ℕ
blamed_third (Err wrong) two third = two
blamed_third (Ok l) two third = third

unfoldable pub blamed_by : List (List ℕ) → List ℕ
blamed_by [] = []
blamed_by (x ∷ []) = x
blamed_by (x ∷ y ∷ []) = blamed_of (natural latest x) x y
blamed_by (x ∷ y ∷ z ∷ []) = blamed_third (knot x y) (blamed_of (natural latest x) x y) z
blamed_by (x ∷ y ∷ z ∷ w ∷ ws) = w

abbrev pub blamed : List ℕ → ℕ → List ℕ
blamed s n = blamed_by (words (bare_line s n))

-- the name of a log's file: what stands behind the '@' of the second word
unfoldable pub named : List ℕ → List ℕ
named w = cond (starts at_sign w) (drop 1 w) []

unfoldable pub named_by : List (List ℕ) → List ℕ
named_by [] = []
named_by (x ∷ []) = []
named_by (x ∷ y ∷ ws) = named y

abbrev pub log_name : List ℕ → ℕ → List ℕ
log_name s n = named_by (words (bare_line s n))

abbrev pub most : ℕ
most = 65

-- zeros
unfoldable pub no_knots : Sheet
no_knots =
    record {
      knots = 0;
      sloped = false;
      minutes = replicate most 0;
      ordinates = replicate most (pos 0);
      slopes = replicate most (pos 0);
      lines = replicate most 0;
      logs = replicate most false;
    }

-- a knot on line n, or a log in its place, goes behind those that stand, with its slope or without
unfoldable pub with_knot : Sheet → (n x : ℕ) → ℤ → (log sloped : Bool) → ℤ → Sheet
with_knot s n x y log sloped m =
    record {
      knots = s.knots + 1;
      sloped = sloped;
      minutes = set s.minutes s.knots x;
      ordinates = set s.ordinates s.knots y;
      slopes = set s.slopes s.knots m;
      lines = set s.lines s.knots n;
      logs = set s.logs s.knots log;
    }

-- what was lent and is left, where nothing is wrong
unfoldable pub left : {A E : Type 0} → Result Unit E → A → Result A E
left (Err e) a = Err e
left (Ok u) a = Ok a

unfoldable pub without_slope : Sheet → (n x : ℕ) → ℤ → (log : Bool) → Result Sheet Wrong
without_slope s n x y log = cond s.sloped (Err Wrong.Slopeless) (Ok (with_knot s n x y log false (pos 0)))

-- some knots, and none with a slope
abbrev pub unsloped : Sheet → Bool
unsloped s = not s.sloped && ltb 0 s.knots

unfoldable pub sloping : (mends : Bool) → Sheet → (n x : ℕ) → ℤ → (log : Bool) → ℤ → Result Sheet Wrong
sloping mends s n x y log m =
    cond mends (Err Wrong.Unmended) (cond (unsloped s) (Err Wrong.OddSlope) (Ok (with_knot s n x y log true m)))

-- line n is taken; a hole is a knot with the mark for its ordinate where the sheet is to be mended, else it is wrong
unfoldable pub taken : (mends : Bool) → Sheet → ℕ → Line → Result Sheet Wrong
taken mends s n Empty = Ok s
taken mends s n (Knot x y None) = without_slope s n x y false
taken mends s n (Knot x y (Some m)) = sloping mends s n x y false m
taken mends s n (Hole x) = cond mends (without_slope s n x hole false) (Err Wrong.Hole)
taken mends s n (Log x None) = without_slope s n x (pos 0) true
taken mends s n (Log x (Some m)) = sloping mends s n x (pos 0) true m

-- what is wrong, on that line
abbrev pub blame : Wrong → ℕ → Blame
blame wrong n = record { wrong = wrong; line = n }

unfoldable pub blaming : ℕ → Result Sheet Wrong → Result Sheet Blame
blaming n (Err wrong) = Err (blame wrong n)
blaming n (Ok s) = Ok s

unfoldable pub line_taken : (mends : Bool) → Sheet → ℕ → Result Line Wrong → Result Sheet Blame
line_taken mends s n (Err wrong) = Err (blame wrong n)
line_taken mends s n (Ok l) = blaming n (taken mends s n l)

abbrev pub with_line : (mends : Bool) → Sheet → ℕ → List ℕ → Result Sheet Blame
with_line mends s n l = line_taken mends s n (line l)

-- what follows where nothing is wrong
unfoldable pub then : {A : Type 0} → Result A Blame → (A → Result A Blame) → Result A Blame
then (Err b) f = Err b
then (Ok s) f = f s

-- the lines from line n on
unfoldable pub read : (mends : Bool) → Sheet → ℕ → List (List ℕ) → Result Sheet Blame
read mends s n [] = Ok s
read mends s n (l ∷ ls) = cond (ltb s.knots most) (then (with_line mends s n l) (λ t. read mends t (suc n) ls)) (Ok s)

abbrev pub longest : ℕ
longest = 65535

unfoldable pub sheet : (mends : Bool) → List ℕ → Result Sheet Blame
sheet mends s = cond (ltb longest (length s)) (Err (blame Wrong.TooLong 0)) (read mends no_knots 1 (lines s))
