-- A pre-heater's table as text (document 02, order 10): its words in order, each a whole number of hundredths,
-- up to the first that is none, and no further than the 21st value; and the line on which each stands. What is
-- blank, a line's end or a comment is so as in a sheet (crate `text`). Assumes nothing.
use Rattle.std.specs.Prelude.{ℕ, suc, ◌+◌, cond, List, [], ◌∷◌, ltb, ℤ, pos, length, set, replicate, Option, Some, None, Result, Ok, Err}
use Rattle.split.specs.Parts.{lines, bare, words}
use Rattle.numeral.specs.Number.{ordinate}
use Rattle.numeral.specs.declared.Wrong.{Wrong}
use Rattle.text.specs.declared.Blame.{Blame}
use Rattle.text.specs.Sheet.{blame, then, longest, bare_line}
use Rattle.values.specs.declared.Values.{Values}

-- one more than a table has
abbrev pub most : ℕ
most = 21

-- zeros
unfoldable pub no_values : Values
no_values = record { count = 0; values = replicate most (pos 0); lines = replicate most 0 }

-- a value on line n goes behind those that stand
unfoldable pub with_value : Values → (n : ℕ) → ℤ → Values
with_value v n y =
    record {
      count = v.count + 1;
      values = set v.values v.count y;
      lines = set v.lines v.count n;
    }

-- a word on line n; a table has no holes
unfoldable pub taken : Values → (n : ℕ) → Result (Option ℤ) Wrong → Result Values Blame
taken v n (Ok (Some y)) = Ok (with_value v n y)
taken v n (Ok None) = Err (blame Wrong.NotWhole n)
taken v n (Err wrong) = Err (blame wrong n)

-- the words of line n
unfoldable pub with_words : Values → (n : ℕ) → List (List ℕ) → Result Values Blame
with_words v n [] = Ok v
with_words v n (w ∷ ws) = cond (ltb v.count most) (then (taken v n (ordinate w)) (λ u. with_words u n ws)) (Ok v)

-- the lines from line n on
unfoldable pub read : Values → (n : ℕ) → List (List ℕ) → Result Values Blame
read v n [] = Ok v
read v n (l ∷ ls) = then (with_words v n (words (bare l))) (λ u. read u (suc n) ls)

unfoldable pub values : List ℕ → Result Values Blame
values s = cond (ltb longest (length s)) (Err (blame Wrong.TooLong 0)) (read no_values 1 (lines s))

-- ---- the word for which a line is refused: the first that is no number

unfoldable pub blamed_by : Result (Option ℤ) Wrong → (word behind : List ℕ) → List ℕ
blamed_by (Ok (Some y)) word behind = behind
blamed_by (Ok None) word behind = word
blamed_by (Err wrong) word behind = word

unfoldable pub first_wrong : List (List ℕ) → List ℕ
first_wrong [] = []
first_wrong (w ∷ ws) = blamed_by (ordinate w) w (first_wrong ws)

abbrev pub blamed : List ℕ → ℕ → List ℕ
blamed s n = first_wrong (words (bare_line s n))
