-- What the parts of a complaint or of a mended knot's line are, and how long at most.
-- Assumes nothing.
use Prim.Native.Nat.{ℕ, suc, ◌+◌, ◌≤◌}
use mathlib.Core.Path.{◌≡◌, refl}
use mathlib.Core.Bool.{Bool, true, false, cond, ◌&&◌}
use mathlib.Core.List.{List, [], ◌∷◌, ◌++◌}
use native.Mathlib.Omega.{arith}
use lib.Dec.{ltb, eqb}
use lib.IntN.{ℤ, pos, negsuc}
use lib.ListN.{length, length-append}
use borrow.Author.Tests.{eq-eqb, ne_eqb, ltb-false}
use Rattle.decimal.specs.Put.{Put}
use Rattle.decimal.specs.Decimal.{spelled, places, decimal, worded, signed, field}
use Rattle.decimal.proofs.Lengths.{length_worded}
use Rattle.split.specs.Parts.{stop}
use Rattle.split.specs.declared.Mark.TheVariants.{Hidden}
use Rattle.numeral.specs.Number.{plain}
use Rattle.words.specs.declared.Table.TheVariants.{Places}
use Rattle.words.specs.Sentences.{longest, sentence}
use Rattle.words.specs.Said.{at_line, counts, at_place, quoted, shown}
use Rattle.words.proofs.Rows.{sentence_short}

-- ---- the line

module _ (line : ℕ) where
  pub no_line : line ≡ 0 → at_line line ≡ spelled ": "
  unfolding at_line
  no_line e = rw (eq-eqb line 0 e)

  pub a_line : (line ≡ 0 → ⊥) → at_line line ≡ worded ":" line ++ spelled ": "
  unfolding at_line
  a_line e = rw (ne_eqb line 0 e)

  pub length_at_line : length (at_line line) ≤ 23
  unfolding at_line spelled
  length_at_line = go (eqb line 0)
    where
      go : (b : Bool) → length (cond b (spelled ": ") (worded ":" line ++ spelled ": ")) ≤ 23
      go true = omega arith
      go false = omega (arith, length-append (worded ":" line) (spelled ": "), length_worded ":" line)

-- ---- the place

module _ (number line : ℕ) where
  pub counts_by_number : line ≡ 0 → counts number line ≡ sentence Places number
  unfolding counts
  counts_by_number e = rw (eq-eqb line 0 e)

  pub counts_knots : (line ≡ 0 → ⊥) → counts number line ≡ spelled "knot"
  unfolding counts
  counts_knots e = rw (ne_eqb line 0 e)

  pub length_counts : length (counts number line) ≤ longest
  unfolding counts spelled
  length_counts = go (eqb line 0)
    where
      go : (b : Bool) → length (cond b (sentence Places number) (spelled "knot")) ≤ longest
      go true = sentence_short Places number
      go false = omega arith

module _ (number place line : ℕ) where
  pub no_place : length (counts number line) ≡ 0 → at_place number place line ≡ []
  unfolding at_place
  no_place e = rw (eq-eqb (length (counts number line)) 0 e)

  pub a_place : (length (counts number line) ≡ 0 → ⊥) → at_place number place line ≡ counts number line ++ worded " " place ++ spelled ": "
  unfolding at_place
  a_place e = rw (ne_eqb (length (counts number line)) 0 e)

  length_behind : length (counts number line ++ worded " " place ++ spelled ": ") ≤ longest + 23
  unfolding spelled
  length_behind =
      omega
      (arith, length-append (counts number line ++ worded " " place) (spelled ": "), length-append (counts number line) (worded " " place), length_worded " " place, length_counts number line)

  pub length_at_place : length (at_place number place line) ≤ longest + 23
  unfolding at_place
  length_at_place = go (eqb (length (counts number line)) 0)
    where
      go : (b : Bool) → length (cond b [] (counts number line ++ worded " " place ++ spelled ": ")) ≤ longest + 23
      go true = omega arith
      go false = length_behind

-- what was put where the offset did not move
pub put_nothing : {words text text' : List ℕ} {at next : ℕ} → Put words text text' at next → next ≡ at → (length words ≡ 0) × Put [] text text' at at
put_nothing {words = []} p e = (refl, rw e at p)
put_nothing {words = w ∷ ws} p e = absurd (omega (arith, p.behind))

-- ---- a word that is shown

module _ (line : ℕ) (word : List ℕ) where
  pub shows_text : line ≡ 0 → shown line word ≡ spelled "the text"
  unfolding shown
  shows_text e = rw (eq-eqb line 0 e)

  module _ (some : line ≡ 0 → ⊥) where
    pub shows_word : plain word ≡ true → shown line word ≡ quoted word
    unfolding shown
    shows_word e = rw (ne_eqb line 0 some, e)

    pub hides_word : plain word ≡ false → shown line word ≡ spelled "this word"
    unfolding shown
    hides_word e = rw (ne_eqb line 0 some, e)

  pub length_shown : length (shown line word) ≤ 34
  unfolding shown plain spelled
  length_shown = go (eqb line 0) (ltb 32 (length word)) (ltb 0 (length word) && eqb (stop Hidden word) (length word)) refl
    where
      go : (n l b : Bool) → ltb 32 (length word) ≡ l → length (cond n (spelled "the text") (cond (cond l false b) (quoted word) (spelled "this word"))) ≤ 34
      go true l b t = omega arith
      go false true b t = omega arith
      go false false true t = omega (arith, length-append (spelled "'") (word ++ spelled "'"), length-append word (spelled "'"), ltb-false 32 (length word) t)
      go false false false t = omega arith

pub length_plain : (word : List ℕ) → plain word ≡ true → length word ≤ 32
unfolding plain
length_plain word e = go (ltb 32 (length word)) refl e
  where
    go : (l : Bool) → ltb 32 (length word) ≡ l → cond l false (ltb 0 (length word) && eqb (stop Hidden word) (length word)) ≡ true → length word ≤ 32
    go true t e = let z : ◌≡◌ {A = ℕ} 0 1 = cc in absurd (omega arith)
    go false t e = ltb-false 32 (length word) t

-- ---- any number, with the byte behind it

pub length_any_field : (z : ℤ) (parting : ℕ) → length (field z parting) ≤ places + 2
unfolding spelled signed field
length_any_field (pos n) parting = omega (arith, length-append (decimal n) (parting ∷ []), length_worded "" n)
length_any_field (negsuc n) parting = omega (arith, length-append (decimal (suc n)) (parting ∷ []), length_worded "" (suc n))
