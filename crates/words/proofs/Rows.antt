-- A table of sentences as one text, a line for each, and how long they are at most.
-- Assumes nothing.
use Prim.Native.Nat.{ℕ, zero, suc, ◌+◌, ◌≤◌}
use Prim.Native.String.{String}
use mathlib.Core.Path.{◌≡◌, refl, sym}
use mathlib.Core.Bool.{Bool, true, false, ◌&&◌, true≢false}
use mathlib.Core.List.{List, [], ◌∷◌, ◌++◌}
use native.Mathlib.Omega.{arith}
use lib.Dec.{leb}
use lib.ListN.{length, get_or}
use borrow.Author.Tests.{leb-true}
use Rattle.decimal.specs.Put.{Put}
use Rattle.decimal.specs.Decimal.{spelled}
use Rattle.split.specs.Parts.{marks, split, lines}
use Rattle.words.specs.declared.Table.{Table}
use Rattle.words.specs.declared.Table.TheVariants.{Refusals, Places, Remedies, Wrongs}
use Rattle.words.specs.Sentences.{strings, sentence, longest}

-- a line for each, and the empty one behind the last line feed
abbrev pub rows : List String → List (List ℕ)
rows [] = [] ∷ []
rows (s ∷ ss) = spelled s ∷ rows ss

abbrev pub joined : List String → List ℕ
joined [] = []
joined (s ∷ ss) = spelled s ++ (10 ∷ joined ss)

row_is : (ss : List String) (n : ℕ) → get_or (rows ss) n [] ≡ spelled (get_or ss n "")
unfolding spelled
row_is [] zero = refl
row_is [] (suc n) = refl
row_is (s ∷ ss) zero = refl
row_is (s ∷ ss) (suc n) = row_is ss n

-- ---- two computed tests of all rows

pub is_a_text : (t : Table) → lines (joined (strings t)) ≡ rows (strings t)
unfolding spelled marks split
is_a_text Refusals = refl
is_a_text Places = refl
is_a_text Remedies = refl
is_a_text Wrongs = refl

abbrev all_short : List (List ℕ) → Bool
all_short [] = true
all_short (r ∷ rs) = leb (length r) longest && all_short rs

short : (t : Table) → all_short (rows (strings t)) ≡ true
unfolding spelled
short Refusals = refl
short Places = refl
short Remedies = refl
short Wrongs = refl

row_short : (rs : List (List ℕ)) → all_short rs ≡ true → (n : ℕ) → length (get_or rs n []) ≤ longest
row_short [] e n = omega arith
row_short (r ∷ rs) e n = go (leb (length r) longest) refl e n (row_short rs)
  where
    go : (b : Bool) → leb (length r) longest ≡ b → (b && all_short rs) ≡ true → (n : ℕ) → (all_short rs ≡ true → (n : ℕ) → length (get_or rs n []) ≤ longest)
        → length (get_or (r ∷ rs) n []) ≤ longest
    go true t e zero f = leb-true (length r) longest t
    go true t e (suc n) f = f e n
    go false t e n f = absurd (true≢false (sym e))

-- ---- what they say of a table

module _ (t : Table) (n : ℕ) where
  line_is : get_or (lines (joined (strings t))) n [] ≡ sentence t n
  unfolding sentence
  line_is = rw (is_a_text t) (row_is (strings t) n)

  pub sentence_short : length (sentence t n) ≤ longest
  unfolding sentence
  sentence_short = rw (← row_is (strings t) n) (row_short (rows (strings t)) (short t) n)

  pub line_fits : (at : ℕ) {room : ℕ} → at + longest ≤ room → at + length (get_or (lines (joined (strings t))) n []) ≤ room
  line_fits at h = rw line_is (omega (arith, sentence_short))

  pub line_put : {to to' : List ℕ} {at next : ℕ} → Put (get_or (lines (joined (strings t))) n []) to to' at next → Put (sentence t n) to to' at next
  line_put p = rw line_is at p
