-- The words of a line and the lines of a text, one by one, as the code takes them.
-- Assumes nothing.
use Prim.Native.Nat.{ℕ, ◌+◌, ◌≤◌, ◌<◌}
use mathlib.Core.Path.{◌≡◌, refl, sym, ap, ◌∙◌}
use mathlib.Core.List.{List, [], ◌∷◌}
use native.Mathlib.Omega.{arith}
use native.Mathlib.Numerals.{add-one}
use lib.IntN.{ℤ}
use lib.ListN.{length, length-drop}
use borrow.Author.Tests.{le-leb, lt-leb, lt-ltb, le-ltb}
use Rattle.split.specs.Parts.{stop, until, past, lines, words, bare}
use Rattle.split.specs.declared.Mark.TheVariants.{LineEnd, Blank, Word}
use Rattle.split.proofs.Stops.{parts_from, part, next_part, part_within}
use Rattle.split.proofs.Words.{has_bytes, no_word, next_word}
use Rattle.numeral.specs.Number.{ordinate}
use Rattle.numeral.specs.declared.Wrong.{Wrong}
use Rattle.text.specs.declared.Blame.{Blame}
use Rattle.std.specs.Prelude.{Some, None, Ok, Err}
use Rattle.text.specs.Sheet.{then, longest}
use Rattle.values.specs.Values.{most, no_values, taken, with_words, read, values, first_wrong, blamed_by}
use Rattle.values.specs.declared.Values.{Values}

nothing : (s : List ℕ) → length s ≡ 0 → s ≡ []
nothing [] e = refl
nothing (b ∷ s) e = absurd (omega arith)

-- ---- the words of a line: f is from the first word on

module _ (s : List ℕ) {f : List ℕ} (first : f ≡ past Word s) where
  none : length f ≡ 0 → words s ≡ []
  none e = no_word s (rw first at e)

  module _ (v : Values) (n : ℕ) where
    pub no_more : length f ≡ 0 → Ok v ≡ with_words v n (words s)
    unfolding with_words
    no_more e = rw (none e)

  pub no_wrong : length f ≡ 0 → f ≡ first_wrong (words s)
  unfolding first_wrong
  no_wrong e = nothing f e ∙ rw (none e)

  module _ (some : length f ≡ 0 → ⊥) where
    one : words s ≡ until Blank f ∷ words (past Blank f)
    one = let l : 0 < length f = omega arith in rw first (next_word s (rw first at l))

    -- what is left is shorter
    pub shorter : length (past Blank f) < length s
    shorter =
        let l : 0 < length f = omega arith in
        let b : 0 < stop Blank f = rw first (has_bytes s (rw first at l)) in
        omega (arith, b, length-drop (stop Blank f) f, length-drop (stop Word s) s, ap length first)

    -- by what the first word is
    pub goes_past : {y : ℤ} → ordinate (until Blank f) ≡ Ok (Some y) → first_wrong (words (past Blank f)) ≡ first_wrong (words s)
    unfolding first_wrong blamed_by
    goes_past e = rw (one, e)

    pub stops_at_hole : ordinate (until Blank f) ≡ Ok None → until Blank f ≡ first_wrong (words s)
    unfolding first_wrong blamed_by
    stops_at_hole e = rw (one, e)

    pub stops_at_wrong : {wrong : Wrong} → ordinate (until Blank f) ≡ Err wrong → until Blank f ≡ first_wrong (words s)
    unfolding first_wrong blamed_by
    stops_at_wrong e = rw (one, e)

    module _ (v : Values) (n : ℕ) where
      pub stays_full : most ≤ v.count → Ok v ≡ with_words v n (words s)
      unfolding with_words
      stays_full l = rw (one, le-ltb v.count most l)

      module _ (l : v.count < most) where
        stepped : then (taken v n (ordinate (until Blank f))) (λ u. with_words u n (words (past Blank f))) ≡ with_words v n (words s)
        unfolding with_words
        stepped = rw (one, lt-ltb v.count most l)

        pub next : {u : Values} → taken v n (ordinate (until Blank f)) ≡ Ok u → with_words u n (words (past Blank f)) ≡ with_words v n (words s)
        unfolding then
        next e = rw e at stepped

        pub breaks : {b : Blame} → taken v n (ordinate (until Blank f)) ≡ Err b → Err b ≡ with_words v n (words s)
        unfolding then
        breaks e = rw e at stepped

-- ---- the lines

abbrev from : List ℕ → ℕ → List (List ℕ)
from s at = parts_from LineEnd s at

-- the loop's invariant: what is left of the text decides
pub record Reading (s : List ℕ) (v : Values) (n at : ℕ) : Type 0 where
  pub decides : read v n (from s at) ≡ read no_values 1 (lines s)
  pub few : n ≤ at + 1
  pub within : at ≤ length s + 1

pub reading_starts : (s : List ℕ) → Reading s no_values 1 0
reading_starts s = record { decides = rw (le-leb 0 (length s) (omega arith)); few = omega arith; within = omega arith }

module _ {s : List ℕ} {v : Values} {n at : ℕ} (r : Reading s v n at) where
  whole : length s ≤ longest → read no_values 1 (lines s) ≡ values s
  unfolding values
  whole short = rw (le-ltb longest (length s) short)

  pub reading_ends : length s ≤ longest → length s < at → Ok v ≡ values s
  unfolding read
  reading_ends short l = rw (lt-leb at (length s) l) at r.decides ∙ whole short

  module _ (h : at ≤ length s) where
    abbrev found : List ℕ
    found = part LineEnd s at h

    step : read v n (from s at) ≡ then (with_words v n (words (bare found))) (λ u. read u (n + 1) (from s (at + length found + 1)))
    unfolding read
    step = rw (next_part LineEnd s at h, add-one n)

    pub reading_goes_on : {u : Values} → with_words v n (words (bare found)) ≡ Ok u → Reading s u (n + 1) (at + length found + 1)
    unfolding then
    reading_goes_on e =
        record {
          decides = rw e at (sym step) ∙ r.decides;
          few = omega (arith, r.few);
          within = omega (arith, part_within LineEnd s at h);
        }

    pub reading_breaks : length s ≤ longest → {b : Blame} → with_words v n (words (bare found)) ≡ Err b → Err b ≡ values s
    unfolding then
    reading_breaks short e = rw e at (sym step) ∙ r.decides ∙ whole short
