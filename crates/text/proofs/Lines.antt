-- A line by its words, as the code finds them one after the other, and by its number.
-- Assumes nothing.
use Prim.Native.Nat.{ℕ, zero, suc, ◌-◌, ◌≤◌, ◌<◌}
use mathlib.Core.Path.{◌≡◌, refl, ap, ◌∙◌}
use mathlib.Core.List.{List, [], ◌∷◌}
use native.Mathlib.Omega.{arith}
use lib.ListN.{length, get_or}
use Rattle.split.specs.Parts.{until, past, lines, words, bare}
use Rattle.numeral.specs.Number.{signed_number}
use Rattle.text.specs.Sheet.{knot, with_slope, line_by, bare_line}
use Rattle.split.specs.declared.Mark.TheVariants.{Blank, Word}
use Rattle.std.specs.Prelude.{Ok, Err}
use Rattle.numeral.specs.declared.Wrong.{Wrong}
use Rattle.text.specs.declared.Line.TheVariants.{Empty}
use Rattle.split.proofs.Words.{no_word, next_word}

-- f is from the first word on, g from the second, h from the third, k from the fourth
module _ (s : List ℕ) {f : List ℕ} (first : f ≡ past Word s) where
  pub no_words : length f ≡ 0 → Ok Empty ≡ line_by (words s)
  unfolding line_by
  no_words e = rw (no_word s (rw first at e))

  module _ (some : length f ≡ 0 → ⊥) {g : List ℕ} (second : g ≡ past Word (past Blank f)) where
    pub one : words s ≡ until Blank f ∷ words (past Blank f)
    one = let l : 0 < length f = omega arith in rw first (next_word s (rw first at l))

    pub one_word : length g ≡ 0 → Err Wrong.TooFew ≡ line_by (words s)
    unfolding line_by
    one_word e = rw (one, no_word (past Blank f) (rw second at e))

    module _ (more : length g ≡ 0 → ⊥) {h : List ℕ} (third : h ≡ past Word (past Blank g)) where
      pub two : words s ≡ until Blank f ∷ until Blank g ∷ words (past Blank g)
      two =
          let l : 0 < length g = omega arith in
          let e : words (past Blank f) ≡ until Blank g ∷ words (past Blank g) = rw second (next_word (past Blank f) (rw second at l)) in
          one ∙ ap (λ ws. until Blank f ∷ ws) e

      pub two_words : length h ≡ 0 → knot (until Blank f) (until Blank g) ≡ line_by (words s)
      unfolding line_by
      two_words e = rw (two, no_word (past Blank g) (rw third at e))

      module _ (much : length h ≡ 0 → ⊥) {k : List ℕ} (fourth : k ≡ past Word (past Blank h)) where
        pub three : words s ≡ until Blank f ∷ until Blank g ∷ until Blank h ∷ words (past Blank h)
        three =
            let l : 0 < length h = omega arith in
            two ∙ ap (λ ws. until Blank f ∷ until Blank g ∷ ws) (rw third (next_word (past Blank g) (rw third at l)))

        pub three_words : length k ≤ 0 → with_slope (knot (until Blank f) (until Blank g)) (signed_number (until Blank h)) ≡ line_by (words s)
        unfolding line_by
        three_words l = let e : length k ≡ 0 = omega arith in rw (three, no_word (past Blank h) (rw fourth at e))

        pub four : 0 < length k → words s ≡ until Blank f ∷ until Blank g ∷ until Blank h ∷ until Blank k ∷ words (past Blank k)
        four l = three ∙ ap (λ ws. until Blank f ∷ until Blank g ∷ until Blank h ∷ ws) (rw fourth (next_word (past Blank h) (rw fourth at l)))

        pub four_words : 0 < length k → Err Wrong.TooMany ≡ line_by (words s)
        unfolding line_by
        four_words l = rw (four l)

-- ---- by its number

pub line_of_number : (s : List ℕ) (n : ℕ) → (n ≡ 0 → ⊥) → bare (get_or (lines s) (n - 1) []) ≡ bare_line s n
unfolding bare_line
line_of_number s zero z = absurd (z refl)
line_of_number s (suc n) z = let e : suc n - 1 ≡ n = omega arith in rw e

pub no_line : (s : List ℕ) (n : ℕ) → n ≡ 0 → [] ≡ bare_line s n
unfolding bare_line
no_line s n z = rw z
