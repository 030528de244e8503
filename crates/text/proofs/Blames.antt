-- The word for which a line is refused, as the code finds it.
-- Assumes nothing.
use Prim.Native.Nat.{ℕ, ◌≤◌, ◌<◌}
use mathlib.Core.Path.{◌≡◌, refl}
use mathlib.Core.List.{List, [], ◌∷◌}
use native.Mathlib.Omega.{arith}
use lib.ListN.{length}
use Rattle.split.specs.Parts.{until, past, words}
use Rattle.numeral.specs.Number.{natural}
use Rattle.curve.specs.Card.{latest}
use Rattle.text.specs.Sheet.{knot, blamed_of, blamed_third, blamed_by}
use Rattle.split.specs.declared.Mark.TheVariants.{Blank, Word}
use Rattle.split.proofs.Words.{no_word}
use Rattle.text.proofs.Lines.{one, two, three, four}

none_left : (s : List ℕ) → length s ≡ 0 → s ≡ []
none_left [] e = refl
none_left (b ∷ s) e = absurd (omega arith)

module _ (s : List ℕ) {f : List ℕ} (first : f ≡ past Word s) where
  pub blames_none : length f ≡ 0 → f ≡ blamed_by (words s)
  unfolding blamed_by
  blames_none e = rw (no_word s (rw first at e)) (none_left f e)

  module _ (some : length f ≡ 0 → ⊥) {g : List ℕ} (second : g ≡ past Word (past Blank f)) where
    pub blames_one : length g ≡ 0 → until Blank f ≡ blamed_by (words s)
    unfolding blamed_by
    blames_one e = rw (one s first some second, no_word (past Blank f) (rw second at e))

    module _ (more : length g ≡ 0 → ⊥) {h : List ℕ} (third : h ≡ past Word (past Blank g)) where
      abbrev blamed_pair : List ℕ
      blamed_pair = blamed_of (natural latest (until Blank f)) (until Blank f) (until Blank g)

      pub blames_two : length h ≡ 0 → blamed_pair ≡ blamed_by (words s)
      unfolding blamed_by
      blames_two e = rw (two s first some second more third, no_word (past Blank g) (rw third at e))

      module _ (much : length h ≡ 0 → ⊥) {k : List ℕ} (fourth : k ≡ past Word (past Blank h)) where
        pub blames_three : length k ≤ 0 → blamed_third (knot (until Blank f) (until Blank g)) blamed_pair (until Blank h) ≡ blamed_by (words s)
        unfolding blamed_by
        blames_three l =
            let e : length k ≡ 0 = omega arith in
            rw (three s first some second more third much fourth, no_word (past Blank h) (rw fourth at e))

        pub blames_four : 0 < length k → until Blank k ≡ blamed_by (words s)
        unfolding blamed_by
        blames_four l = rw (four s first some second more third much fourth l)
