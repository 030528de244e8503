-- The name of a log's file, as the code finds it: where a line has no second word it finds none.
-- Assumes nothing.
use Prim.Native.Nat.{ℕ, ◌<◌}
use mathlib.Core.Path.{◌≡◌, refl, sym, ap, ◌∙◌}
use mathlib.Core.List.{List, [], ◌∷◌}
use native.Mathlib.Omega.{arith}
use lib.ListN.{length}
use Rattle.split.specs.Parts.{stop, until, past, words}
use Rattle.split.specs.declared.Mark.TheVariants.{Blank, Word}
use Rattle.split.proofs.Words.{no_word, next_word}
use Rattle.numeral.specs.Number.{starts}
use Rattle.text.specs.Sheet.{named, named_by}

next_named : (x t : List ℕ) → named (until Blank (past Word t)) ≡ named_by (x ∷ words t)
unfolding stop starts named named_by
next_named x t = go (past Word t) refl
  where
    go : (g : List ℕ) → past Word t ≡ g → named (until Blank g) ≡ named_by (x ∷ words t)
    go [] e = rw (no_word t (ap length e))
    go (b ∷ g) e =
        let some : 0 < length (past Word t) = rw e (omega arith) in
        sym (ap (λ l. named (until Blank l)) e) ∙ rw (next_word t some)

pub second_named : (s : List ℕ) → named (until Blank (past Word (past Blank (past Word s)))) ≡ named_by (words s)
unfolding stop starts named named_by
second_named s = go (past Word s) refl
  where
    go : (f : List ℕ) → past Word s ≡ f → named (until Blank (past Word (past Blank f))) ≡ named_by (words s)
    go [] e = rw (no_word s (ap length e))
    go (b ∷ f) e =
        let some : 0 < length (past Word s) = rw e (omega arith) in
        sym (ap (λ l. named (until Blank (past Word (past Blank l)))) e) ∙ next_named (until Blank (past Word s)) (past Blank (past Word s)) ∙ ap named_by (sym (next_word s some))
