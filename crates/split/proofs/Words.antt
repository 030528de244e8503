-- The words of a text, one by one: blanks are passed over, then a word goes to the next blank.
-- Assumes nothing.
use Prim.Native.Nat.{ℕ, suc, ◌<◌}
use mathlib.Core.Path.{◌≡◌, refl, ap, ◌∙◌}
use mathlib.Core.Bool.{Bool, true, false, not, cond}
use mathlib.Core.List.{List, [], ◌∷◌}
use native.Mathlib.Omega.{arith}
use lib.Dec.{leb-suc-suc}
use lib.ListN.{length, drop}
use borrow.Author.Tests.{le-leb}
use Rattle.split.specs.Parts.{blank, marks, stop, until, past, split, some, words}
use Rattle.split.specs.declared.Mark.TheVariants.{Blank, Word}
use Rattle.split.proofs.Stops.{length_until, parts_from, first_part}

skipped : (s : List ℕ) → words s ≡ words (past Word s)
unfolding marks stop split some words
skipped [] = refl
skipped (b ∷ s) = go (blank b) refl (skipped s)
  where
    go : (t : Bool) → blank b ≡ t → words s ≡ words (past Word s) → words (b ∷ s) ≡ words (drop (cond (not t) 0 (suc (stop Word s))) (b ∷ s))
    go true e h = rw e h
    go false e h = refl

pub has_bytes : (s : List ℕ) → 0 < length (past Word s) → 0 < stop Blank (past Word s)
unfolding marks stop
has_bytes [] l = absurd (omega arith)
has_bytes (b ∷ s) l = go (blank b) refl l (has_bytes s)
  where
    go : (t : Bool) → blank b ≡ t → 0 < length (drop (cond (not t) 0 (suc (stop Word s))) (b ∷ s)) → (0 < length (past Word s) → 0 < stop Blank (past Word s))
        → 0 < stop Blank (drop (cond (not t) 0 (suc (stop Word s))) (b ∷ s))
    go true e l h = h l
    go false e l h = rw e (omega arith)

-- what follows the first part has the words behind it
behind : (s : List ℕ) → some (parts_from Blank s (suc (stop Blank s))) ≡ words (past Blank s)
unfolding marks stop split some words
behind [] = refl
behind (b ∷ s) = go (blank b) refl (behind s)
  where
    go : (t : Bool) → blank b ≡ t → some (parts_from Blank s (suc (stop Blank s))) ≡ words (past Blank s)
        → some (parts_from Blank (b ∷ s) (suc (cond t 0 (suc (stop Blank s))))) ≡ words (drop (cond t 0 (suc (stop Blank s))) (b ∷ s))
    go true e h = rw (le-leb 1 (suc (length s)) (omega arith), e)
    go false e h = rw (leb-suc-suc (suc (stop Blank s)) (length s)) h

pub kept : (p : List ℕ) (ps : List (List ℕ)) → 0 < length p → some (p ∷ ps) ≡ p ∷ some ps
unfolding some
kept [] ps l = absurd (omega arith)
kept (b ∷ p) ps l = refl

nothing : (s : List ℕ) → length s ≡ 0 → words s ≡ []
unfolding split some words
nothing [] e = refl
nothing (b ∷ s) e = absurd (omega arith)

pub no_word : (s : List ℕ) → length (past Word s) ≡ 0 → words s ≡ []
no_word s e = skipped s ∙ nothing (past Word s) e

split_first : (s : List ℕ) → words s ≡ some (until Blank s ∷ parts_from Blank s (suc (stop Blank s)))
unfolding words
split_first s = ap some (first_part Blank s)

pub next_word : (s : List ℕ) → 0 < length (past Word s) → words s ≡ until Blank (past Word s) ∷ words (past Blank (past Word s))
next_word s l =
    let t = past Word s in
    let n : 0 < length (until Blank t) = rw (length_until Blank t) (has_bytes s l) in
    skipped s ∙ split_first t ∙ kept _ _ n ∙ ap (λ ws. until Blank t ∷ ws) (behind t)
