-- Changes in three arrays: what stands in them while a loop goes through the sheet.
-- Assumes nothing.
use Prim.Native.Nat.{ℕ, zero, suc, ◌+◌, ◌≤◌, ◌<◌}
use native.Mathlib.Numerals.{add-one}
use native.Mathlib.Nat.{eq-or-lt_of_le, lt_of_not-le}
use native.Mathlib.Decide.{dec_le}
use native.Mathlib.Omega.{arith}
use mathlib.Core.Path.{◌≡◌, refl, sym, ◌∙◌}
use mathlib.Core.Logic.{◌⊎◌, inl, inr, ⊎_elim, ◌≢◌}
use mathlib.Core.Bool.{Bool, true, false, cond}
use mathlib.Core.List.{List, [], ◌∷◌, ◌++◌, append-nil}
use lib.IntN.{ℤ}
use lib.ListN.{length, get_or, set, length-set, length-append, get_or-append, get_or-eq_default}
use lib.Seq.{get_or-set_same, get_or-set_other, get_or-append_seam}
use Rattle.front.proofs.Listed.{length_listed, get_d_listed, is_listed}
use Rattle.holes.specs.Hole.{hole_at, holes_to}
use Rattle.holes.specs.Needs.{most}
use Rattle.holes.proofs.Marks.{no_more_than_knots}
use Rattle.mend.specs.declared.Change.{Change}
use Rattle.mend.specs.Changes.{change_at, changes_to}
use Rattle.mend.specs.Promise.{no_change, column}

-- ---- as many as holes

module _ (ys zs : List ℤ) where
  pub changes_more : (i : ℕ) → changes_to ys zs (i + 1) ≡ changes_to ys zs i ++ cond (hole_at ys i) (change_at ys zs i ∷ []) []
  unfolding changes_to
  changes_more i = rw add-one

  pub as_many_as_holes : (i : ℕ) → length (changes_to ys zs i) ≡ holes_to ys i
  unfolding changes_to holes_to
  as_many_as_holes zero = refl
  as_many_as_holes (suc i) = length-append (changes_to ys zs i) _ ∙ rw (as_many_as_holes i) (go (hole_at ys i))
    where
      go : (t : Bool) → holes_to ys i + length (cond t (change_at ys zs i ∷ []) []) ≡ holes_to ys i + cond t 1 0
      go true = refl
      go false = refl

  pub no_more_changes : (i : ℕ) → length (changes_to ys zs i) ≤ i
  no_more_changes i = omega (arith, as_many_as_holes i, no_more_than_knots ys i)

-- ---- in the array

-- a change behind the others
pub column_more : (cs : List Change) → length cs < most → (c : Change) → set (column cs) (length cs) c ≡ column (cs ++ (c ∷ []))
unfolding column
column_more cs room c =
    is_listed (λ j. get_or (cs ++ (c ∷ [])) j no_change) no_change most (set (column cs) (length cs) c) (length-set (column cs) (length cs) c ∙ length_listed (λ j. get_or cs j no_change) most)
    (λ k h. ⊎_elim (λ p. ⊎_elim (λ e. here k (sym e)) (λ q. behind k q h) (eq-or-lt_of_le p)) (λ p. before k p h) (side k))
  where
    side : (k : ℕ) → (length cs ≤ k) ⊎ (k < length cs)
    side k = elim (dec_le (length cs) k) [ yes p ↦ inl p | no p ↦ inr (lt_of_not-le p) ]

    other : (k : ℕ) → k ≢ length cs → k < most → get_or (set (column cs) (length cs) c) k no_change ≡ get_or cs k no_change
    other k d h = get_or-set_other (column cs) (length cs) k c no_change d ∙ get_d_listed (λ j. get_or cs j no_change) no_change most k h

    here : (k : ℕ) → k ≡ length cs → get_or (set (column cs) (length cs) c) k no_change ≡ get_or (cs ++ (c ∷ [])) k no_change
    here k e = rw e (get_or-set_same (column cs) (length cs) c no_change (omega (arith, length_listed (λ j. get_or cs j no_change) most)) ∙ sym (get_or-append_seam cs c [] no_change))

    before : (k : ℕ) → k < length cs → k < most → get_or (set (column cs) (length cs) c) k no_change ≡ get_or (cs ++ (c ∷ [])) k no_change
    before k p h = other k (λ e. omega arith) h ∙ sym (get_or-append cs (c ∷ []) no_change k p)

    behind : (k : ℕ) → length cs < k → k < most → get_or (set (column cs) (length cs) c) k no_change ≡ get_or (cs ++ (c ∷ [])) k no_change
    behind k p h =
        other k (λ e. omega arith) h
        ∙ get_or-eq_default cs no_change {n = k} (omega arith)
        ∙ sym (get_or-eq_default (cs ++ (c ∷ [])) no_change {n = k} (omega (arith, length-append cs (c ∷ []))))

-- ---- and how many it holds

pub record Holds (cs changes : List Change) (count : ℕ) : Type 0 where
  pub changes_are : changes ≡ column cs
  pub count_is : count ≡ length cs

pub holds_more : {cs changes : List Change} {n : ℕ} (c : Change) → Holds cs changes n → n < most → Holds (cs ++ (c ∷ [])) (set changes n c) (n + 1)
holds_more {cs} c h room =
    record {
      changes_are = rw (h.changes_are, h.count_is) (column_more cs (omega (arith, h.count_is)) c);
      count_is = omega (arith, h.count_is, length-append cs (c ∷ []));
    }

-- the next knot is a hole, or not
module _ (ys zs : List ℤ) (i : ℕ) {changes changes' : List Change} {n n' : ℕ} (h : Holds (changes_to ys zs i) changes n) where
  pub holds_hole : {c : Change} → n < most → hole_at ys i ≡ true → c ≡ change_at ys zs i → changes' ≡ set changes n c → n' ≡ n + 1 → Holds (changes_to ys zs (i + 1)) changes' n'
  holds_hole room hole e is more = rw (changes_more ys zs i, hole, is, e, more) (holds_more (change_at ys zs i) h room)

  pub holds_sound : hole_at ys i ≡ false → changes' ≡ changes → n' ≡ n → Holds (changes_to ys zs (i + 1)) changes' n'
  holds_sound sound is same = rw (changes_more ys zs i, sound, is, same, append-nil) h
