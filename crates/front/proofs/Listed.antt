-- A list by what stands at each place: its length, its elements, when two are the same, and what a store changes of it.
-- Assumes nothing.
use Prim.Native.Nat.{ℕ, zero, suc, ◌+◌, ◌≤◌, ◌<◌}
use native.Mathlib.Numerals.{add-one}
use native.Mathlib.Nat.{ne_of_lt, ne_of_gt, eq-or-lt_of_le}
use native.Mathlib.Omega.{arith}
use mathlib.Core.Path.{◌≡◌, refl, sym, ap, ap₂, subst, ◌∙◌}
use mathlib.Core.Logic.{⊎_elim}
use mathlib.Core.List.{List, [], ◌∷◌, ◌++◌}
use lib.ListN.{length, get_or, set, take, length-append, get_or-append}
use lib.Seq.{get_or-set_same, get_or-set_other, get_or_at, get_or-take, ext_get_or, length-take-le}
use borrow.Author.Count.{below_more}
use Rattle.front.specs.Front.{listed, from}

module _ {A : Type 0} (P : ℕ → A) where
  pub length_listed : (n : ℕ) → length (listed P n) ≡ n
  length_listed zero = refl
  length_listed (suc n) = length-append (listed P n) (P n ∷ []) ∙ add-one (length (listed P n)) ∙ ap suc (length_listed n)

  pub get_d_listed : (d : A) (n k : ℕ) → k < n → get_or (listed P n) k d ≡ P k
  get_d_listed d zero k h = absurd (omega arith)
  get_d_listed d (suc n) k h =
      let within : (i : ℕ) → i < n → get_or (listed P (suc n)) i d ≡ P i =
      λ i p. get_or-append (listed P n) (P n ∷ []) d i (subst (λ (m : ℕ). i < m) (sym (length_listed n)) p) ∙ get_d_listed d n i p in
      let at = get_or_at (listed P n) (P n) [] d n (length_listed n) in
      below_more (λ (i : ℕ). get_or (listed P (suc n)) i d ≡ P i) n within at k (rw add-one h)

  pub is_listed : (d : A) (n : ℕ) (l : List A) → length l ≡ n → ((k : ℕ) → k < n → get_or l k d ≡ P k) → l ≡ listed P n
  is_listed d n l e at =
      ext_get_or d l (listed P n) (e ∙ sym (length_listed n)) (λ k h. let p : k < n = omega arith in at k p ∙ sym (get_d_listed d n k p))

  -- a list that is P below i, with P i stored at i, is P below i + 1
  pub grown_up : (l : List A) (i : ℕ) (s d : A) → i < length l → P i ≡ s → ((k : ℕ) → k < i → get_or l k d ≡ P k) → (k : ℕ) → k < i + 1 → get_or (set l i s) k d ≡ P k
  grown_up l i s d h e before =
      below_more (λ (k : ℕ). get_or (set l i s) k d ≡ P k) i (λ k p. get_or-set_other l i k s d (ne_of_lt p) ∙ before k p) (get_or-set_same l i s d h ∙ sym e)

  -- a list that is P above i and below m, with P i stored at i, is P from i up to m
  pub grown_down : (l : List A) (m i : ℕ) (s d : A) → i < length l → P i ≡ s → ((k : ℕ) → i < k → k < m → get_or l k d ≡ P k) → (k : ℕ) → i ≤ k → k < m → get_or (set l i s) k d ≡ P k
  grown_down l m i s d h e above k low high =
      ⊎_elim (λ p. subst (λ (j : ℕ). get_or (set l i s) j d ≡ P j) p (get_or-set_same l i s d h ∙ sym e))
      (λ p. get_or-set_other l i k s d (ne_of_gt p) ∙ above k p high) (eq-or-lt_of_le low)

pub listed_same : {A : Type 0} (P Q : ℕ → A) (n : ℕ) → ((k : ℕ) → k < n → P k ≡ Q k) → listed P n ≡ listed Q n
listed_same P Q zero same = refl
listed_same P Q (suc n) same = ap₂ (λ l a. l ++ (a ∷ [])) (listed_same P Q n (λ k h. same k (omega arith))) (same n (omega arith))

-- when a list of values is a given list
pub listed_is : {A : Type 0} (d : A) (P : ℕ → A) (l : List A) {k n : ℕ} → k ≡ n → length l ≡ n → ((j : ℕ) → j < n → P j ≡ get_or l j d) → listed P k ≡ l
listed_is d P l {k} {n} e q at = rw e (sym (is_listed P d n l q (λ j h. sym (at j h))))

-- the front of a list is the list of its first elements
pub front_listed : {A : Type 0} (d : A) (l : List A) (n : ℕ) → n ≤ length l → take n l ≡ listed (from d l) n
front_listed d l n h = is_listed (from d l) d n (take n l) (length-take-le n l h) (λ k p. get_or-take n l k d p)
