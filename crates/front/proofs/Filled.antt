-- A loop that fills a list from its front.
-- Assumes nothing.
use Prim.Native.Nat.{ℕ, suc, ◌+◌, ◌≤◌, ◌<◌}
use native.Mathlib.Numerals.{add-one}
use mathlib.Core.Path.{◌≡◌, refl, sym, ◌∙◌}
use mathlib.Core.List.{List, ◌++◌}
use lib.ListN.{length, get_or, set, take, drop, length-set}
use lib.Seq.{set_at, take_at, drop-cons, append_snoc, length_front, length-take-le}
use Rattle.front.specs.Front.{listed, over, from}
use Rattle.front.proofs.Listed.{length_listed, front_listed}

-- l is l₀ with the first i values of f over its front
pub record Filled {A : Type 0} (f : ℕ → A) (i : ℕ) (l₀ l : List A) : Type 0 where
  pub same : length l ≡ length l₀
  pub is : l ≡ over f i l₀

module _ {A : Type 0} {f : ℕ → A} where
  pub filled_none : {l : List A} → Filled f 0 l l
  filled_none = record { same = refl; is = refl }

  pub filled_more : {i : ℕ} {l₀ l : List A} {v : A} → Filled f i l₀ l → i < length l₀ → v ≡ f i → Filled f (i + 1) l₀ (set l i v)
  filled_more {i} {l₀} {l} {v} h room e =
      let behind = drop (suc i) l₀ in
      record {
        same = length-set l i v ∙ h.same;
        is = rw (h.is, e, add-one, drop-cons l₀ i v room, set_at (listed f i) (get_or l₀ i v) behind (f i) i (length_listed f i)) (sym (append_snoc (listed f i) (f i) behind));
      }

-- a list that was filled by another's elements
pub filled_by : {A : Type 0} (d : A) (m : List A) {i n : ℕ} {l₀ l : List A} → Filled (from d m) i l₀ l → i ≡ n → n ≤ length m → l ≡ take n m ++ drop n l₀
filled_by d m {i} {n} {l₀} h e room = h.is ∙ rw (e, ← front_listed d m n room)

-- what stands at the front of a list once it is filled
pub front_over : {A : Type 0} (f : ℕ → A) (n : ℕ) (l : List A) → take n (over f n l) ≡ listed f n
front_over f n l = take_at (listed f n) (drop n l) n (length_listed f n)

pub length_over : {A : Type 0} (f : ℕ → A) (n : ℕ) (l : List A) → n ≤ length l → length (over f n l) ≡ length l
length_over f n l h = length_front l (listed f n) n (length_listed f n ∙ sym (length-take-le n l h))
