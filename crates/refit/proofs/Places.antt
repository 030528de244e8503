-- Two lists differ at no place exactly where they are the same; and the count of the places at which they differ as a loop takes it, from the front.
-- Assumes nothing.
use Prim.Native.Nat.{ℕ, ◌+◌, ◌≤◌, ◌<◌}
use native.Mathlib.Nat.{add-zero}
use native.Mathlib.Numerals.{add-one}
use native.Mathlib.Omega.{arith}
use mathlib.Core.Path.{◌≡◌, refl, ap₂}
use mathlib.Core.HLevel.{Discrete}
use mathlib.Core.Logic.{ite}
use mathlib.Core.List.{List, [], ◌∷◌}
use lib.ListN.{length, drop, get_or, drop_of_length-le}
use lib.Seq.{drop-cons}
use Rattle.refit.specs.Differing.{differing}

module _ {A : Type 0} (apart : Discrete A) where
  -- what one place counts
  abbrev one : A → A → ℕ
  one a b = ite (apart a b) 0 1

  one_same : {a b : A} → a ≡ b → one a b ≡ 0
  one_same {a} {b} e = elim (apart a b) as (λ t. ◌≡◌ {A = ℕ} (ite t 0 1) 0) [ yes s ↦ refl | no u ↦ absurd (u e) ]

  one_apart : {a b : A} → (a ≡ b → ⊥) → one a b ≡ 1
  one_apart {a} {b} u = elim (apart a b) as (λ t. ◌≡◌ {A = ℕ} (ite t 0 1) 1) [ yes s ↦ absurd (u s) | no v ↦ refl ]

  one_none : (a b : A) → one a b ≡ 0 → a ≡ b
  one_none a b = elim (apart a b) as (λ t. ◌≡◌ {A = ℕ} (ite t 0 1) 0 → a ≡ b) [ yes s ↦ λ e. s | no v ↦ λ e. absurd (omega arith) ]

  pub none_of_itself : (l : List A) → differing apart l l ≡ 0
  none_of_itself [] = refl
  none_of_itself (a ∷ l) = ap₂ (λ i j. i + j) (one_same {a = a} refl) (none_of_itself l)

  pub none_is_same : (l m : List A) → differing apart l m ≡ 0 → l ≡ m
  none_is_same [] [] e = refl
  none_is_same [] (b ∷ m) e = absurd (omega arith)
  none_is_same (a ∷ l) [] e = absurd (omega arith)
  none_is_same (a ∷ l) (b ∷ m) e = ap₂ (λ x xs. x ∷ xs) (one_none a b (omega arith)) (none_is_same l m (omega arith))

  -- ---- from the front

  -- the invariant: what is counted before place i, with what is behind it, is all
  pub record Counted (l m : List A) (i count : ℕ) : Type 0 where
    pub within : i ≤ length l
    pub few : count ≤ i
    pub all : count + differing apart (drop i l) (drop i m) ≡ differing apart l m

  module _ {l m : List A} where
    pub counted_none : Counted l m 0 0
    counted_none = record { within = omega arith; few = omega arith; all = omega arith }

    module _ {i count : ℕ} (c : Counted l m i count) where
      more : (d : A) (k : ℕ) → i < length l → length m ≡ length l → one (get_or l i d) (get_or m i d) ≡ k → k ≤ 1 → Counted l m (i + 1) (count + k)
      more d k p q e few =
          let here : differing apart (drop i l) (drop i m) ≡ one (get_or l i d) (get_or m i d) + differing apart (drop (i + 1) l) (drop (i + 1) m) =
          rw (add-one i, drop-cons l i d p, drop-cons m i d (omega arith)) refl in
          record { within = omega arith; few = omega (arith, c.few); all = omega (arith, here, e, c.all) }

      pub counted_same : (d : A) → i < length l → length m ≡ length l → get_or l i d ≡ get_or m i d → Counted l m (i + 1) count
      counted_same d p q e = rw add-zero at (more d 0 p q (one_same e) (omega arith))

      pub counted_apart : (d : A) → i < length l → length m ≡ length l → (get_or l i d ≡ get_or m i d → ⊥) → Counted l m (i + 1) (count + 1)
      counted_apart d p q u = more d 1 p q (one_apart u) (omega arith)

      pub counted_all : length l ≤ i → length m ≡ length l → count ≡ differing apart l m
      counted_all p q =
          let none : differing apart (drop i l) (drop i m) ≡ 0 = ap₂ (λ a b. differing apart a b) (drop_of_length-le l p) (drop_of_length-le m {i = i} (omega arith)) in
          omega (arith, none, c.all)
