-- What 4, 5, 6 and 9 have shown of the lists that they accept, for every kind: all that the curve's arithmetic asks of a card's numbers.
-- Document 01, "The curve and its card". Assumes nothing.
use mathlib.Core.Path.{◌≡◌, sym, ◌∙◌, ap, subst}
use mathlib.Core.Logic.{◌⊎◌, ⊎_elim}
use mathlib.Core.Bool.{false}
use mathlib.Core.List.{List}
use Prim.Native.Nat.{ℕ, zero, suc, ◌+◌, ◌-◌, ◌≤◌, ◌<◌, min}
use native.Mathlib.Nat.{le_trans, le-max_left, le-max_right, max-le, sub_self, eq-or-lt_of_le}
use native.Mathlib.Numerals.{add-one}
use native.Mathlib.Omega.{arith}
use borrow.Author.Tests.{ltb-false, leb-false, lt-ltb}
use lib.Dec.{ltb}
use lib.IntN.{ℤ, pos, nat_abs}
use lib.ListN.{length, get_or}
use Rattle.whole.specs.Whole.{beyond}
use Rattle.answer.specs.Answer.{accepted, each}
use Rattle.answer.proofs.Steps.{first_accepts, next_accepts, refuse_accepts, each_accepts}
use Rattle.curve.specs.Kind.{Kind}
use Rattle.curve.specs.Card.{Card, knot, knots, gap, back, on, joint}
use Rattle.curve.specs.Steps.{stands, slope_beyond, curvature_beyond, in_range}
use Rattle.curve.proofs.Accepted.{or_false, true_and_false}
use Rattle.minutes.specs.Gaps.{left_gap, right_gap, wider_gap}

within : (limit : ℕ) (z : ℤ) → beyond limit z ≡ false → nat_abs z ≤ limit
unfolding beyond
within limit z e = ltb-false limit (nat_abs z) e

-- ---- 4, 5, 6

pub record Stood (K : Kind) (xs : List ℕ) (ys : List ℤ) : Type 0 where
  pub rising : (i : ℕ) → i + 1 < length xs → get_or xs i 0 < get_or xs (i + 1) 0
  pub left_narrow : (i : ℕ) → i < length xs → left_gap xs i ≤ K.widest_gap
  pub ordinates : (i : ℕ) → i < length xs → nat_abs (get_or ys i (pos 0)) ≤ K.ordinates

pub stood : {K : Kind} {xs : List ℕ} {ys : List ℤ} → each (stands K xs ys) 0 (length xs) ≡ accepted → Stood K xs ys
unfolding stands back
stood {K} {xs} {ys} e =
    record {
      rising = λ i l. rises i (leb-false _ _ (true_and_false (ltb 0 (i + 1)) _ (lt-ltb 0 (i + 1) (omega arith)) (refuse_accepts 4 (i + 1) _ (first_accepts _ _ (at (i + 1) l)))));
      left_narrow = λ i l. ltb-false _ _ (refuse_accepts 5 i _ (first_accepts _ _ (next_accepts _ _ (at i l))));
      ordinates = λ i l. within _ _ (refuse_accepts 6 i _ (next_accepts _ _ (next_accepts _ _ (at i l))));
    }
  where
    at : (i : ℕ) → i < length xs → stands K xs ys i ≡ accepted
    at i l = each_accepts _ 0 (length xs) e i (omega arith) (omega arith)

    rises : (i : ℕ) → get_or xs (i + 1 - 1) 0 < get_or xs (i + 1) 0 → get_or xs i 0 < get_or xs (i + 1) 0
    rises i h = let same : i + 1 - 1 ≡ i = omega arith in subst (λ k. get_or xs k 0 < get_or xs (i + 1) 0) same h

-- ---- 9

pub record Ranged (K : Kind) (xs : List ℕ) (ms Ms : List ℤ) : Type 0 where
  pub slopes : (i : ℕ) → i < length xs → nat_abs (get_or ms i (pos 0)) ≤ K.slopes
  pub curvatures : (i : ℕ) → i < length xs → nat_abs (get_or Ms i (pos 0)) ≤ K.curvatures (wider_gap xs i)

pub ranged : {K : Kind} (c : Card) → each (in_range K c) 0 (knots c) ≡ accepted → Ranged K c.minutes c.slopes c.curvatures
unfolding in_range slope_beyond curvature_beyond joint knot knots gap on wider_gap
ranged {K} c e = record { slopes = λ i l. within _ _ (at i l).0; curvatures = λ i l. within _ _ (at i l).1 }
  where
    at : (i : ℕ) → i < length c.minutes → (slope_beyond K (joint c i) ≡ false) × (curvature_beyond K (joint c i) ≡ false)
    at i l = or_false _ _ (refuse_accepts 9 i _ (each_accepts _ 0 (knots c) e i (omega arith) (omega arith)))

-- ---- the gaps beside a knot

pub place_after : (n i : ℕ) → i + 1 < n → min (i + 1) (n - 1) ≡ i + 1
place_after n i l = omega arith

last_place : (n i : ℕ) → i + 1 ≡ n → min (i + 1) (n - 1) ≡ i
last_place n i e = omega arith

-- a knot is the last, or has one after it
last_or_not : (n i : ℕ) → i < n → (i + 1 ≡ n) ⊎ (i + 1 < n)
last_or_not n i l = eq-or-lt_of_le (omega arith)

module _ (xs : List ℕ) where
  pub right_gap_is : (i : ℕ) → i + 1 < length xs → right_gap xs i ≡ get_or xs (i + 1) 0 - get_or xs i 0
  right_gap_is i l = rw (place_after (length xs) i l)

  left_gap_is : (i : ℕ) → left_gap xs (suc i) ≡ get_or xs (suc i) 0 - get_or xs i 0
  unfolding back
  left_gap_is i = let same : suc i - 1 ≡ i = omega arith in rw same

  -- none on the left of the first knot, none on the right of the last, and between two knots one
  left_gap_none : left_gap xs 0 ≡ 0
  unfolding back
  left_gap_none = sub_self (get_or xs 0 0)

  right_gap_none : (i : ℕ) → i + 1 ≡ length xs → right_gap xs i ≡ 0
  right_gap_none i e = rw (last_place (length xs) i e) (sub_self (get_or xs i 0))

  gap_between : (i : ℕ) → suc i < length xs → right_gap xs i ≡ left_gap xs (suc i)
  gap_between i l = right_gap_is i (omega arith) ∙ ap (λ k. get_or xs k 0 - get_or xs i 0) (add-one i) ∙ sym (left_gap_is i)

  -- a gap is a gap of both its knots
  left_of_before : (i : ℕ) → i < length xs → left_gap xs i ≤ wider_gap xs (back i)
  unfolding back wider_gap
  left_of_before zero l = rw left_gap_none (omega arith)
  left_of_before (suc i) l =
      let same : i ≡ suc i - 1 = omega arith in
      subst (λ k. left_gap xs (suc i) ≤ wider_gap xs k) same (subst (λ g. g ≤ wider_gap xs i) (gap_between i l) (le-max_right (left_gap xs i) (right_gap xs i)))

  right_of_after : (i : ℕ) → i < length xs → right_gap xs i ≤ wider_gap xs (min (i + 1) (length xs - 1))
  unfolding wider_gap
  right_of_after i l = ⊎_elim (λ e. rw (right_gap_none i e) (omega arith)) (λ h. inner h) (last_or_not (length xs) i l)
    where
      inner : i + 1 < length xs → right_gap xs i ≤ wider_gap xs (min (i + 1) (length xs - 1))
      inner h =
          subst (λ k. right_gap xs i ≤ wider_gap xs k) (sym (place_after (length xs) i h ∙ add-one i))
          (subst (λ g. g ≤ wider_gap xs (suc i)) (sym (gap_between i (omega arith))) (le-max_left (left_gap xs (suc i)) (right_gap xs (suc i))))

module _ {K : Kind} {xs : List ℕ} {ys : List ℤ} (s : Stood K xs ys) where
  pub right_narrow : (i : ℕ) → i < length xs → right_gap xs i ≤ K.widest_gap
  right_narrow i l = ⊎_elim (λ e. rw (right_gap_none xs i e) (omega arith)) (λ h. rw (gap_between xs i (omega arith)) (s.left_narrow (suc i) (omega arith))) (last_or_not (length xs) i l)

  pub wider_narrow : (i : ℕ) → i < length xs → wider_gap xs i ≤ K.widest_gap
  unfolding wider_gap
  wider_narrow i l = max-le (s.left_narrow i l) (right_narrow i l)

-- ---- curvatures by a single gap

-- no wider gap has a wider limit
abbrev pub Narrows : Kind → Type 0
Narrows K = (h w : ℕ) → h ≤ w → w ≤ K.widest_gap → K.curvatures w ≤ K.curvatures h

module _ {K : Kind} {xs : List ℕ} {ys ms Ms : List ℤ} (n : Narrows K) (s : Stood K xs ys) (r : Ranged K xs ms Ms) (i : ℕ) (l : i < length xs) where
  by_gap : (j h : ℕ) → j < length xs → h ≤ wider_gap xs j → nat_abs (get_or Ms j (pos 0)) ≤ K.curvatures h
  by_gap j h p q = le_trans (r.curvatures j p) (n h (wider_gap xs j) q (wider_narrow s j p))

  pub curvature_by_left : nat_abs (get_or Ms i (pos 0)) ≤ K.curvatures (left_gap xs i)
  unfolding wider_gap
  curvature_by_left = by_gap i (left_gap xs i) l (le-max_left (left_gap xs i) (right_gap xs i))

  pub curvature_by_right : nat_abs (get_or Ms i (pos 0)) ≤ K.curvatures (right_gap xs i)
  unfolding wider_gap
  curvature_by_right = by_gap i (right_gap xs i) l (le-max_right (left_gap xs i) (right_gap xs i))

  pub curvature_before : nat_abs (get_or Ms (back i) (pos 0)) ≤ K.curvatures (left_gap xs i)
  unfolding back
  curvature_before = by_gap (back i) (left_gap xs i) (omega arith) (left_of_before xs i l)

  pub curvature_after : nat_abs (get_or Ms (min (i + 1) (length xs - 1)) (pos 0)) ≤ K.curvatures (right_gap xs i)
  curvature_after = by_gap (min (i + 1) (length xs - 1)) (right_gap xs i) (omega arith) (right_of_after xs i l)
