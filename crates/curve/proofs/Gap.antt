-- The gap of a minute: what it is, that nothing else is it, and that at a knot the gap on its left reads the same.
-- Assumes nothing.
use mathlib.Core.Path.{◌≡◌, refl, sym, ap, ◌∙◌, subst}
use mathlib.Core.Bool.{Bool, true, false, cond}
use mathlib.Core.List.{List}
use Prim.Native.Nat.{ℕ, zero, suc, ◌+◌, ◌-◌, ◌≤◌, ◌<◌}
use native.Mathlib.Omega.{arith}
use native.Mathlib.Numerals.{add-one}
use native.Mathlib.Decide.{ℕ_discrete}
use lib.Dec.{leb, ltb}
use lib.ListN.{length, get_or}
use borrow.Author.Tests.{leb-true, leb-false, le-ltb, ltb-false}
use Rattle.answer.specs.Answer.{accepted, refuse}
use Rattle.answer.proofs.Steps.{refuse_accepts}
use Rattle.curve.specs.Kind.{Kind}
use Rattle.curve.specs.Card.{Card, knots, knot, gap}
use Rattle.curve.specs.Steps.{outside}
use Rattle.curve.specs.Reading.{last_at, gap_of, reads}
use Rattle.curve.proofs.Knots.{reads_left, reads_right}
use Rattle.curve.proofs.Accepted.{Good, Rises, never_fall, rising, not_falling, gap_wide, or_false}

-- i is the gap of the minute: an inner knot belongs to the gap on its right, the last knot to the last gap
pub record IsGap (xs : List ℕ) (minute i : ℕ) : Type 0 where
  pub inside : i + 1 < length xs
  pub from : get_or xs i 0 ≤ minute
  pub before : i + 2 < length xs → minute < get_or xs (i + 1) 0

module _ (xs : List ℕ) (minute : ℕ) (start : get_or xs 0 0 ≤ minute) where
  record Last (i j : ℕ) : Type 0 where
    low : j ≤ i
    at_or_before : get_or xs j 0 ≤ minute
    next_after : j < i → minute < get_or xs (j + 1) 0

  last_is : (i : ℕ) → Last i (last_at xs minute i)
  unfolding last_at
  last_is zero = record { low = omega arith; at_or_before = start; next_after = λ h. absurd (omega arith) }
  last_is (suc i) = go (last_is i) (leb (get_or xs (suc i) 0) minute) refl
    where
      go : Last i (last_at xs minute i) → (b : Bool) → leb (get_or xs (suc i) 0) minute ≡ b → Last (suc i) (cond b (suc i) (last_at xs minute i))
      go ih true e = record { low = omega arith; at_or_before = leb-true _ _ e; next_after = λ h. absurd (omega arith) }
      go ih false e = record { low = omega (arith, ih.low); at_or_before = ih.at_or_before; next_after = after }
        where
          after : last_at xs minute i < suc i → minute < get_or xs (last_at xs minute i + 1) 0
          after h = elim (ℕ_discrete (last_at xs minute i) i) [ yes s ↦ subst (λ k. minute < get_or xs k 0) (ap suc (sym s) ∙ sym (add-one _)) (leb-false _ _ e) | no s ↦ ih.next_after (omega (arith, ih.low)) ]

  pub gap_is : 2 ≤ length xs → IsGap xs minute (gap_of xs minute)
  unfolding gap_of
  gap_is h = record { inside = omega (arith, l.low); from = l.at_or_before; before = λ k. l.next_after (omega arith) }
    where
      l : Last (length xs - 2) (last_at xs minute (length xs - 2))
      l = last_is (length xs - 2)

-- what is not refused with 11 stands from the first knot to the last
pub in_card : (xs : List ℕ) (minute : ℕ) → outside xs minute ≡ accepted → (get_or xs 0 0 ≤ minute) × (minute ≤ get_or xs (length xs - 1) 0)
unfolding outside
in_card xs minute e =
    let tests = or_false (ltb minute (get_or xs 0 0)) (ltb (get_or xs (length xs - 1) 0) minute) (refuse_accepts 11 0 _ e) in
    (ltb-false minute (get_or xs 0 0) tests.0, ltb-false (get_or xs (length xs - 1) 0) minute tests.1)

pub card_in : (xs : List ℕ) (minute : ℕ) → get_or xs 0 0 ≤ minute → minute ≤ get_or xs (length xs - 1) 0 → outside xs minute ≡ accepted
unfolding outside refuse
card_in xs minute from to = rw (le-ltb _ _ from, le-ltb _ _ to)

-- only one gap is the minute's
pub gap_once : {xs : List ℕ} {minute i j : ℕ} → Rises xs → IsGap xs minute i → IsGap xs minute j → i ≡ j
gap_once {xs} {minute} r a b = omega (arith, not_less a b, not_less b a)
  where
    not_less : {i j : ℕ} → IsGap xs minute i → IsGap xs minute j → i < j → ⊥
    not_less {i} {j} a b l = omega (arith, a.before (omega (arith, b.inside)), never_fall xs r (i + 1) j (omega arith) (omega (arith, b.inside)), b.from)

module _ {K : Kind} {c : Card} (g : Good K c) {minute : ℕ} where
  -- a gap that has the minute at one of its ends reads as the minute's own
  pub reads_alike : (i j : ℕ) → IsGap c.minutes minute i → j + 1 < knots c → (knot c j).x ≤ minute → minute ≤ (knot c (j + 1)).x →
      reads (knot c j) (knot c (j + 1)) (minute - (knot c j).x) ≡ reads (knot c i) (knot c (i + 1)) (minute - (knot c i).x)
  unfolding gap knots knot
  reads_alike i j a l lo hi = elim (ℕ_discrete i j) [ yes s ↦ rw s | no s ↦ left_of s ]
    where
      -- the other gap is the one on the left
      beside : ¬ (i ≡ j) → i ≡ j + 1
      beside s = omega (arith, s, below, above)
        where
          below : i < j → ⊥
          below k = omega (arith, a.before (omega arith), not_falling g (i + 1) j (omega arith) (omega arith))

          above : j + 1 < i → ⊥
          above k = omega (arith, rising g (j + 1) i k (omega (arith, a.inside)), a.from)

      left_of : ¬ (i ≡ j) → reads (knot c j) (knot c (j + 1)) (minute - (knot c j).x) ≡ reads (knot c i) (knot c (i + 1)) (minute - (knot c i).x)
      left_of s = rw (right_end, left_end) (reads_right (knot c j) (knot c (j + 1)) (gap_wide g j l) ∙ sym (rw next (reads_left (knot c (j + 1)) (knot c (j + 1 + 1)) (gap_wide g (j + 1) inside))))
        where
          next : i ≡ j + 1
          next = beside s

          inside : j + 1 + 1 < knots c
          inside = omega (arith, a.inside, next)

          at_knot : minute ≡ (knot c (j + 1)).x
          at_knot = omega (arith, subst (λ k. (knot c k).x ≤ minute) next a.from)

          right_end : minute - (knot c j).x ≡ gap (knot c j) (knot c (j + 1))
          right_end = rw at_knot

          left_end : minute - (knot c i).x ≡ 0
          left_end = rw next (omega (arith, at_knot))
