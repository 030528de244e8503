-- A card's swing, from what the code has: the gap that goes furthest is one of the card's. Assumes nothing.
use mathlib.Core.Path.{◌≡◌, refl, ap}
use Prim.Native.Nat.{ℕ, ◌+◌, ◌-◌, ◌≤◌, ◌<◌, max}
use native.Mathlib.Nat.{le_of_lt}
use native.Mathlib.Decide.{dec_lt}
use native.Mathlib.Omega.{arith}
use borrow.Author.Tests.{lt-ltb, le-ltb}
use Rattle.answer.specs.Answer.{Verdict, accepted}
use Rattle.curve.specs.Card.{Card, knots, knot, gap}
use Rattle.swing.specs.declared.Swung.{Swung}
use Rattle.swing.specs.declared.AtKnot.{AtKnot}
use Rattle.swing.specs.Swing.{peak, below_at, above_at, gap_swing, furthest, first_minute, widest, widest_of, swung}
use Rattle.swing.proofs.Peak.{FirstLargest, peak_is}

pub widest_is : (c : Card) → FirstLargest (λ j. furthest (gap_swing c j)) (knots c - 2) (widest c)
unfolding widest
widest_is c = peak_is _ _

-- ---- a gap

-- the first place at which the larger of two functions is largest is where the one of them is, if the other
-- is nowhere larger and before that place smaller
leads : {f g k : ℕ → ℕ} {n p q : ℕ} → ((t : ℕ) → k t ≡ max (f t) (g t)) → FirstLargest f n p → FirstLargest g n q → g q ≤ f p → ((t : ℕ) → t < p → g t < f p) → FirstLargest k n p
leads {p} e F G less before =
    record {
      inside = F.inside;
      largest = λ i l. omega (arith, e i, e p, F.largest i l, G.largest i l);
      first = λ i l. omega (arith, e i, e p, F.first i l, before i l);
    }

module _ (c : Card) (j : ℕ) where
  abbrev h : ℕ
  h = gap (knot c j) (knot c (j + 1))

  abbrev pub beyond_at : ℕ → ℕ
  beyond_at t = max (below_at c j t) (above_at c j t)

  pub lowest_is : FirstLargest (below_at c j) h (peak (below_at c j) h)
  lowest_is = peak_is (below_at c j) h

  pub highest_is : FirstLargest (above_at c j) h (peak (above_at c j) h)
  highest_is = peak_is (above_at c j) h

  -- the minutes from the left knot to the first minute at which the gap goes as far as it goes
  pub record FirstFurthest : Type 0 where
    pub after : ℕ
    pub minute : first_minute (gap_swing c j) ≡ (knot c j).x + after
    pub is : FirstLargest beyond_at h after
    pub far : beyond_at after ≡ furthest (gap_swing c j)

  pub first_furthest : FirstFurthest
  unfolding gap_swing first_minute furthest
  first_furthest =
      elim (dec_lt B A) [
        | yes l ↦ high (rw (le-ltb A B (le_of_lt l), lt-ltb B A l)) (le_of_lt l) (λ t k. omega (arith, L.largest t (omega (arith, H.inside))))
        | no m ↦ elim (dec_lt A B) [
          | yes l ↦ low (rw (lt-ltb A B l)) (le_of_lt l) (λ t k. omega (arith, H.largest t (omega (arith, L.inside))))
          | no n ↦ elim (dec_lt a b) [
            | yes l ↦ high (rw (le-ltb A B (omega (arith, n)), le-ltb B A (omega (arith, m))) (omega arith)) (omega (arith, n)) (λ t k. omega (arith, m, n, L.first t (omega arith)))
            | no o ↦ low (rw (le-ltb A B (omega (arith, n)), le-ltb B A (omega (arith, m))) (omega (arith, o))) (omega (arith, m)) (λ t k. omega (arith, m, n, H.first t (omega (arith, o))))
          ]
        ]
      ]
    where
      a : ℕ
      a = peak (above_at c j) h

      b : ℕ
      b = peak (below_at c j) h

      A : ℕ
      A = above_at c j a

      B : ℕ
      B = below_at c j b

      H : FirstLargest (above_at c j) h a
      H = highest_is

      L : FirstLargest (below_at c j) h b
      L = lowest_is

      low : first_minute (gap_swing c j) ≡ (knot c j).x + b → A ≤ B → ((t : ℕ) → t < b → above_at c j t < B) → FirstFurthest
      low e less before = record { after = b; minute = e; is = leads (λ t. refl) L H less before; far = omega (arith, H.largest b L.inside) }

      high : first_minute (gap_swing c j) ≡ (knot c j).x + a → B ≤ A → ((t : ℕ) → t < a → below_at c j t < A) → FirstFurthest
      high e less before = record { after = a; minute = e; is = leads (λ t. omega arith) H L less before; far = omega (arith, L.largest a H.inside) }

-- ---- a card

pub knot_inside : (c : Card) {w : AtKnot} → w ≡ widest_of c → w.knot ≤ knots c - 2
unfolding widest_of
knot_inside c e = omega (arith, ap (λ w. w.knot) e, (widest_is c).inside)

pub swung_given : {v : Verdict} {c d : Card} {w : AtKnot} {m : ℕ} → v ≡ accepted → d ≡ c → w ≡ widest_of d → m ≡ first_minute w.gap
    → ◌≡◌ {A = Swung} (record { number = 0; place = 0; knot = w.knot; minute = m; below = w.gap.below; above = w.gap.above }) (swung v c)
unfolding swung widest_of
swung_given e is q f = rw (f, q, is, e)
