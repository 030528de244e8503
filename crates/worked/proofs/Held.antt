-- 9 and 10 answer alike of numbers that are held at the farthest number and of those without a limit, and where they accept, the two cards are one.
-- For every kind whose limits are below the farthest number. Assumes nothing.
use Prim.Native.Nat.{ℕ, ◌<◌, ◌≤◌}
use native.Mathlib.Omega.{arith}
use mathlib.Core.Path.{◌≡◌, refl, sym, ap, ap₂, ◌∙◌}
use mathlib.Core.Bool.{◌||◌}
use mathlib.Core.List.{List}
use lib.IntN.{ℤ, pos, nat_abs}
use lib.ListN.{length, get_or}
use Rattle.whole.specs.Whole.{beyond}
use Rattle.answer.specs.Answer.{given, accepted, refuse, each}
use Rattle.answer.proofs.Steps.{then_same, each_same, first_accepts}
use Rattle.curve.specs.Kind.{Kind}
use Rattle.curve.specs.Card.{Card, knots, knot, gap, on, joint}
use Rattle.curve.specs.Steps.{slope_beyond, curvature_beyond, in_range, smooth}
use Rattle.curve.specs.Orders.{numbers_sound}
use Rattle.knots.specs.Lent.{lent}
use Rattle.knots.proofs.Accepted.{ranged}
use Rattle.front.specs.Front.{listed}
use Rattle.front.proofs.Listed.{get_d_listed, listed_same}
use Rattle.units.specs.Units.{farthest, held}
use Rattle.units.proofs.Held.{beyond_held, held_within}
use Rattle.worked.specs.Jobs.{tested}

-- of n numbers: beyond the same limits, and where they are within them, the same
module _ (R : ℕ → ℤ) (n i : ℕ) (l : i < n) (limit : ℕ) (near : limit < farthest) where
  beyond_alike : beyond limit (get_or (listed (λ k. held (R k)) n) i (pos 0)) ≡ beyond limit (get_or (listed R n) i (pos 0))
  beyond_alike = ap (beyond limit) (get_d_listed (λ k. held (R k)) (pos 0) n i l) ∙ beyond_held limit (R i) near ∙ sym (ap (beyond limit) (get_d_listed R (pos 0) n i l))

  within : nat_abs (get_or (listed R n) i (pos 0)) ≤ limit → held (R i) ≡ R i
  within b = held_within (R i) (omega (arith, b, ap nat_abs (get_d_listed R (pos 0) n i l)))

-- slopes that answer alike, and curvatures with those held
module _ (K : Kind) (near : (gap : ℕ) → K.curvatures gap < farthest) (xs : List ℕ) (ys : List ℤ) (left right : ℕ) (ms ms' : List ℤ) (Q : ℕ → ℤ)
    (alike : (i : ℕ) → i < length xs → beyond K.slopes (get_or ms' i (pos 0)) ≡ beyond K.slopes (get_or ms i (pos 0)))
    (same : ((i : ℕ) → i < length xs → nat_abs (get_or ms i (pos 0)) ≤ K.slopes) → ms' ≡ ms) where
  abbrev card : Card
  card = lent xs ys ms (listed Q (length xs)) left right

  abbrev held_card : Card
  held_card = lent xs ys ms' (listed (λ k. held (Q k)) (length xs)) left right

  range_alike : (i : ℕ) → i < length xs → in_range K held_card i ≡ in_range K card i
  unfolding in_range slope_beyond curvature_beyond joint knot knots gap on
  range_alike i l = ap₂ (λ a b. refuse 9 i (a || b)) (alike i l) (beyond_alike Q (length xs) i l _ (near _))

  card_alike : each (in_range K card) 0 (knots card) ≡ accepted → held_card ≡ card
  card_alike e =
      let r = ranged card e in
      ap₂ (λ ms Ms. lent xs ys ms Ms left right) (same r.slopes) (listed_same (λ k. held (Q k)) Q (length xs) (λ i l. within Q (length xs) i l _ (near _) (r.curvatures i l)))

  sound_alike : numbers_sound K held_card ≡ numbers_sound K card
  unfolding numbers_sound knots
  sound_alike = then_same (each_same 0 (length xs) (λ i g l. range_alike i (omega arith))) (λ e. ap (λ c. each (smooth K c) 0 (knots c)) (card_alike e))

  pub tested_alike : tested K held_card ≡ tested K card
  unfolding tested numbers_sound
  tested_alike = then_same sound_alike (λ e. ap given (card_alike (first_accepts _ _ e)))

module _ (K : Kind) (near : K.slopes < farthest) (near' : (gap : ℕ) → K.curvatures gap < farthest) (xs : List ℕ) (ys : List ℤ) (left right : ℕ) where
  -- slopes and curvatures
  pub both_held : (P Q : ℕ → ℤ)
      → tested K (lent xs ys (listed (λ k. held (P k)) (length xs)) (listed (λ k. held (Q k)) (length xs)) left right) ≡ tested K (lent xs ys (listed P (length xs)) (listed Q (length xs)) left right)
  both_held P Q =
      tested_alike K near' xs ys left right (listed P (length xs)) (listed (λ k. held (P k)) (length xs)) Q
      (λ i l. beyond_alike P (length xs) i l K.slopes near)
      (λ r. listed_same (λ k. held (P k)) P (length xs) (λ i l. within P (length xs) i l K.slopes near (r i l)))

  -- curvatures beside slopes that are not
  pub curvatures_held : (ms : List ℤ) (Q : ℕ → ℤ)
      → tested K (lent xs ys ms (listed (λ k. held (Q k)) (length xs)) left right) ≡ tested K (lent xs ys ms (listed Q (length xs)) left right)
  curvatures_held ms Q = tested_alike K near' xs ys left right ms ms Q (λ i l. refl) (λ r. refl)
