-- What an accepted card has, and that a card which has it is accepted: every law about accepted cards starts here.
-- Assumes nothing.
use mathlib.Core.Path.{◌≡◌, refl, sym, subst}
use mathlib.Core.Bool.{Bool, true, false, ◌&&◌, ◌||◌}
use mathlib.Core.List.{List}
use Prim.Native.Nat.{ℕ, zero, suc, ◌+◌, ◌-◌, ◌≤◌, ◌<◌}
use native.Mathlib.Omega.{arith}
use native.Mathlib.Nat.{le_refl}
use native.Mathlib.Numerals.{add-one}
use native.Mathlib.Decide.{ℕ_discrete}
use lib.Dec.{T, leb, ltb, eqb}
use lib.ListN.{length, get_or}
use borrow.Author.Tests.{ltb-false, leb-false, eqb-true, lt-ltb, le-ltb, lt-leb, eq-eqb, not-false}
use Rattle.whole.specs.Whole.{beyond}
use Rattle.answer.specs.Answer.{accepted}
use Rattle.answer.proofs.Steps.{first_accepts, next_accepts, both_accept, refuse_accepts, accepts_refuse, each_accepts, accepts_each}
use Rattle.curve.specs.Kind.{Kind}
use Rattle.curve.specs.Card.{Card, knots, knot, gap, back}
use Rattle.curve.specs.Steps.{lengths, counted, codes, stands, in_range, smooth}
use Rattle.curve.specs.Orders.{numbers_sound, sound, verdict}

all_true : (a b c : Bool) → a && b && c ≡ true → (a ≡ true) × (b ≡ true) × (c ≡ true)
all_true true true true e = (refl, refl, refl)
all_true true true false e = absurd (subst T (sym e) tt)
all_true true false c e = absurd (subst T (sym e) tt)
all_true false b c e = absurd (subst T (sym e) tt)

pub or_false : (a b : Bool) → a || b ≡ false → (a ≡ false) × (b ≡ false)
or_false true b e = absurd (subst T e tt)
or_false false b e = (refl, e)

pub true_and_false : (a b : Bool) → a ≡ true → a && b ≡ false → b ≡ false
true_and_false true b t e = e
true_and_false false b t e = absurd (subst T (sym t) tt)

pub same_lengths : (n ys ms Ms : ℕ) → lengths n ys ms Ms ≡ accepted → (ys ≡ n) × (ms ≡ n) × (Ms ≡ n)
unfolding lengths
same_lengths n ys ms Ms e = (eqb-true ys n all.0, eqb-true ms n all.1, eqb-true Ms n all.2)
  where
    all : (eqb ys n ≡ true) × (eqb ms n ≡ true) × (eqb Ms n ≡ true)
    all = all_true _ _ _ (not-false _ (refuse_accepts 3 0 _ e))

pub record Good (K : Kind) (c : Card) : Type 0 where
  pub ys : length c.ordinates ≡ knots c
  pub ms : length c.slopes ≡ knots c
  pub Ms : length c.curvatures ≡ knots c
  pub few : K.fewest_knots ≤ knots c
  pub many : knots c ≤ K.most_knots
  pub left_code : K.no_code c.left ≡ false
  pub right_code : K.no_code c.right ≡ false
  pub rises : (i : ℕ) → 0 < i → i < knots c → (knot c (i - 1)).x < (knot c i).x
  pub near : (i : ℕ) → 0 < i → i < knots c → (knot c i).x - (knot c (i - 1)).x ≤ K.widest_gap
  pub y_in : (i : ℕ) → i < knots c → beyond K.ordinates (knot c i).y ≡ false
  pub ranged : (i : ℕ) → i < knots c → in_range K c i ≡ accepted
  pub smoothed : (i : ℕ) → i < knots c → smooth K c i ≡ accepted

module _ (K : Kind) (c : Card) where
  pub good : verdict K c ≡ accepted → Good K c
  unfolding verdict counted codes sound numbers_sound stands knot back
  good e =
      record {
        ys = same.0;
        ms = same.1;
        Ms = same.2;
        few = ltb-false (knots c) _ (refuse_accepts 1 0 _ (first_accepts _ _ count));
        many = ltb-false _ (knots c) (refuse_accepts 2 0 _ (next_accepts _ _ count));
        left_code = refuse_accepts 15 0 _ (first_accepts _ _ coded);
        right_code = refuse_accepts 15 1 _ (next_accepts _ _ coded);
        rises = λ i p l. leb-false _ _ (true_and_false (ltb 0 i) _ (lt-ltb 0 i p) (refuse_accepts 4 i _ (first_accepts _ _ (stand i l))));
        near = λ i p l. ltb-false _ _ (refuse_accepts 5 i _ (first_accepts _ _ (next_accepts _ _ (stand i l))));
        y_in = λ i l. refuse_accepts 6 i _ (next_accepts _ _ (next_accepts _ _ (stand i l)));
        ranged = λ i l. each_accepts _ 0 (knots c) (first_accepts _ _ (next_accepts _ _ sounds)) i (omega arith) (omega arith);
        smoothed = λ i l. each_accepts _ 0 (knots c) (next_accepts _ _ (next_accepts _ _ sounds)) i (omega arith) (omega arith);
      }
    where
      same : (length c.ordinates ≡ knots c) × (length c.slopes ≡ knots c) × (length c.curvatures ≡ knots c)
      same = same_lengths (knots c) _ _ _ (first_accepts _ _ e)

      count : counted K (knots c) ≡ accepted
      count = first_accepts _ _ (next_accepts _ _ e)

      coded : codes K c.left c.right ≡ accepted
      coded = first_accepts _ _ (next_accepts _ _ (next_accepts _ _ e))

      sounds : sound K c ≡ accepted
      sounds = next_accepts _ _ (next_accepts _ _ (next_accepts _ _ e))

      stand : (i : ℕ) → i < knots c → stands K c.minutes c.ordinates i ≡ accepted
      stand i l = each_accepts _ 0 (knots c) (first_accepts _ _ sounds) i (omega arith) (omega arith)

  pub accept : Good K c → verdict K c ≡ accepted
  unfolding verdict lengths counted codes sound numbers_sound stands knot back
  accept g =
      both_accept (accepts_refuse 3 0 (rw (g.ys, g.ms, g.Ms, eq-eqb (knots c) (knots c) refl)))
      (both_accept (both_accept (accepts_refuse 1 0 (le-ltb _ _ g.few)) (accepts_refuse 2 0 (le-ltb _ _ g.many)))
      (both_accept (both_accept (accepts_refuse 15 0 g.left_code) (accepts_refuse 15 1 g.right_code))
      (both_accept (accepts_each _ 0 (knots c) (λ i p l. stand i (omega arith)))
      (both_accept (accepts_each _ 0 (knots c) (λ i p l. g.ranged i (omega arith))) (accepts_each _ 0 (knots c) (λ i p l. g.smoothed i (omega arith)))))))
    where
      low : (i : ℕ) → i < knots c → ltb 0 i && leb (get_or c.minutes i 0) (get_or c.minutes (i - 1) 0) ≡ false
      low zero l = refl
      low (suc i) l = rw (lt-leb _ _ (g.rises (suc i) (omega arith) l), lt-ltb 0 (suc i) (omega arith))

      close : (i : ℕ) → i < knots c → get_or c.minutes i 0 - get_or c.minutes (i - 1) 0 ≤ K.widest_gap
      close zero l = omega arith
      close (suc i) l = g.near (suc i) (omega arith) l

      stand : (i : ℕ) → i < knots c → stands K c.minutes c.ordinates i ≡ accepted
      stand i l = both_accept (accepts_refuse 4 i (low i l)) (both_accept (accepts_refuse 5 i (le-ltb _ _ (close i l))) (accepts_refuse 6 i (g.y_in i l)))

-- minutes that rise from neighbour to neighbour
abbrev pub Rises : List ℕ → Type 0
Rises xs = (i : ℕ) → i + 1 < length xs → get_or xs i 0 < get_or xs (i + 1) 0

module _ (xs : List ℕ) (r : Rises xs) where
  -- rise from each to any later one
  pub rise : (i j : ℕ) → i < j → j < length xs → get_or xs i 0 < get_or xs j 0
  rise i zero l h = absurd (omega arith)
  rise i (suc j) l h = elim (ℕ_discrete i j) [ yes s ↦ subst (λ k. get_or xs k 0 < get_or xs (suc j) 0) (sym s) next | no s ↦ omega (arith, rise i j (omega arith) (omega arith), next) ]
    where
      next : get_or xs j 0 < get_or xs (suc j) 0
      next = subst (λ k. get_or xs j 0 < get_or xs k 0) (add-one j) (r j (omega arith))

  pub never_fall : (i j : ℕ) → i ≤ j → j < length xs → get_or xs i 0 ≤ get_or xs j 0
  never_fall i j l h = elim (ℕ_discrete i j) [ yes s ↦ rw s (le_refl (get_or xs j 0)) | no s ↦ omega (arith, rise i j (omega arith) h) ]

module _ {K : Kind} {c : Card} (g : Good K c) where
  pub minutes_rise : Rises c.minutes
  unfolding knots knot
  minutes_rise i l = let same : i + 1 - 1 ≡ i = omega arith in subst (λ k. get_or c.minutes k 0 < get_or c.minutes (i + 1) 0) same (g.rises (i + 1) (omega arith) l)

  pub rising : (i j : ℕ) → i < j → j < knots c → (knot c i).x < (knot c j).x
  unfolding knots knot
  rising = rise c.minutes minutes_rise

  pub not_falling : (i j : ℕ) → i ≤ j → j < knots c → (knot c i).x ≤ (knot c j).x
  unfolding knots knot
  not_falling = never_fall c.minutes minutes_rise

  pub gap_wide : (i : ℕ) → i + 1 < knots c → 0 < gap (knot c i) (knot c (i + 1))
  unfolding gap
  gap_wide i h = omega (arith, rising i (i + 1) (omega arith) h)
