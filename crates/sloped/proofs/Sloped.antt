-- Document 02, order 8: there is one exact solution of a card whose slopes are given, and every stored
-- curvature of an accepted card is at most 2 card units from it. The equations are dominant's, for what the
-- curvatures are off. No gap's limit is used. Assumes nothing.
use mathlib.Core.Path.{◌≡◌, sym, ap, ◌∙◌, subst}
use mathlib.Core.Bool.{Bool, true, false, not, ◌&&◌, cond}
use mathlib.Core.List.{[], ◌∷◌}
use Prim.Native.Nat.{ℕ, zero, suc, ◌+◌, ◌-◌, ◌*◌, ◌≤◌, ◌<◌}
use native.Mathlib.Nat.{one-le-pow, mul-pos, lt_of_not-le, mul-le-mul_left}
use native.Mathlib.Decide.{dec_le}
use native.Mathlib.Omega.{arith}
use lib.IntN.{ℤ, pos, nat_abs, ◌+ℤ◌, ◌-ℤ◌, +ℤ_invr}
use lib.Dec.{T, ltb, eqb, lit<, lit≤}
use lib.Signed.{◌≤ℤ◌}
use borrow.Author.Tests.{ltb-false, not-false}
use Rattle.whole.specs.Whole.{◌·◌}
use Rattle.whole.proofs.Ring.{same_of_sub}
use Rattle.whole.proofs.Order.{linear, abs_mul, le_z_true}
use Rattle.whole.proofs.Solve.{◌:+◌, ◌:-◌, ◌:*◌, #, ring}
use Rattle.answer.specs.Answer.{accepted}
use Rattle.answer.proofs.Steps.{first_accepts, next_accepts, refuse_accepts}
use Rattle.curve.specs.Formula.{nat, worth, amount}
use Rattle.curve.specs.Curve.{Order, third, fourth, degree}
use Rattle.curve.specs.Kind.{inner, end, quintic, quintic_asks, sloped, sloped_asks, sloped_allowance}
use Rattle.curve.specs.Card.{Card, Knot, knots, knot, gap, back, on, spot, joint}
use Rattle.curve.specs.Jump.{inverse, clear, over, rise, jump, allowed, jumps}
use Rattle.curve.specs.Steps.{codes, smooth}
use Rattle.curve.specs.Orders.{verdict}
use Rattle.curve.specs.Exact.{Meets, Exact}
use Rattle.curve.proofs.Written.{rising, jumping, equating, equalling}
use Rattle.curve.proofs.Accepted.{good, or_false}
use Rattle.curve.proofs.NeverTen.{sloped_enough}
use Rattle.unique.proofs.Linear.{left_linear, right_linear, differ}
use Rattle.unique.proofs.Balance.{clear_pos}
use Rattle.unique.proofs.Unique.{Rising}
use Rattle.linear.proofs.Solvable.{Solution}
use Rattle.dominant.proofs.Dominant.{left_at, equation, bounded_by, only_zeros, solved}
use Rattle.exists.specs.Ended.{Fraction}
use Rattle.exists.specs.Sound.{Sound}
use Rattle.exists.specs.Same.{Same}
use Rattle.exists.proofs.Exists.{same_fraction}
use Rattle.exists.proofs.Rounded.{rounded_never_10}
use Rattle.exists.proofs.Judged.{accepted_sound, sound_rises, only_9}
use Rattle.sloped.specs.Sloped.{Within, OneSolution, WithinTwo}
use Rattle.sloped.proofs.Row.{in_two, curvatures_alone, jump_is}

inverse_pos : (h d i : ℕ) → 0 < h → 0 < inverse h d i
unfolding inverse
inverse_pos zero d i l = absurd (omega arith)
inverse_pos (suc h) d i l = one-le-pow (d - i) (suc h) (omega arith)

module _ (card : Card) where
  abbrev n : ℕ
  n = knots card

  -- the powers of one over the gap on a knot's right, and of that on its left
  abbrev g : ℕ → ℕ → ℕ
  g i j = inverse (gap (knot card i) (knot card (on card i))) 3 j * clear (gap (knot card (back i)) (knot card i)) 3

  abbrev p : ℕ → ℕ → ℕ
  p i j = inverse (gap (knot card (back i)) (knot card i)) 3 j * clear (gap (knot card i) (knot card (on card i))) 3

  abbrev g₁ : ℕ → ℕ
  g₁ i = g i 1

  abbrev p₁ : ℕ → ℕ
  p₁ i = p i 1

  -- the equation's two sides at place i, for slopes s and curvatures c over q
  abbrev row : (s c : ℕ → ℤ) → ℕ → ℤ
  row s c i = amount (equating (λ j. pos (g i j)) (λ j. pos (p i j)) third (s (back i)) (c (back i)) (s i) (c i) (s (on card i)) (c (on card i)))

  abbrev side : ℕ → ℕ → ℤ
  side q i = amount (equalling (λ j. pos (g i j)) (λ j. pos (p i j)) third (nat q) (knot card (back i)).y (knot card i).y (knot card (on card i)).y)

  abbrev m : ℕ → ℤ
  m i = (knot card i).m

  abbrev M : ℕ → ℤ
  M i = (knot card i).M

  module _ (sheet : Sound sloped card) where
    rises : Rising card
    unfolding sloped quintic
    rises = sound_rises sheet (lit≤ tt)

    -- at every place there is a gap
    some : (i : ℕ) → i < n → 0 < g₁ i + p₁ i
    unfolding gap on back
    some i h = elim (dec_le (suc (suc i)) n) [ yes l ↦ inside l | no l ↦ last (lt_of_not-le l) ]
      where
        inside : suc i < n → 0 < g₁ i + p₁ i
        inside l = omega (arith, mul-pos (inverse_pos (gap (knot card i) (knot card (on card i))) 3 1 wide) (clear_pos (gap (knot card (back i)) (knot card i)) 3))
          where
            next : on card i ≡ suc i
            next = omega arith

            wide : 0 < gap (knot card i) (knot card (on card i))
            wide = subst (λ k. 0 < (knot card k).x - (knot card i).x) (sym next) (omega (arith, rises.rises i l))

        last : n < suc (suc i) → 0 < g₁ i + p₁ i
        last l = omega (arith, mul-pos (inverse_pos (gap (knot card (back i)) (knot card i)) 3 1 wide) (clear_pos (gap (knot card i) (knot card (on card i))) 3))
          where
            here : suc (i - 1) ≡ i
            here = omega (arith, rises.three)

            wide : 0 < gap (knot card (back i)) (knot card i)
            wide = omega (arith, subst (λ k. (knot card (i - 1)).x < (knot card k).x) here (rises.rises (i - 1) (omega (arith, rises.three))))

    -- the codes are 0, so the third derivative's equation is asked for everywhere
    asked : (i : ℕ) → T (sloped.asks (spot card i) third)
    unfolding sloped sloped_asks quintic_asks codes spot
    asked i = by (eqb i 0) (eqb (suc i) n)
      where
        zero_code : (code : ℕ) → ltb 0 code ≡ false → T (eqb code 0)
        zero_code code e = let none : 0 ≡ code = omega (arith, ltb-false 0 code e) in subst (λ k. T (eqb k 0)) none tt

        by : (a b : Bool) → T (quintic_asks (cond a (end card.left) (cond b (end card.right) inner)) third)
        by true b = zero_code card.left (refuse_accepts 15 0 _ (first_accepts _ _ sheet.coded))
        by false true = zero_code card.right (refuse_accepts 15 1 _ (next_accepts _ _ sheet.coded))
        by false false = tt

    -- a row without slopes is dominant's left side
    no_slopes : (s c : ℕ → ℤ) (i : ℕ) → s (back i) ≡ pos 0 → s i ≡ pos 0 → s (on card i) ≡ pos 0 → row s c i ≡ left_at n g₁ p₁ some c i
    unfolding back on
    no_slopes s c i z⁻ z z⁺ = rw (z⁻, z, z⁺) (curvatures_alone (g i) (p i) (c (back i)) (c i) (c (on card i)))

    -- ---- there is one

    found : Solution n (equation n g₁ p₁ some (λ i. side 4096 i -ℤ row m (λ j. pos 0) i))
    found = solved n g₁ p₁ some (λ i. side 4096 i -ℤ row m (λ j. pos 0) i)

    -- in card units the right side is of 4096 times the denominator
    units : (q i : ℕ) → q · side 4096 i ≡ side (4096 * q) i
    units q i =
        ap (λ z. q · z) (sym (by 4096))
        ∙ ring (pos q ∷ side 1 i ∷ []) (λ q k. (q :* (# 4096 :* k), # 4096 :* q :* k)) tt
        ∙ by (4096 * q)
      where
        by : (q : ℕ) → q · side 1 i ≡ side q i
        by q = right_linear (λ j. pos (g i j)) (λ j. pos (p i j)) q (knot card (back i)).y (knot card i).y (knot card (on card i)).y third

    pub exact : Exact sloped card
    unfolding sloped sloped_asks Meets over degree back on
    exact =
        record {
          q = 4096 * found.q;
          positive = omega (arith, found.positive);
          s = λ i. found.q · m i;
          c = found.x;
          meets = meets;
          own = λ t i l. ring (pos found.q ∷ m i ∷ []) (λ q m. (# 4096 :* (q :* m), # 4096 :* q :* m)) tt;
        }
      where
        settles : (i : ℕ) → i < n → row (λ j. found.q · m j) found.x i ≡ side (4096 * found.q) i
        settles i l =
            in_two (g i) (p i) found.q (m (back i)) (found.x (back i)) (m i) (found.x i) (m (on card i)) (found.x (on card i))
            ∙ ap (λ z. found.q · row m (λ j. pos 0) i +ℤ z) (found.holds i l)
            ∙ ring (pos found.q ∷ side 4096 i ∷ row m (λ j. pos 0) i ∷ []) (λ q a b. (q :* b :+ q :* (a :- b), q :* a)) tt
            ∙ units found.q i

        meets : (i : ℕ) → i < n → (o : Order) → T (sloped.asks (spot card i) o) → Meets card (4096 * found.q) (λ j. found.q · m j) found.x i o
        meets i l third t = settles i l
        meets i l fourth t = absurd t

    -- ---- and no other

    pub only_one : (e f : Exact sloped card) (i : ℕ) → i < n → Same e f i
    unfolding sloped Meets over degree back on
    only_one e f i l = (slopes i l, same_of_sub (only_zeros n g₁ p₁ some off none i l))
      where
        off : ℕ → ℤ
        off j = f.q · e.c j -ℤ e.q · f.c j

        slopes : (j : ℕ) → j < n → f.q · e.s j ≡ e.q · f.s j
        slopes j l =
            let given : Fraction = record { part = m j; over = 4096; positive = lit< tt } in
            same_fraction {f = given} {y = e.s j} {z = f.s j} {q = e.q} {r = f.q} (record { same = e.own tt j l }) (record { same = f.own tt j l })

        level : (j : ℕ) → j < n → f.q · e.s j -ℤ e.q · f.s j ≡ pos 0
        level j l = ap (λ z. z -ℤ e.q · f.s j) (slopes j l) ∙ +ℤ_invr (e.q · f.s j)

        none : (j : ℕ) → j < n → left_at n g₁ p₁ some off j ≡ pos 0
        none j l =
            sym (no_slopes (λ k. f.q · e.s k -ℤ e.q · f.s k) off j (level (back j) (omega arith)) (level j l) (level (on card j) (omega arith)))
            ∙ differ (λ k. pos (g j k)) (λ k. pos (p j k)) (knot card (back j)).y (knot card j).y (knot card (on card j)).y e.q f.q
            (e.s (back j)) (e.c (back j)) (e.s j) (e.c j) (e.s (on card j)) (e.c (on card j))
            (f.s (back j)) (f.c (back j)) (f.s j) (f.c j) (f.s (on card j)) (f.c (on card j))
            third (e.meets j l third (asked j)) (f.meets j l third (asked j))

    pub one_solution : OneSolution card
    one_solution =
        record {
          solution = exact;
          only = only_one exact;
          only_9 = only_9 sheet sloped_enough exact;
          never_10 = rounded_never_10 exact sloped_enough;
        }

  -- ---- an accepted card

  -- its jump at a place
  abbrev there : ℕ → ℤ
  there i =
      let a = knot card (back i) in
      let b = knot card i in
      let f = knot card (on card i) in
      amount (jumping (λ j. pos (g i j)) (λ j. pos (p i j)) third (rising b.y f.y) (rising a.y b.y) a.m a.M b.m b.M f.m f.M)

  module _ (ok : verdict sloped card ≡ accepted) where
    sheet : Sound sloped card
    sheet = accepted_sound ok

    -- is at most four of each weight
    held : (i : ℕ) → i < n → nat_abs (there i) ≤ 4 * (g₁ i + p₁ i)
    unfolding sloped sloped_allowance smooth jumps joint jump allowed over rise amount worth degree
    held i l = omega (linear, fits)
      where
        a : Knot
        a = knot card (back i)

        b : Knot
        b = knot card i

        f : Knot
        f = knot card (on card i)

        small : (ask : Bool) → T ask → (b : Bool) → ask && not b ≡ false → b ≡ true
        small true t b e = not-false b e
        small false t b e = absurd t

        fits : pos (nat_abs (jump third a b f)) ≤ℤ allowed sloped third a b f
        fits = le_z_true (small (sloped.asks (spot card i) third) (asked sheet i) _ (or_false _ _ (refuse_accepts 10 i _ ((good sloped card ok).smoothed i l))).0)

    pub jump_within_4g : (i : ℕ) → i < n → nat_abs (jump third (knot card (back i)) (knot card i) (knot card (on card i))) ≤ 4 * (g₁ i + p₁ i)
    unfolding jump over rise degree
    jump_within_4g i l = held i l

    -- the jump is the left side of what the curvatures are off
    module _ (e : Exact sloped card) where
      off : ℕ → ℤ
      off j = 4096 · e.c j -ℤ e.q · M j

      jump_off : (i : ℕ) → i < n → e.q · there i ≡ left_at n g₁ p₁ (some sheet) off i
      unfolding off sloped Meets over degree back on
      jump_off i l =
          ap (λ z. e.q · z) (jump_is (g i) (p i) (knot card (back i)).y (knot card i).y (knot card (on card i)).y (m (back i)) (M (back i)) (m i) (M i) (m (on card i)) (M (on card i)))
          ∙ ring (pos e.q ∷ side 4096 i ∷ row m M i ∷ []) (λ q a b. (q :* (a :- b), q :* a :- q :* b)) tt
          ∙ ap (λ z. z -ℤ e.q · row m M i) wanted
          ∙ sym (left_linear (λ j. pos (g i j)) (λ j. pos (p i j)) (pos 4096) (pos e.q)
          (e.s (back i)) (e.c (back i)) (e.s i) (e.c i) (e.s (on card i)) (e.c (on card i)) (m (back i)) (M (back i)) (m i) (M i) (m (on card i)) (M (on card i)) third)
          ∙ no_slopes sheet (λ j. 4096 · e.s j -ℤ e.q · m j) off i (own (back i) (omega arith)) (own i l) (own (on card i) (omega arith))
        where
          wanted : e.q · side 4096 i ≡ 4096 · row e.s e.c i
          wanted =
              units sheet e.q i
              ∙ sym (right_linear (λ j. pos (g i j)) (λ j. pos (p i j)) (4096 * e.q) (knot card (back i)).y (knot card i).y (knot card (on card i)).y third)
              ∙ ring (pos e.q ∷ side 1 i ∷ []) (λ q k. (# 4096 :* q :* k, # 4096 :* (q :* k))) tt
              ∙ ap (λ z. 4096 · z) (right_linear (λ j. pos (g i j)) (λ j. pos (p i j)) e.q (knot card (back i)).y (knot card i).y (knot card (on card i)).y third)
              ∙ ap (λ z. 4096 · z) (sym (e.meets i l third (asked sheet i)))

          own : (j : ℕ) → j < n → 4096 · e.s j -ℤ e.q · m j ≡ pos 0
          own j l = ap (λ z. z -ℤ e.q · m j) (e.own tt j l) ∙ +ℤ_invr (e.q · m j)

      pub within_2 : (i : ℕ) → i < n → Within 2 e.q (e.c i) (M i)
      unfolding Within off
      within_2 i l = omega (arith, bounded_by n g₁ p₁ (some sheet) (4 * e.q) off small i l)
        where
          small : (j : ℕ) → j < n → nat_abs (left_at n g₁ p₁ (some sheet) off j) ≤ 4 * e.q * (g₁ j + p₁ j)
          small j l = omega (arith, ap nat_abs (jump_off j l), abs_mul (pos e.q) (there j), mul-le-mul_left e.q (held j l))

    pub within_two : WithinTwo card
    within_two = record { one = one_solution sheet; within_2 = within_2 (one_solution sheet).solution }
