-- Where a count of parts falls, what the cubic is there, and how large its value can be.
-- Assumes nothing.
use mathlib.Core.Path.{◌≡◌, ◌∙◌, ap, subst}
use mathlib.Core.List.{List, [], ◌∷◌}
use Prim.Native.Nat.{ℕ, suc, ◌+◌, ◌-◌, ◌*◌, ◌/◌, ◌^◌, ◌≤◌, ◌<◌}
use native.Mathlib.Decide.{dec_le}
use native.Mathlib.Nat.{le_refl, le_trans, lt_of_not-le, mul-le-mul, div-mul-le_self, lt-div-mul-add, mul-le-mul_right, mul-pos, add-mul, one-mul, min-eq_left, min-eq_right}
use native.Mathlib.Omega.{arith}
use lib.IntN.{ℤ, pos, nat_abs, ◌-ℤ◌, ◌*ℤ◌}
use lib.ListN.{length}
use Rattle.whole.specs.Whole.{nearest}
use Rattle.whole.proofs.Ring.{sub_diff, up_neg, dn_neg}
use Rattle.whole.proofs.Order.{linear, ℕ_le, abs_le}
use Rattle.whole.proofs.Solve.{◌:+◌, ◌:-◌, ◌:*◌, #, ring, v0, v1, v2, v3, v4, v5, v6, v7, v8, v9}
use Rattle.whole.proofs.Linear as Linear
use Rattle.whole.proofs.Rounding.{nearest_most}
use Rattle.curve.specs.Formula.{power, worth}
use Rattle.curve.specs.Kind.{quintic}
use Rattle.curve.proofs.Derivatives.{pos_power}
use Rattle.cubic.specs.Cubic.{y, scale, unknown, between, denominator}
use Rattle.cubic.proofs.Sizes.{unknown_size, scale_positive}
use Rattle.cubic.proofs.Smooth.{piece}
use Rattle.unknowns.specs.Unknowns.{Sound}
use Rattle.unknowns.proofs.Ranges.{scale_in}
use Rattle.preheat.specs.Preheat.{fewest_parts, most_parts, step, numerator, value, weight, InStep}
use Rattle.preheat.proofs.Evaluation.{cubic_is}

-- ---- where it falls

pub record Falls (n parts count i : ℕ) : Type 0 where
  pub inside : i + 1 < n
  pub low : i * parts ≤ count
  pub high : count - i * parts ≤ parts

pub falls : (n parts count : ℕ) → 2 ≤ n → 0 < parts → count ≤ (n - 1) * parts → Falls n parts count (step n parts count)
unfolding step
falls n parts count g p h = elim (dec_le (count / parts) (n - 2)) [
  | yes k ↦ rw (min-eq_left k) (record { inside = omega arith; low = div-mul-le_self count parts; high = omega (arith, lt-div-mul-add {a = count} {b = parts} p) })
  | no k ↦ rw (min-eq_right (le_of (lt_of_not-le k))) (at_last (n - 2) (omega arith) (le_trans (mul-le-mul_right parts (up_to (lt_of_not-le k))) (div-mul-le_self count parts)))
]
  where
    le_of : n - 2 < count / parts → n - 2 ≤ count / parts
    le_of k = omega arith

    up_to : n - 2 < count / parts → n - 1 ≤ count / parts
    up_to k = omega arith

    at_last : (j : ℕ) → j + 2 ≡ n → (n - 1) * parts ≤ count → Falls n parts count j
    at_last j e k = record { inside = omega arith; low = omega (arith, k, h, one_more); high = omega (arith, k, h, one_more) }
      where
        less : n - 1 ≡ j + 1
        less = omega arith

        one_more : (n - 1) * parts ≡ j * parts + parts
        one_more = ap (λ m. m * parts) less ∙ add-mul j 1 parts ∙ ap (λ m. j * parts + m) (one-mul parts)

-- ---- the cubic there

cubed : (q : ℕ) → q * q * q ≡ q ^ 3
unfolding power
cubed q = ap nat_abs (ring (pos q ∷ []) (λ q. (q :* q :* q, q :* (q :* (q :* # 1)))) tt ∙ pos_power q 3)

pub denominator_positive : (ys : List ℤ) (parts : ℕ) → 0 < parts → 0 < denominator ys parts
unfolding denominator
denominator_positive ys parts p = mul-pos (scale_positive ys) (rw (← cubed parts) (mul-pos (mul-pos p p) p))

module _ (ys : List ℤ) (parts count : ℕ) where
  pub value_is : (i : ℕ) → i ≡ step (length ys) parts count →
      nearest (worth (piece (pos (scale ys)) (pos parts) (y ys i) (y ys (suc i)) (unknown ys i) (unknown ys (suc i))) (pos (count - i * parts)))
      (nat_abs (pos (scale ys) *ℤ (pos parts *ℤ pos parts *ℤ pos parts)))
      ≡ value ys parts count
  unfolding value numerator between denominator
  value_is i e = rw (e, cubed parts)

pub in_step : {ys : List ℤ} {parts count i : ℕ} → Sound ys → Falls (length ys) parts count i → fewest_parts ≤ parts → parts ≤ most_parts →
    InStep (pos (scale ys)) (pos parts) (pos (count - i * parts)) (y ys i) (y ys (suc i)) (unknown ys i) (unknown ys (suc i))
in_step {ys} {parts} {count} {i} s l g h = record {
  a_low = (scale_in s).low;
  a_high = (scale_in s).high;
  q_low = ℕ_le (omega (arith, g));
  q_high = ℕ_le (omega (arith, h));
  r_low = ℕ_le (omega arith);
  r_high = ℕ_le (omega (arith, l.high));
  y_in = s.within.each i (omega (arith, l.inside));
  y'_in = s.within.each (suc i) (omega (arith, l.inside));
  z_in = unknown_size s.within i (omega (arith, l.inside));
  z'_in = unknown_size s.within (suc i) (omega (arith, l.inside));
}

-- ---- its size: the values' own, and twice that for the unknowns

difference_size : (x y : ℕ) → y ≤ x → nat_abs (pos x -ℤ pos y) ≤ x
difference_size x y h = abs_le (pos x -ℤ pos y) x (omega (linear, sub_diff (pos x) (pos y))) (omega (linear, sub_diff (pos x) (pos y), up_neg (pos x), dn_neg (pos x)))

weight_size : (q r : ℕ) → r ≤ q → nat_abs (weight (pos q) (pos r)) ≤ q * q * r
weight_size q r h = difference_size (q * q * r) (r * r * r) (mul-le-mul_right r (mul-le-mul h h))

-- s parts before the next value, r behind the last
module _ (a s r most : ℕ) (u u' z z' : ℤ) (u_in : nat_abs u ≤ most) (u'-in : nat_abs u' ≤ most) (z_in : nat_abs z ≤ 2 * most * a) (z'_in : nat_abs z' ≤ 2 * most * a) where
  abbrev q : ℕ
  q = s + r

  other : pos q -ℤ pos r ≡ pos s
  other = ring (pos s ∷ pos r ∷ []) (λ s r. (s :+ r :- r, s)) tt

  gathered : a * (q * q * (most * s + most * r)) + q * q * s * (2 * most * a) + q * q * r * (2 * most * a) ≡ 3 * most * (a * (q * q * q))
  gathered = ap nat_abs (ring (pos a ∷ pos s ∷ pos r ∷ pos most ∷ [])
      (λ a s r m. (
        a :* ((s :+ r) :* (s :+ r) :* (m :* s :+ m :* r)) :+ (s :+ r) :* (s :+ r) :* s :* (# 2 :* m :* a) :+ (s :+ r) :* (s :+ r) :* r :* (# 2 :* m :* a),
        # 3 :* m :* (a :* ((s :+ r) :* (s :+ r) :* (s :+ r))),
      )) tt)

  piece_size : nat_abs (worth (piece (pos a) (pos q) u u' z z') (pos r)) ≤ 3 * most * (a * (q * q * q))
  piece_size = rw (← cubic_is (pos a) (pos q) (pos r) u u' z z', other, ← gathered)
      (Linear.bounded {xs = pos a ∷ pos q ∷ pos s ∷ pos r ∷ u ∷ u' ∷ weight (pos q) (pos s) ∷ weight (pos q) (pos r) ∷ z ∷ z' ∷ []}
      {bs = a ∷ q ∷ s ∷ r ∷ most ∷ most ∷ q * q * s ∷ q * q * r ∷ 2 * most * a ∷ 2 * most * a ∷ []}
      (record { each = (le_refl a, (le_refl q, (le_refl s, (le_refl r, (u_in, (u'-in, (weight_size q s (omega arith), (weight_size q r (omega arith), (z_in, (z'_in, tt)))))))))) })
      (v0 :* (v1 :* v1 :* (v4 :* v2 :+ v5 :* v3)) :- v6 :* v8 :- v7 :* v9))

module _ {ys : List ℤ} {parts count : ℕ} (t : Sound ys) (g : fewest_parts ≤ parts) (h : count ≤ (length ys - 1) * parts) where
  abbrev i : ℕ
  i = step (length ys) parts count

  abbrev r : ℕ
  r = count - step (length ys) parts count * parts

  l : Falls (length ys) parts count (step (length ys) parts count)
  unfolding quintic
  l = falls (length ys) parts count (omega (arith, t.least)) (omega (arith, g)) h

  -- in q parts
  abbrev Small : ℕ → Type 0
  Small q = nat_abs (worth (piece (pos (scale ys)) (pos q) (y ys i) (y ys (suc i)) (unknown ys i) (unknown ys (suc i))) (pos r)) ≤ 3 * quintic.ordinates * (scale ys * (q * q * q))

  small : Small (parts - r + r)
  small =
      let here : i < length ys = omega (arith, l.inside) in
      let next : suc i < length ys = omega (arith, l.inside) in
      piece_size (scale ys) (parts - r) r quintic.ordinates (y ys i) (y ys (suc i)) (unknown ys i) (unknown ys (suc i))
      (t.within.each i here) (t.within.each (suc i) next) (unknown_size t.within i here) (unknown_size t.within (suc i) next)

  pub value_size : nat_abs (value ys parts count) ≤ 3 * quintic.ordinates
  unfolding value numerator between denominator
  value_size =
      let whole : parts - r + r ≡ parts = omega (arith, l.high) in
      nearest_most (numerator ys parts count) (denominator ys parts) (3 * quintic.ordinates)
      (denominator_positive ys parts (omega (arith, g)))
      (rw (← cubed parts) (subst Small whole small))
