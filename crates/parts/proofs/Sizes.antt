-- How large the weights of the two knots are together, at any minute of a gap, and so the numerators. The value's weights are at most h⁵, 5/16 h⁵ and
-- 1/16 h⁵, which is reached in the middle.
-- Assumes nothing.
use mathlib.Core.Path.{◌≡◌, sym, ◌∙◌, ap, subst}
use mathlib.Core.List.{List, [], ◌∷◌}
use Prim.Native.Nat.{ℕ, suc, ◌+◌, ◌-◌, ◌*◌, ◌≤◌, ◌^◌}
use native.Mathlib.Nat.{add_comm, mul-le-mul, mul-le-mul_left, mul-add, mul_left_comm, le_trans, le_refl, pow-zero, pow-suc, one-mul}
use native.Mathlib.Omega.{arith}
use lib.IntN.{ℤ, pos, negsuc, neg_ℤ, nat_abs, ◌-ℤ◌, ◌*ℤ◌}
use lib.Signed.{◌≤ℤ◌}
use Rattle.whole.proofs.Ring.{up, sub_diff, diff_eq}
use Rattle.whole.proofs.Order.{linear, ≤ℤ_trans, up_nonneg, dn_zero, sub_nonneg, *ℤ_nonneg, square_nonneg, abs_le, abs_mul}
use Rattle.whole.proofs.Solve.{E, var, con, ◌:+◌, ◌:-◌, ◌:*◌, :neg, ◌:^◌, #, ring, val, at, v0, v1}
use Rattle.whole.proofs.Linear.{know≤, prove≤, bounded, bound}
use Rattle.curve.specs.Formula.{power, worth, ∂, ∂^}
use Rattle.gaps.specs.declared.Knot.{Knot}
use Rattle.gaps.specs.Limits.{InGap, Limits, Keeps}
use Rattle.weights.specs.declared.Quantity.{Quantity}
use Rattle.weights.specs.declared.Quantity.TheVariants.{Value, Slope, Curvature}
use Rattle.weights.specs.Weights.{derivative, weight, weighs, weigh}
use Rattle.weights.proofs.Written.{weighing, written}
use Rattle.parts.specs.Limits.{load, sixteenths, most}

-- ---- each weight as it is written, by the minutes t and s on either side

abbrev short : E → E → Quantity → Quantity → E
short t s q of = written q of (t :+ s) t s

abbrev forms : Quantity → Quantity → E → E → E × E
forms q of t s = (weighing q of (t :+ s) t, short t s q of)

abbrev there : ℕ → ℕ → List ℤ
there t s = pos t ∷ pos s ∷ []

short_is : (q of : Quantity) (t s : ℕ) → weighs q of (pos (t + s)) (pos t) ≡ val (at (there t s)) (short v0 v1 q of)
unfolding weighs weight worth ∂ ∂^ power
short_is Value Value t s = ring (there t s) (forms Value Value) tt
short_is Value Slope t s = ring (there t s) (forms Value Slope) tt
short_is Value Curvature t s = ring (there t s) (forms Value Curvature) tt
short_is Slope Value t s = ring (there t s) (forms Slope Value) tt
short_is Slope Slope t s = ring (there t s) (forms Slope Slope) tt
short_is Slope Curvature t s = ring (there t s) (forms Slope Curvature) tt
short_is Curvature Value t s = ring (there t s) (forms Curvature Value) tt
short_is Curvature Slope t s = ring (there t s) (forms Curvature Slope) tt
short_is Curvature Curvature t s = ring (there t s) (forms Curvature Curvature) tt

-- ---- both knots' weights, against a power of the gap

abbrev raised : {A : Type 0} → (A → A → A) → Quantity → A → A
raised times Value h = times (times (times (times h h) h) h) h
raised times Slope h = times (times (times h h) h) h
raised times Curvature h = times (times h h) h

raised_is : (q : Quantity) (h : ℕ) → raised ◌*◌ q h ≡ h ^ (5 - derivative q)
raised_is Value h = rw (pow-suc h 4, pow-suc h 3, pow-suc h 2, pow-suc h 1, pow-suc h 0, pow-zero h, one-mul h)
raised_is Slope h = rw (pow-suc h 3, pow-suc h 2, pow-suc h 1, pow-suc h 0, pow-zero h, one-mul h)
raised_is Curvature h = rw (pow-suc h 2, pow-suc h 1, pow-suc h 0, pow-zero h, one-mul h)

pub fifth_power : (h : ℤ) → nat_abs (h *ℤ h *ℤ h *ℤ h *ℤ h) ≡ nat_abs h ^ 5
fifth_power h = simp abs_mul (raised_is Value (nat_abs h))

-- an expression with every term counted positive
abbrev plus : E → E
plus (var i) = var i
plus (con (pos n)) = con (pos n)
plus (con (negsuc n)) = con (pos (suc n))
plus (a :+ b) = plus a :+ plus b
plus (a :- b) = plus a :+ plus b
plus (a :* b) = plus a :* plus b
plus (:neg a) = plus a
plus (a :^ k) = a :^ k

abbrev counts : Quantity → Quantity → E → E → E × E
counts q of t s = (# 16 :* (plus (short t s q of) :+ plus (short s t q of)), # (sixteenths q of) :* raised ◌:*◌ q (t :+ s))

abbrev size : Quantity → Quantity → ℕ → ℕ → ℕ
size q of t s = nat_abs (val (at (there t s)) (short v0 v1 q of))

-- how large it is with every term counted positive
counted : (q of : Quantity) (t s : ℕ) → size q of t s ≤ bound (t ∷ s ∷ []) (short v0 v1 q of)
counted q of t s = bounded {xs = there t s} {bs = t ∷ s ∷ []} (record { each = (le_refl t, (le_refl s, tt)) }) (short v0 v1 q of)

-- 4 h³ less 24 t s (t − s) is t (2 t − 3 s)² + 27 t s² + 4 s³; and so with t and s the other way round
steep : (t s : ℕ) → size Curvature Value t s ≤ 10 * raised ◌*◌ Curvature (t + s)
steep t s = abs_le (val (at (there t s)) (short v0 v1 Curvature Value)) (10 * raised ◌*◌ Curvature (t + s)) above below
  where
    above : val (at (there t s)) (short v0 v1 Curvature Value) ≤ℤ pos (10 * raised ◌*◌ Curvature (t + s))
    above = prove≤ (there t s) (λ t s. (short t s Curvature Value, # 10 :* raised ◌:*◌ Curvature (t :+ s)))
        (omega (arith, know≤ (there t s) (λ t s. (# 0, t :* ((# 2 :* t :- # 3 :* s) :* (# 2 :* t :- # 3 :* s)))) (*ℤ_nonneg {x = pos t} (omega linear) (square_nonneg (pos 2 *ℤ pos t -ℤ pos 3 *ℤ pos s)))))

    below : neg_ℤ (pos (10 * raised ◌*◌ Curvature (t + s))) ≤ℤ val (at (there t s)) (short v0 v1 Curvature Value)
    below = prove≤ (there t s) (λ t s. (:neg (# 10 :* raised ◌:*◌ Curvature (t :+ s)), short t s Curvature Value))
        (omega (arith, know≤ (there t s) (λ t s. (# 0, s :* ((# 2 :* s :- # 3 :* t) :* (# 2 :* s :- # 3 :* t)))) (*ℤ_nonneg {x = pos s} (omega linear) (square_nonneg (pos 2 *ℤ pos s -ℤ pos 3 *ℤ pos t)))))

module _ (t s : ℕ) where
  small : (q of : Quantity) → 16 * (size q of t s + size q of s t) ≤ sixteenths q of * raised ◌*◌ q (t + s)
  small Value Value = omega (linear, counted Value Value t s, counted Value Value s t, prove≤ (there t s) (counts Value Value) (omega arith))
  -- the gap less twice the way to the nearer knot, squared, is what these two are short of
  small Value Slope = omega (
    linear,
    counted Value Slope t s,
    counted Value Slope s t,
    prove≤ (there t s) (counts Value Slope)
        (omega (
          arith,
          know≤ (there t s) (λ t s. (# 0, (t :- s) :* (t :- s) :* ((t :+ s) :* (# 5 :* t :* t :+ # 14 :* t :* s :+ # 5 :* s :* s))))
              (*ℤ_nonneg (square_nonneg (pos t -ℤ pos s)) (omega linear)),
        )),
  )
  small Value Curvature = omega (
    linear,
    counted Value Curvature t s,
    counted Value Curvature s t,
    prove≤ (there t s) (counts Value Curvature)
        (omega (
          arith,
          know≤ (there t s) (λ t s. (# 0, (t :- s) :* (t :- s) :* ((t :+ s) :* (t :* t :+ # 6 :* t :* s :+ s :* s))))
              (*ℤ_nonneg (square_nonneg (pos t -ℤ pos s)) (omega linear)),
        )),
  )
  small Slope Value = omega (linear, counted Slope Value t s, counted Slope Value s t, prove≤ (there t s) (counts Slope Value) (omega arith))
  small Slope Slope = omega (linear, counted Slope Slope t s, counted Slope Slope s t, prove≤ (there t s) (counts Slope Slope) (omega arith))
  small Slope Curvature = omega (linear, counted Slope Curvature t s, counted Slope Curvature s t, prove≤ (there t s) (counts Slope Curvature) (omega arith))
  small Curvature Value = omega (arith, steep t s, rw (add_comm s t) at (steep s t))
  small Curvature Slope = omega (linear, counted Curvature Slope t s, counted Curvature Slope s t, prove≤ (there t s) (counts Curvature Slope) (omega arith))
  small Curvature Curvature = omega (linear, counted Curvature Curvature t s, counted Curvature Curvature s t, prove≤ (there t s) (counts Curvature Curvature) (omega arith))

-- ---- and so what the knots add

-- two numbers within a limit, weighed
spread : (a a' : ℕ) {y y' Y n : ℕ} → y ≤ Y → y' ≤ Y → 16 * (a + a') ≤ n → 16 * (y * a + y' * a') ≤ Y * n
spread a a' {y} {y'} {Y} {n} p q h =
    le_trans (le_trans (mul-le-mul_left 16 (le_add (mul-le-mul p (le_refl a)) (mul-le-mul q (le_refl a')))) (omega (arith, e))) (mul-le-mul_left Y h)
  where
    le_add : {i j k l : ℕ} → i ≤ j → k ≤ l → i + k ≤ j + l
    le_add u v = omega arith

    e : Y * (16 * (a + a')) ≡ 16 * (Y * a + Y * a')
    e = mul_left_comm Y 16 (a + a') ∙ ap (λ z. 16 * z) (mul-add Y a a')

-- so many times both
times : (k i j : ℕ) {n : ℕ} → 16 * (i + j) ≤ n → 16 * (k * i + k * j) ≤ k * n
times k i j {n} h = subst (λ z. z ≤ k * n) (mul_left_comm k 16 (i + j) ∙ ap (λ z. 16 * z) (mul-add k i j)) (mul-le-mul_left k h)

module _ (q : Quantity) (t s : ℕ) where
  -- a number's weights at t minutes and at s minutes
  abbrev near : Quantity → ℕ
  near of = nat_abs (weighs q of (pos (t + s)) (pos t))

  abbrev far : Quantity → ℕ
  far of = nat_abs (weighs q of (pos (t + s)) (pos s))

  both : (of : Quantity) → 16 * (near of + far of) ≤ sixteenths q of * (t + s) ^ (5 - derivative q)
  both of = rw (← raised_is q (t + s), short_is q of t s, ap (λ h. weighs q of (pos h) (pos s)) (add_comm t s) ∙ short_is q of s t) (small t s q of)

  loads : (a b : Knot) (L : Limits) → Keeps L a → Keeps L b → 16 * (load (pos (t + s)) a (weigh q (pos (t + s)) (pos t)) + load (pos (t + s)) b (weigh q (pos (t + s)) (pos s))) ≤ most q L (t + s)
  unfolding load most weigh
  loads a b L k l =
      omega (
        arith,
        times 8192 (nat_abs a.ordinate * near Value) (nat_abs b.ordinate * far Value) (spread (near Value) (far Value) k.ordinate l.ordinate (both Value)),
        times (2 * (t + s)) (nat_abs a.slope * near Slope) (nat_abs b.slope * far Slope) (spread (near Slope) (far Slope) k.slope l.slope (both Slope)),
        times ((t + s) * (t + s)) (nat_abs a.curvature * near Curvature) (nat_abs b.curvature * far Curvature) (spread (near Curvature) (far Curvature) k.curvature l.curvature (both Curvature)),
      )

-- a minute within a gap, by the minutes on either side of it
record Split (h t : ℤ) : Type 0 where
  before : ℕ
  after : ℕ
  t_is : t ≡ pos before
  s_is : h -ℤ t ≡ pos after
  h_is : h ≡ pos (before + after)

split : {h t : ℤ} → InGap h t → Split h t
split {h} {t} g =
    record {
      before = up t;
      after = up (h -ℤ t);
      t_is = sym (up_nonneg g.from);
      s_is = sym (up_nonneg (sub_nonneg g.to));
      h_is = diff_eq h (pos (up t + up (h -ℤ t))) (omega (linear, sub_diff h t, dn_zero g.from, dn_zero (sub_nonneg g.to), dn_zero {x = h} (≤ℤ_trans g.from g.to)));
    }

moved : (P : ℤ → ℤ → ℤ → Type 0) {h t s h₀ t₀ s₀ : ℤ} → h ≡ h₀ → t ≡ t₀ → s ≡ s₀ → P h₀ t₀ s₀ → P h t s
moved P {h} {t} {s} {h₀} {t₀} {s₀} p q r x = subst (λ z. P z t s) (sym p) (subst (λ z. P h₀ z s) (sym q) (subst (λ z. P h₀ t₀ z) (sym r) x))

pub loads_most : (q : Quantity) {h t : ℤ} → InGap h t → (a b : Knot) (L : Limits) → Keeps L a → Keeps L b
    → 16 * (load h a (weigh q h t) + load h b (weigh q h (h -ℤ t))) ≤ most q L (nat_abs h)
loads_most q g a b L k l =
    let p = split g in
    moved (λ h t s. 16 * (load h a (weigh q h t) + load h b (weigh q h s)) ≤ most q L (nat_abs h)) p.h_is p.t_is p.s_is (loads q p.before p.after a b L k l)
