-- Document 01, "The equations", for a curve f through zero ordinates: c·f''' − s·f'''', a third of it, at either end of a gap, times h³. Over the gap
-- it grows by a third of the integral of (f''')², a sum of squares; where it does not grow, f is a quadratic that vanishes at both knots.
-- Assumes nothing.
use mathlib.Core.Path.{◌≡◌, sym, ap, ap₂, ◌∙◌, fun_ext}
use mathlib.Core.List.{[], ◌∷◌}
use Prim.Native.Nat.{ℕ, zero, suc, ◌+◌, ◌-◌, ◌<◌}
use native.Mathlib.Nat.{mul-pos}
use native.Mathlib.Decide.{ℕ_discrete}
use native.Mathlib.Omega.{arith}
use lib.IntN.{ℤ, pos, neg_ℤ, nat_abs, ◌+ℤ◌, ◌*ℤ◌, ◌-ℤ◌, *ℤ-zero}
use lib.Signed.{◌≤ℤ◌, ◌<ℤ◌}
use Rattle.whole.specs.Whole.{◌·◌}
use Rattle.whole.proofs.Solve.{E, ◌:+◌, ◌:-◌, ◌:*◌, :neg, #, ring, zero_abs}
use Rattle.whole.proofs.Order.{linear, square_nonneg, abs_mul, ≤ℤ_antisym, ≤ℤ_trans, *ℤ_cancel, *ℤ_cancel_le, *ℤ_mono, nonneg_sub, <ℤ-≤ℤ, eq_ℕ, ℕ_lt}
use Rattle.whole.proofs.Ring.{sub_diff, same_of_sub}
use Rattle.whole.proofs.Linear.{know≡, prove≡, fewer, more}
use Rattle.curve.specs.Formula.{Formula, num, nat, ◌⊖◌, ◌⊗◌, ◌⊛◌, power, worth, amount}
use Rattle.curve.specs.Curve.{third, fourth, rightward, leftward}
use Rattle.curve.specs.Jump.{inverse}
use Rattle.curve.proofs.Written.{amount_e, power_e, rights, lefts}
use Rattle.curve.proofs.Derivatives.{pos_power}

module _ {A : Type 0} where
  -- at the start of the gap on a knot's right
  abbrev pub leaving : (ℕ → A) → (s c s⁺ c⁺ : A) → Formula A
  leaving g s c s⁺ c⁺ = num c ⊗ rights g third (nat 0) s s⁺ c c⁺ ⊖ 4 ⊛ (num s ⊗ rights g fourth (nat 0) s s⁺ c c⁺)

  -- at the end of the gap on its left
  abbrev pub arriving : (ℕ → A) → (s⁻ c⁻ s c : A) → Formula A
  arriving p s⁻ c⁻ s c = num c ⊗ lefts p third (nat 0) s s⁻ c c⁻ ⊖ 4 ⊛ (num s ⊗ lefts p fourth (nat 0) s s⁻ c c⁻)

-- the powers of 1/h, times h³; none of the gap 0
abbrev pub inverses : ℕ → ℕ → ℤ
inverses h i = pos (inverse h 3 i)

-- ---- over one gap

pub positive : {n : ℕ} → 0 < n → pos 0 <ℤ pos n
positive l = ℕ_lt (omega arith)

square_zero : (x : ℤ) → (x *ℤ x) ≤ℤ pos 0 → x ≡ pos 0
square_zero x h = zero_abs x (elim (ℕ_discrete (nat_abs x) 0) [ yes e ↦ e | no e ↦ absurd (never (omega arith)) ])
  where
    never : 0 < nat_abs x → ⊥
    never l = omega (arith, mul-pos l l, abs_mul x x, ap nat_abs (≤ℤ_antisym h (square_nonneg x)))

-- a sum of three that are not negative
module _ (a b c d : ℤ) (sum : 3 · d ≡ a +ℤ 3 · b +ℤ 5 · c) (0≤a : pos 0 ≤ℤ a) (0≤b : pos 0 ≤ℤ b) (0≤c : pos 0 ≤ℤ c) where
  all_three : fewer (a ∷ b ∷ c ∷ d ∷ []) (λ a b c d. (# 3 :* d, a :+ # 3 :* b :+ # 5 :* c)) ≡ more (a ∷ b ∷ c ∷ d ∷ []) (λ a b c d. (# 3 :* d, a :+ # 3 :* b :+ # 5 :* c))
  all_three = know≡ (a ∷ b ∷ c ∷ d ∷ []) (λ a b c d. (# 3 :* d, a :+ # 3 :* b :+ # 5 :* c)) sum

  sum_nonneg : pos 0 ≤ℤ d
  sum_nonneg = omega (linear, all_three)

  none_of_three : d ≤ℤ pos 0 → (a ≤ℤ pos 0) × (b ≤ℤ pos 0) × (c ≤ℤ pos 0)
  none_of_three h = (omega (linear, all_three), omega (linear, all_three), omega (linear, all_three))

-- f is a quadratic that vanishes at both knots
pub record Quadratic (h : ℕ) (s c s⁺ c⁺ : ℤ) : Type 0 where
  pub curvatures : c⁺ ≡ c
  pub slopes : s⁺ ≡ neg_ℤ s
  pub slope : h · c +ℤ 2 · s ≡ pos 0

cubed : (h : ℕ) → 0 < h → inverses h ≡ (λ i. power (pos h) (3 - i))
unfolding inverse
cubed zero l = absurd (omega arith)
cubed (suc h) l = fun_ext (λ i. sym (pos_power (suc h) (3 - i)))

module _ (h : ℕ) (wide : 0 < h) (s c s⁺ c⁺ : ℤ) where
  abbrev start : ℤ
  start = amount (leaving (inverses h) s c s⁺ c⁺)

  abbrev end : ℤ
  end = amount (arriving (inverses h) s c s⁺ c⁺)

  -- the integral of (f''')², times h³, is of the squares of these
  abbrev bend : ℤ
  bend = h · (c⁺ -ℤ c)

  abbrev turn : ℤ
  turn = h · (c +ℤ c⁺) +ℤ 2 · (s -ℤ s⁺)

  abbrev lean : ℤ
  lean = 6 · (s +ℤ s⁺) +ℤ h · (c -ℤ c⁺)

  integral : 3 · (end -ℤ start) ≡ bend *ℤ bend +ℤ 3 · (turn *ℤ turn) +ℤ 5 · (lean *ℤ lean)
  unfolding amount worth power rightward leftward
  integral = ap (λ g. 3 · (amount (arriving g s c s⁺ c⁺) -ℤ amount (leaving g s c s⁺ c⁺))) (cubed h wide) ∙ ring (pos h ∷ s ∷ c ∷ s⁺ ∷ c⁺ ∷ [])
      (λ h s c s⁺ c⁺.
      let g : ℕ → E = λ i. power_e h (3 - i) in
      let bend : E = h :* (c⁺ :- c) in
      let turn : E = h :* (c :+ c⁺) :+ # 2 :* (s :- s⁺) in
      let lean : E = # 6 :* (s :+ s⁺) :+ h :* (c :- c⁺) in (
        # 3 :* (amount_e (arriving g s c s⁺ c⁺) :- amount_e (leaving g s c s⁺ c⁺)),
        bend :* bend :+ # 3 :* (turn :* turn) :+ # 5 :* (lean :* lean),
      )) tt

  pub grows : start ≤ℤ end
  grows = nonneg_sub (sum_nonneg (bend *ℤ bend) (turn *ℤ turn) (lean *ℤ lean) (end -ℤ start) integral (square_nonneg bend) (square_nonneg turn) (square_nonneg lean))

  pub quadratic : end ≤ℤ start → Quadratic h s c s⁺ c⁺
  quadratic e =
      let none = none_of_three (bend *ℤ bend) (turn *ℤ turn) (lean *ℤ lean) (end -ℤ start) integral (square_nonneg bend) (square_nonneg turn) (square_nonneg lean) (omega (linear, sub_diff end start)) in
      let no_bend = square_zero bend none.0 in
      let bends = know≡ (pos h ∷ c ∷ c⁺ ∷ []) (λ h c c⁺. (h :* (c⁺ :- c), # 0)) no_bend in
      let turns = know≡ (pos h ∷ s ∷ c ∷ s⁺ ∷ c⁺ ∷ []) (λ h s c s⁺ c⁺. (h :* (c :+ c⁺) :+ # 2 :* (s :- s⁺), # 0)) (square_zero turn none.1) in
      let leans = know≡ (pos h ∷ s ∷ c ∷ s⁺ ∷ c⁺ ∷ []) (λ h s c s⁺ c⁺. (# 6 :* (s :+ s⁺) :+ h :* (c :- c⁺), # 0)) (square_zero lean none.2) in
      record {
        curvatures = same_of_sub (*ℤ_cancel {k = pos h} (positive wide) (no_bend ∙ sym (*ℤ-zero (pos h))));
        slopes = prove≡ (s ∷ s⁺ ∷ []) (λ s s⁺. (s⁺, :neg s)) (omega (arith, bends, leans));
        slope = prove≡ (pos h ∷ s ∷ c ∷ []) (λ h s c. (h :* c :+ # 2 :* s, # 0)) (omega (arith, bends, turns, leans));
      }

-- ---- from gap to gap

-- two such quadratics that meet with one slope and one curvature are zero
pub both_zero : {h k : ℕ} {s c s⁺ c⁺ s⁺⁺ c⁺⁺ : ℤ} → 0 < h → Quadratic h s c s⁺ c⁺ → Quadratic k s⁺ c⁺ s⁺⁺ c⁺⁺ → (s ≡ pos 0) × (c ≡ pos 0)
both_zero {h} {k} {s} {c} {s⁺} {c⁺} wide left right = (flat, straight)
  where
    beside : k · c +ℤ 2 · neg_ℤ s ≡ pos 0
    beside = rw (← left.curvatures, ← left.slopes) right.slope

    straight : c ≡ pos 0
    straight = *ℤ_cancel {k = pos (h + k)} (positive (omega arith))
        (ring (pos h ∷ pos k ∷ s ∷ c ∷ []) (λ h k s c. ((h :+ k) :* c, (h :* c :+ # 2 :* s) :+ (k :* c :+ # 2 :* :neg s))) tt
        ∙ ap₂ ◌+ℤ◌ left.slope beside
        ∙ sym (*ℤ-zero (pos (h + k))))

    flat : s ≡ pos 0
    flat = *ℤ_cancel {k = pos 2} (positive (omega arith))
        (ring (pos h ∷ s ∷ []) (λ h s. (# 2 :* s, h :* # 0 :+ # 2 :* s)) tt ∙ ap (λ c. h · c +ℤ 2 · s) (sym straight) ∙ left.slope)

-- a sign goes on
module _ {v w : ℕ} {x y : ℤ} (0<v : 0 < v) (0<w : 0 < w) (same : v · x ≡ w · y) where
  carry : pos 0 ≤ℤ x → pos 0 ≤ℤ y
  carry h = *ℤ_cancel_le {k = pos w} (positive 0<w) (omega (linear, eq_ℕ same, eq_ℕ (*ℤ-zero (pos v)), eq_ℕ (*ℤ-zero (pos w)), *ℤ_mono {k = pos v} (<ℤ-≤ℤ (positive 0<v)) h))

  carry_back : y ≤ℤ pos 0 → x ≤ℤ pos 0
  carry_back h = *ℤ_cancel_le {k = pos v} (positive 0<v) (omega (linear, eq_ℕ same, eq_ℕ (*ℤ-zero (pos v)), eq_ℕ (*ℤ-zero (pos w)), *ℤ_mono {k = pos w} (<ℤ-≤ℤ (positive 0<w)) h))

-- What arrives at a knot leaves it, up to weights, nothing leaves the first and nothing arrives at the last: so it grows over no gap, since its
-- sign goes on from gap to gap, from the first to the right and from the last to the left.
module _ (n : ℕ) (weight : ℕ → ℕ) (leave arrive : ℕ → ℤ) (heavy : (i : ℕ) → i < n → 0 < weight i)
    (up_to_lem : (i : ℕ) → i < n → leave i ≤ℤ arrive i)
    (across : (i : ℕ) → suc i < n → weight (suc i) · arrive i ≡ weight i · leave (suc i))
    (first : leave 0 ≡ pos 0) (last : (i : ℕ) → suc i ≡ n → arrive i ≡ pos 0) where
  from_first : (i : ℕ) → i < n → pos 0 ≤ℤ leave i
  from_first zero l = omega (linear, eq_ℕ first)
  from_first (suc i) l = carry (heavy (suc i) l) (heavy i (omega arith)) (across i l) (≤ℤ_trans (from_first i (omega arith)) (up_to_lem i (omega arith)))

  from_last : (k i : ℕ) → i + suc k ≡ n → arrive i ≤ℤ pos 0
  from_last zero i e = omega (linear, eq_ℕ (last i (omega arith)))
  from_last (suc k) i e = carry_back (heavy (suc i) (omega arith)) (heavy i (omega arith)) (across i (omega arith)) (≤ℤ_trans (up_to_lem (suc i) (omega arith)) (from_last k (suc i) (omega arith)))

  pub never_grows : (i : ℕ) → i < n → arrive i ≤ℤ leave i
  never_grows i l = ≤ℤ_trans (from_last (n - suc i) i (omega arith)) (from_first i l)
