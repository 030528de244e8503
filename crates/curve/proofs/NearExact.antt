-- Why a card within half a unit of an exact solution is not refused with 10: a jump is linear in the card's numbers, the exact ones
-- have none, and so it is the jump of what the numbers are off, which the allowance covers.
-- Assumes nothing.
use mathlib.Core.Path.{◌≡◌, sym, ap, ◌∙◌, subst}
use mathlib.Core.List.{List, [], ◌∷◌}
use Prim.Native.Nat.{ℕ, ◌+◌, ◌-◌, ◌*◌, ◌≤◌, ◌<◌}
use native.Mathlib.Nat.{mul_assoc, mul_comm, add-mul, le_of_mul-le-mul_right}
use native.Mathlib.Omega.{arith}
use lib.IntN.{ℤ, pos, nat_abs, ◌+ℤ◌, ◌*ℤ◌, ◌-ℤ◌, +ℤ_idr, +ℤ_invr, *ℤ-zero}
use Rattle.whole.proofs.Solve.{E, var, ◌:+◌, ◌:-◌, ◌:*◌, #, ring, at as the, val}
use Rattle.whole.proofs.Order.{abs_mul}
use Rattle.whole.proofs.Linear.{bounded, bound}
use Rattle.whole.specs.Whole.{◌·◌}
use Rattle.curve.specs.Formula.{num, nat, ◌⊖◌, worth, amount}
use Rattle.curve.specs.Curve.{Order, third, fourth, rightward, leftward, equation, equals}
use Rattle.curve.proofs.Written.{amount_e, powers, rising, jumping, equating, equalling}

-- twice what a number is off, times q
abbrev pub off : ℕ → ℤ → ℤ → ℤ
off q s m = 2 · (4096 · s -ℤ q · m)

abbrev off_e : E → E → E → E
off_e q s m = # 2 :* (# 4096 :* s :- q :* m)

vanish : (a l r : ℤ) (k : ℕ) → l ≡ r → a +ℤ k · (r -ℤ l) ≡ a
vanish a l r k e = ap (λ z. a +ℤ k · (r -ℤ z)) e ∙ ap (λ z. a +ℤ k · z) (+ℤ_invr r) ∙ ap (λ z. a +ℤ z) (*ℤ-zero (pos k)) ∙ +ℤ_idr a

-- their jump
abbrev stray_e : Order → E
stray_e o =
    amount_e
    (nat 0 ⊖ jumping (powers (var 0) (var 1) (var 2) (var 3)) (powers (var 4) (var 5) (var 6) (var 7)) o (nat 0) (nat 0) (var 8) (var 9) (var 10) (var 11) (var 12) (var 13))

module _ (q : ℕ) (g p : ℕ → ℤ) (y⁻ y y⁺ s⁻ c⁻ s c s⁺ c⁺ m⁻ M⁻ m M m⁺ M⁺ : ℤ) where
  -- the powers, and what each number is off
  abbrev offs : List ℤ
  offs = g 1 ∷ g 2 ∷ g 3 ∷ g 4 ∷ p 1 ∷ p 2 ∷ p 3 ∷ p 4 ∷ off q s⁻ m⁻ ∷ off q c⁻ M⁻ ∷ off q s m ∷ off q c M ∷ off q s⁺ m⁺ ∷ off q c⁺ M⁺ ∷ []

  abbrev all : List ℤ
  all = pos q ∷ g 1 ∷ g 2 ∷ g 3 ∷ g 4 ∷ p 1 ∷ p 2 ∷ p 3 ∷ p 4 ∷ y⁻ ∷ y ∷ y⁺ ∷ s⁻ ∷ c⁻ ∷ s ∷ c ∷ s⁺ ∷ c⁺ ∷ m⁻ ∷ M⁻ ∷ m ∷ M ∷ m⁺ ∷ M⁺ ∷ []

  core : (o : Order) → amount (equating g p o s⁻ c⁻ s c s⁺ c⁺) ≡ amount (equalling g p o (nat q) y⁻ y y⁺) →
      2 · (q · amount (jumping g p o (rising y y⁺) (rising y⁻ y) m⁻ M⁻ m M m⁺ M⁺)) ≡ val (the offs) (stray_e o)
  unfolding amount worth rightward leftward equation equals
  core third eq =
      ring all
      (λ q g₁ g₂ g₃ g₄ p₁ p₂ p₃ p₄ y⁻ y y⁺ s⁻ c⁻ s c s⁺ c⁺ m⁻ M⁻ m M m⁺ M⁺.
      let g : ℕ → E = powers g₁ g₂ g₃ g₄ in
      let p : ℕ → E = powers p₁ p₂ p₃ p₄ in (
        # 2 :* (q :* amount_e (jumping g p third (rising y y⁺) (rising y⁻ y) m⁻ M⁻ m M m⁺ M⁺)),
        amount_e (nat 0 ⊖ jumping g p third (nat 0) (nat 0) (off_e q s⁻ m⁻) (off_e q c⁻ M⁻) (off_e q s m) (off_e q c M) (off_e q s⁺ m⁺) (off_e q c⁺ M⁺))
            :+ # 8192 :* (amount_e (equalling g p third (num q) y⁻ y y⁺) :- amount_e (equating g p third s⁻ c⁻ s c s⁺ c⁺)),
      )) tt
      ∙ vanish _ _ _ 8192 eq
  core fourth eq =
      sym (vanish _ _ _ 2048 eq)
      ∙ ring all
      (λ q g₁ g₂ g₃ g₄ p₁ p₂ p₃ p₄ y⁻ y y⁺ s⁻ c⁻ s c s⁺ c⁺ m⁻ M⁻ m M m⁺ M⁺.
      let g : ℕ → E = powers g₁ g₂ g₃ g₄ in
      let p : ℕ → E = powers p₁ p₂ p₃ p₄ in (
        # 2 :* (q :* amount_e (jumping g p fourth (rising y y⁺) (rising y⁻ y) m⁻ M⁻ m M m⁺ M⁺))
            :+ # 2048 :* (amount_e (equalling g p fourth (num q) y⁻ y y⁺) :- amount_e (equating g p fourth s⁻ c⁻ s c s⁺ c⁺)),
        amount_e (nat 0 ⊖ jumping g p fourth (nat 0) (nat 0) (off_e q s⁻ m⁻) (off_e q c⁻ M⁻) (off_e q s m) (off_e q c M) (off_e q s⁺ m⁺) (off_e q c⁺ M⁺)),
      )) tt

-- twice what numbers within half a unit can do on one side; n is 0 where the slopes are given, and else 1
abbrev pub slack : ℕ → Order → (ℕ → ℕ) → ℕ
slack n third G = 20 * n * G 2 + 4 * G 1
slack n fourth G = 30 * n * G 3 + 5 * G 2

module _ (q n : ℕ) (q>0 : 0 < q) (G P : ℕ → ℕ) (y⁻ y y⁺ s⁻ c⁻ s c s⁺ c⁺ m⁻ M⁻ m M m⁺ M⁺ : ℤ)
    (near-s⁻ : nat_abs (off q s⁻ m⁻) ≤ n * q) (near-c⁻ : nat_abs (off q c⁻ M⁻) ≤ q)
    (near-s : nat_abs (off q s m) ≤ n * q) (near-c : nat_abs (off q c M) ≤ q)
    (near-s⁺ : nat_abs (off q s⁺ m⁺) ≤ n * q) (near-c⁺ : nat_abs (off q c⁺ M⁺) ≤ q) where
  abbrev bounds : List ℕ
  bounds = G 1 ∷ G 2 ∷ G 3 ∷ G 4 ∷ P 1 ∷ P 2 ∷ P 3 ∷ P 4 ∷ n * q ∷ q ∷ n * q ∷ q ∷ n * q ∷ q ∷ []

  spread : (o : Order) → nat_abs (val (the (offs q (λ i. pos (G i)) (λ i. pos (P i)) y⁻ y y⁺ s⁻ c⁻ s c s⁺ c⁺ m⁻ M⁻ m M m⁺ M⁺)) (stray_e o)) ≤ bound bounds (stray_e o)
  spread o =
      bounded
      {xs = offs q (λ i. pos (G i)) (λ i. pos (P i)) y⁻ y y⁺ s⁻ c⁻ s c s⁺ c⁺ m⁻ M⁻ m M m⁺ M⁺}
      {bs = bounds}
      (omega arith) (stray_e o)

  covered : (o : Order) (k : ℕ) → 2 * (q * k) ≤ bound bounds (stray_e o) → 2 * k * q ≤ (slack n o G + slack n o P) * q
  unfolding rightward leftward
  covered third k h =
      simp (add-mul, mul_assoc, mul_comm k q, mul_comm (G 1) q, mul_comm (G 2) q, mul_comm (P 1) q, mul_comm (P 2) q) (omega (arith, simp mul_assoc at h))
  covered fourth k h =
      simp (add-mul, mul_assoc, mul_comm k q, mul_comm (G 2) q, mul_comm (G 3) q, mul_comm (P 2) q, mul_comm (P 3) q) (omega (arith, simp (add-mul, mul_assoc) at h))

  pub near_jump : (o : Order) → amount (equating (λ i. pos (G i)) (λ i. pos (P i)) o s⁻ c⁻ s c s⁺ c⁺) ≡ amount (equalling (λ i. pos (G i)) (λ i. pos (P i)) o (nat q) y⁻ y y⁺) →
      2 * nat_abs (amount (jumping (λ i. pos (G i)) (λ i. pos (P i)) o (rising y y⁺) (rising y⁻ y) m⁻ M⁻ m M m⁺ M⁺)) ≤ slack n o G + slack n o P
  near_jump o eq = le_of_mul-le-mul_right (covered o (nat_abs jump) (subst (λ k. k ≤ bound bounds (stray_e o)) (sym twice) (spread o))) q>0
    where
      jump : ℤ
      jump = amount (jumping (λ i. pos (G i)) (λ i. pos (P i)) o (rising y y⁺) (rising y⁻ y) m⁻ M⁻ m M m⁺ M⁺)

      twice : 2 * (q * nat_abs jump) ≡ nat_abs (val (the (offs q (λ i. pos (G i)) (λ i. pos (P i)) y⁻ y y⁺ s⁻ c⁻ s c s⁺ c⁺ m⁻ M⁻ m M m⁺ M⁺)) (stray_e o))
      twice =
          sym (abs_mul (pos 2) (q · jump) ∙ ap (λ k. 2 * k) (abs_mul (pos q) jump))
          ∙ ap nat_abs (core q (λ i. pos (G i)) (λ i. pos (P i)) y⁻ y y⁺ s⁻ c⁻ s c s⁺ c⁺ m⁻ M⁻ m M m⁺ M⁺ o eq)
