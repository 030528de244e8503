-- That ∂ is the derivative, and not only called so: where τ moves by ε, a formula moves by ε times its ∂, but for a multiple of ε²; and only one number is so.
-- Assumes nothing.
use mathlib.Core.Path.{◌≡◌, refl, sym, ap, ap₂, ◌∙◌, subst}
use mathlib.Core.List.{[], ◌∷◌}
use Prim.Native.Nat.{ℕ, zero, suc, ◌+◌, ◌*◌}
use native.Mathlib.Nat.{mul-zero, le-mul_of_pos_right}
use native.Mathlib.Omega.{arith}
use lib.Dec.{lt→ltb}
use lib.Signed.{lt_z_yes}
use lib.IntN.{ℤ, pos, nat_abs, ◌+ℤ◌, ◌-ℤ◌, ◌*ℤ◌}
use Rattle.whole.proofs.Ring.{same_of_sub}
use Rattle.whole.proofs.Order.{*ℤ_cancel, abs_mul}
use Rattle.whole.proofs.Linear.{know≡, prove≡}
use Rattle.whole.proofs.Solve.{◌:+◌, ◌:-◌, ◌:*◌, #, ring, zero_abs}
use Rattle.curve.specs.Formula.{Formula, τ, num, nat, ◌⊕◌, ◌⊖◌, ◌⊗◌, ◌^^◌, power, worth, ∂}

-- y is x + ε·d, but for a multiple of ε²
pub record Tangent (ε x d y : ℤ) : Type 0 where
  pub rest : ℤ
  pub is : y ≡ x +ℤ ε *ℤ d +ℤ ε *ℤ ε *ℤ rest

module _ (ε : ℤ) where
  still : (x : ℤ) → Tangent ε x (pos 0) x
  still x = record { rest = pos 0; is = ring (ε ∷ x ∷ []) (λ ε x. (x, x :+ ε :* # 0 :+ ε :* ε :* # 0)) tt }

  moves : (x : ℤ) → Tangent ε x (pos 1) (x +ℤ ε)
  moves x = record { rest = pos 0; is = ring (ε ∷ x ∷ []) (λ ε x. (x :+ ε, x :+ ε :* # 1 :+ ε :* ε :* # 0)) tt }

  sum : {x d y x' d' y' : ℤ} → Tangent ε x d y → Tangent ε x' d' y' → Tangent ε (x +ℤ x') (d +ℤ d') (y +ℤ y')
  sum {x} {d} {y} {x'} {d'} {y'} p q = record {
    rest = p.rest +ℤ q.rest;
    is = ap₂ ◌+ℤ◌ p.is q.is ∙ ring (ε ∷ x ∷ d ∷ p.rest ∷ x' ∷ d' ∷ q.rest ∷ []) (λ ε x d r x' d' r'. ((x :+ ε :* d :+ ε :* ε :* r) :+ (x' :+ ε :* d' :+ ε :* ε :* r'), x :+ x' :+ ε :* (d :+ d') :+ ε :* ε :* (r :+ r'))) tt;
  }

  difference : {x d y x' d' y' : ℤ} → Tangent ε x d y → Tangent ε x' d' y' → Tangent ε (x -ℤ x') (d -ℤ d') (y -ℤ y')
  difference {x} {d} {y} {x'} {d'} {y'} p q = record {
    rest = p.rest -ℤ q.rest;
    is = ap₂ ◌-ℤ◌ p.is q.is ∙ ring (ε ∷ x ∷ d ∷ p.rest ∷ x' ∷ d' ∷ q.rest ∷ []) (λ ε x d r x' d' r'. ((x :+ ε :* d :+ ε :* ε :* r) :- (x' :+ ε :* d' :+ ε :* ε :* r'), x :- x' :+ ε :* (d :- d') :+ ε :* ε :* (r :- r'))) tt;
  }

  product : {x d y x' d' y' : ℤ} → Tangent ε x d y → Tangent ε x' d' y' → Tangent ε (x *ℤ x') (d *ℤ x' +ℤ x *ℤ d') (y *ℤ y')
  product {x} {d} {y} {x'} {d'} {y'} p q = record {
    rest = d *ℤ d' +ℤ x *ℤ q.rest +ℤ p.rest *ℤ x' +ℤ ε *ℤ (d *ℤ q.rest +ℤ p.rest *ℤ d') +ℤ ε *ℤ ε *ℤ (p.rest *ℤ q.rest);
    is = ap₂ ◌*ℤ◌ p.is q.is ∙ ring (ε ∷ x ∷ d ∷ p.rest ∷ x' ∷ d' ∷ q.rest ∷ []) (λ ε x d r x' d' r'. ((x :+ ε :* d :+ ε :* ε :* r) :* (x' :+ ε :* d' :+ ε :* ε :* r'), x :* x' :+ ε :* (d :* x' :+ x :* d') :+ ε :* ε :* (d :* d' :+ x :* r' :+ r :* x' :+ ε :* (d :* r' :+ r :* d') :+ ε :* ε :* (r :* r')))) tt;
  }

  -- by the product rule n times, gathered
  raised : {x d y : ℤ} → Tangent ε x d y → (n : ℕ) → Tangent ε (power x (suc n)) (pos (suc n) *ℤ (power x n *ℤ d)) (power y (suc n))
  unfolding power
  raised {x} {d} {y} p zero =
      subst (λ k. Tangent ε (x *ℤ pos 1) k (y *ℤ pos 1)) (ring (x ∷ d ∷ []) (λ x d. (d :* # 1 :+ x :* # 0, # 1 :* (# 1 :* d))) tt) (product p (still (pos 1)))
  raised {x} {d} {y} p (suc n) =
      subst (λ k. Tangent ε (power x (suc (suc n))) k (power y (suc (suc n)))) (gathered ∙ ap (λ k. pos k *ℤ (power x (suc n) *ℤ d)) next) (product p (raised p n))
    where
      next : 1 + suc n ≡ suc (suc n)
      next = omega arith

      gathered : d *ℤ (x *ℤ power x n) +ℤ x *ℤ (pos (suc n) *ℤ (power x n *ℤ d)) ≡ (pos 1 +ℤ pos (suc n)) *ℤ (x *ℤ power x n *ℤ d)
      gathered = ring (x ∷ d ∷ power x n ∷ pos (suc n) ∷ []) (λ x d q n. (d :* (x :* q) :+ x :* (n :* (q :* d)), (# 1 :+ n) :* (x :* q :* d))) tt

  pub ∂_is_derivative : (f : Formula ℤ) (t : ℤ) → Tangent ε (worth f t) (worth (∂ f) t) (worth f (t +ℤ ε))
  unfolding worth ∂ power
  ∂_is_derivative τ t = moves t
  ∂_is_derivative (num k) t = still k
  ∂_is_derivative (nat n) t = still (pos n)
  ∂_is_derivative (a ⊕ b) t = sum (∂_is_derivative a t) (∂_is_derivative b t)
  ∂_is_derivative (a ⊖ b) t = difference (∂_is_derivative a t) (∂_is_derivative b t)
  ∂_is_derivative (a ⊗ b) t = product (∂_is_derivative a t) (∂_is_derivative b t)
  ∂_is_derivative (a ^^ zero) t = still (pos 1)
  ∂_is_derivative (a ^^ suc n) t = raised (∂_is_derivative a t) n

-- a function of ε has one tangent at 0
pub tangent_unique : (f : ℤ → ℤ) (x d d' : ℤ) → ((ε : ℤ) → Tangent ε x d (f ε)) → ((ε : ℤ) → Tangent ε x d' (f ε)) → d ≡ d'
tangent_unique f x d d' p q = same_of_sub (zero_abs (d -ℤ d') (small (nat_abs r) refl))
  where
    ε : ℤ
    ε = pos (suc (nat_abs (d -ℤ d')))

    r : ℤ
    r = (q (pos (suc (nat_abs (d -ℤ d'))))).rest -ℤ (p (pos (suc (nat_abs (d -ℤ d'))))).rest

    both : ε *ℤ (d -ℤ d') ≡ ε *ℤ (ε *ℤ r)
    both = prove≡ (ε ∷ x ∷ d ∷ d' ∷ (p ε).rest ∷ (q ε).rest ∷ []) (λ e x d d' a b. (e :* (d :- d'), e :* (e :* (b :- a))))
        (omega (arith, know≡ (ε ∷ x ∷ d ∷ d' ∷ (p ε).rest ∷ (q ε).rest ∷ []) (λ e x d d' a b. (x :+ e :* d :+ e :* e :* a, x :+ e :* d' :+ e :* e :* b)) (sym (p ε).is ∙ (q ε).is)))

    once : d -ℤ d' ≡ ε *ℤ r
    once = *ℤ_cancel {k = ε} (lt_z_yes (lt→ltb 0 (suc (nat_abs (d -ℤ d'))) (omega arith))) both

    size : nat_abs (d -ℤ d') ≡ suc (nat_abs (d -ℤ d')) * nat_abs r
    size = ap nat_abs once ∙ abs_mul ε r

    small : (k : ℕ) → nat_abs r ≡ k → nat_abs (d -ℤ d') ≡ 0
    small zero e = size ∙ ap (λ (n : ℕ). suc (nat_abs (d -ℤ d')) * n) e ∙ mul-zero (suc (nat_abs (d -ℤ d')))
    small (suc k) e = absurd (far (size ∙ ap (λ (n : ℕ). suc (nat_abs (d -ℤ d')) * n) e))
      where
        far : nat_abs (d -ℤ d') ≡ suc (nat_abs (d -ℤ d')) * suc k → ⊥
        far h = omega (arith, h, le-mul_of_pos_right {m = suc k} (suc (nat_abs (d -ℤ d'))) (omega arith))
