-- Laws of an order of refusals: when two orders answer alike, and what an acceptance says of each step.
-- Assumes nothing.
use mathlib.Core.Path.{◌≡◌, refl, sym, ap, ◌∙◌, subst}
use mathlib.Core.Bool.{Bool, true, false}
use Prim.Native.Nat.{ℕ, zero, suc, ◌+◌, ◌≤◌, ◌<◌}
use native.Mathlib.Omega.{arith}
use native.Mathlib.Decide.{ℕ_discrete}
use Rattle.answer.specs.Answer.{Answer, refused, given, Verdict, accepted, ◌then◌, refuse, each}

-- ---- alike

-- two steps alike, and where they accept, what follows alike
pub then_same : {A : Type 0} {v v' : Verdict} {b b' : Answer A} → v' ≡ v → (v ≡ accepted → b' ≡ b) → (v' then b') ≡ (v then b)
unfolding ◌then◌
then_same {A} {v} {v'} {b} {b'} e f = ap (λ u. u then b') e ∙ go v f
  where
    go : (v : Verdict) → (v ≡ accepted → b' ≡ b) → (v then b') ≡ (v then b)
    go (refused n p) f = refl
    go (given u) f = f refl

pub each_same : {check check' : ℕ → Verdict} (i k : ℕ) → ((j : ℕ) → i ≤ j → j < i + k → check' j ≡ check j) → each check' i k ≡ each check i k
unfolding each
each_same i zero h = refl
each_same i (suc k) h = then_same (h i (omega arith) (omega arith)) (λ e. each_same (suc i) k (λ j l g. h j (omega arith) (omega arith)))

-- steps may be bracketed either way
pub then_assoc : {A : Type 0} (v w : Verdict) (b : Answer A) → ((v then w) then b) ≡ (v then (w then b))
unfolding ◌then◌
then_assoc (refused n p) w b = refl
then_assoc (given u) w b = refl

-- ---- acceptance

abbrev Accepts : {A : Type 0} → Answer A → Type 0
Accepts (refused n p) = ⊥
Accepts (given a) = Unit {0}

pub not_both : {A : Type 0} {n p : ℕ} {a : A} → refused n p ≡ given a → ⊥
not_both e = subst Accepts (sym e) tt

pub given_same : {A : Type 0} {a b : A} → given a ≡ given b → a ≡ b
given_same e = cc

pub first_accepts : {A : Type 0} {a : A} (v : Verdict) (b : Answer A) → (v then b) ≡ given a → v ≡ accepted
unfolding ◌then◌
first_accepts (refused n p) b e = absurd (not_both e)
first_accepts (given u) b e = refl

pub next_accepts : {A : Type 0} {a : A} (v : Verdict) (b : Answer A) → (v then b) ≡ given a → b ≡ given a
unfolding ◌then◌
next_accepts (refused n p) b e = absurd (not_both e)
next_accepts (given u) b e = e

pub both_accept : {A : Type 0} {a : A} {v : Verdict} {b : Answer A} → v ≡ accepted → b ≡ given a → (v then b) ≡ given a
unfolding ◌then◌
both_accept e f = rw e f

pub refuse_accepts : (n p : ℕ) (test : Bool) → refuse n p test ≡ accepted → test ≡ false
unfolding refuse
refuse_accepts n p true e = absurd (not_both e)
refuse_accepts n p false e = refl

pub accepts_refuse : (n p : ℕ) {test : Bool} → test ≡ false → refuse n p test ≡ accepted
unfolding refuse
accepts_refuse n p e = rw e

pub each_accepts : (check : ℕ → Verdict) (i k : ℕ) → each check i k ≡ accepted → (j : ℕ) → i ≤ j → j < i + k → check j ≡ accepted
unfolding each
each_accepts check i zero e j l g = absurd (omega arith)
each_accepts check i (suc k) e j l g =
    elim (ℕ_discrete j i) [ yes s ↦ rw s (first_accepts (check i) _ e) | no s ↦ each_accepts check (suc i) k (next_accepts (check i) _ e) j (omega arith) (omega arith) ]

pub accepts_each : (check : ℕ → Verdict) (i k : ℕ) → ((j : ℕ) → i ≤ j → j < i + k → check j ≡ accepted) → each check i k ≡ accepted
unfolding each
accepts_each check i zero h = refl
accepts_each check i (suc k) h = both_accept (h i (omega arith) (omega arith)) (accepts_each check (suc i) k (λ j l g. h j (omega arith) (omega arith)))
