-- Which step of an order refused: one that never refuses with a number was passed where that number is given.
-- Assumes nothing.
use mathlib.Core.Path.{◌≡◌, refl, ap, sym, subst, ◌∙◌}
use mathlib.Core.Logic.{◌≢◌}
use mathlib.Core.Bool.{Bool, true, false, not}
use Prim.Native.Nat.{ℕ, zero, suc, ◌+◌, ◌≤◌, ◌<◌}
use native.Mathlib.Omega.{arith}
use native.Mathlib.Decide.{ℕ_discrete}
use lib.Dec.{T, eqb, eqb_refl, T_not}
use Rattle.answer.specs.Answer.{Answer, refused, given, Verdict, accepted, ◌then◌, refuse, each, number}

-- an answer that is no refusal with n
pub record Never {A : Type 0} (n : ℕ) (v : Answer A) : Type 0 where
  pub never : (p : ℕ) → v ≢ refused n p

abbrev IsRefused : {A : Type 0} → Answer A → Type 0
IsRefused (refused n p) = Unit {0}
IsRefused (given a) = ⊥

number_of : {A : Type 0} {n p m q : ℕ} → ◌≡◌ {A = Answer A} (refused n p) (refused m q) → n ≡ m
number_of e = cc

place_of : {A : Type 0} {n p m q : ℕ} → ◌≡◌ {A = Answer A} (refused n p) (refused m q) → p ≡ q
place_of e = cc

pub given_never : {A : Type 0} {n : ℕ} {a : A} → Never n (given a)
given_never = record { never = λ p e. subst IsRefused (sym e) tt }

pub never_refuse : (n m q : ℕ) (test : Bool) → m ≢ n → Never n (refuse m q test)
unfolding refuse
never_refuse n m q true h = record { never = λ p e. h (number_of e) }
never_refuse n m q false h = given_never

-- of two numbers that are written down
pub never_other : {n : ℕ} (m q : ℕ) (test : Bool) → T (not (eqb m n)) → Never n (refuse m q test)
never_other {n} m q test t = never_refuse n m q test (λ e. T_not (eqb m n) t (subst (λ k. T (eqb m k)) e (eqb_refl m)))

pub never_then : {A : Type 0} {n : ℕ} {v : Verdict} {b : Answer A} → Never n v → Never n b → Never n (v then b)
unfolding ◌then◌
never_then {v = refused m q} h k = record { never = λ p e. h.never q (ap (λ j. refused j q) (number_of e)) }
never_then {v = given u} h k = k

pub never_each : (n : ℕ) (check : ℕ → Verdict) (i k : ℕ) → ((j : ℕ) → j < i + k → Never n (check j)) → Never n (each check i k)
unfolding each
never_each n check i zero h = given_never
never_each n check i (suc k) h = never_then (h i (omega arith)) (never_each n check (suc i) k (λ j l. h j (omega arith)))

pub never_number : {A : Type 0} {n : ℕ} (v : Answer A) → 0 < n → Never n v → number v ≢ n
unfolding number
never_number (refused m p) h v e = v.never p (ap (λ j. refused j p) e)
never_number (given a) h v e = omega arith

-- a step that never refuses so was passed
pub passed : {A : Type 0} {n p : ℕ} (v : Verdict) (b : Answer A) → Never n v → (v then b) ≡ refused n p → b ≡ refused n p
unfolding ◌then◌
passed {n = n} {p} (refused m q) b h e = absurd (h.never q (ap (λ j. refused j q) (number_of e)))
passed (given u) b h e = e

pub passed_accepts : {A : Type 0} {n p : ℕ} (v : Verdict) (b : Answer A) → Never n v → (v then b) ≡ refused n p → v ≡ accepted
unfolding ◌then◌
passed_accepts {n = n} {p} (refused m q) b h e = absurd (h.never q (ap (λ j. refused j q) (number_of e)))
passed_accepts (given u) b h e = refl

-- what a test that refuses says
pub refuse_true : (n i : ℕ) (test : Bool) {m p : ℕ} → refuse n i test ≡ refused m p → (test ≡ true) × (i ≡ p)
unfolding refuse
refuse_true n i true e = (refl, place_of e)
refuse_true n i false {m} {p} e = absurd ((given_never {n = m}).never p e)

-- the place where `each` refuses is the first that its check refuses
pub record Met (check : ℕ → Verdict) (i k n p : ℕ) : Type 0 where
  pub at_place : ℕ
  pub from : i ≤ at_place
  pub below : at_place < i + k
  pub refuses : check at_place ≡ refused n p
  pub before : (j : ℕ) → i ≤ j → j < at_place → check j ≡ accepted

pub met : (check : ℕ → Verdict) (i k : ℕ) {n p : ℕ} → each check i k ≡ refused n p → Met check i k n p
unfolding each ◌then◌
met check i zero {n} {p} e = absurd ((given_never {n = n}).never p e)
met check i (suc k) {n} {p} e = go (check i) refl e (met check (suc i) k)
  where
    go : (v : Verdict) → check i ≡ v → (v then each check (suc i) k) ≡ refused n p → (each check (suc i) k ≡ refused n p → Met check (suc i) k n p) → Met check i (suc k) n p
    go (refused m q) s e ih = record { at_place = i; from = omega arith; below = omega arith; refuses = s ∙ e; before = λ j l h. absurd (omega arith) }
    go (given u) s e ih = record { at_place = r.at_place; from = omega (arith, r.from); below = omega (arith, r.below); refuses = r.refuses; before = earlier }
      where
        r : Met check (suc i) k n p
        r = ih e

        earlier : (j : ℕ) → i ≤ j → j < r.at_place → check j ≡ accepted
        earlier j l h = elim (ℕ_discrete j i) [ yes t ↦ rw t s | no t ↦ r.before j (omega arith) h ]

-- ---- the number 0 is no refusal's

pub numbered_refuse : (m q : ℕ) (test : Bool) → 0 < m → Never 0 (refuse m q test)
numbered_refuse m q test h = never_refuse 0 m q test (λ e. omega arith)
