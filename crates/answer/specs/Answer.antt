-- Document 01, "Numbers of refusal": what an operation answers, and how the steps of an order follow each other.
-- Assumes nothing.
use Rattle.std.specs.Prelude.{ℕ, zero, suc, Bool, true, false}

-- what it gives, or the number and place of its refusal
pub data Answer (A : Type 0) : Type 0 where
  refused : ℕ → ℕ → Answer A
  given : A → Answer A

-- a check gives nothing: it accepts, or refuses
abbrev pub Verdict : Type 0
Verdict = Answer (Unit {0})

abbrev pub accepted : Verdict
accepted = given tt

-- "the orders go before places": the first step that refuses counts; where there is none, what follows
infixr 20 ◌then◌
unfoldable pub ◌then◌ : {A : Type 0} → Verdict → Answer A → Answer A
refused n p then b = refused n p
given u then b = b

-- "given exactly when": refused with number n at place p if the test holds
unfoldable pub refuse : ℕ → ℕ → Bool → Verdict
refuse n p true = refused n p
refuse n p false = accepted

-- "within one step of an order the lowest place wins": `check` at k places from place i on
unfoldable pub each : (ℕ → Verdict) → ℕ → ℕ → Verdict
each check i zero = accepted
each check i (suc k) = check i then each check (suc i) k

-- the table's number and place: 0 and 0 where it is accepted
unfoldable pub number : {A : Type 0} → Answer A → ℕ
number (refused n p) = n
number (given a) = 0

unfoldable pub place : {A : Type 0} → Answer A → ℕ
place (refused n p) = p
place (given a) = 0
