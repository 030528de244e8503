-- Laws of `each`, as a loop that counts i up to n uses them: what is left to check from i on decides.
-- Assumes nothing.
use mathlib.Core.Path.{◌≡◌, ap, ◌∙◌, sym}
use Prim.Native.Nat.{ℕ, zero, suc, ◌+◌, ◌-◌, ◌≤◌, ◌<◌}
use native.Mathlib.Omega.{arith}
use native.Mathlib.Nat.{sub-zero}
use native.Mathlib.Numerals.{add-one}
use Rattle.answer.specs.Answer.{Verdict, accepted, refused, ◌then◌, each}
use Rattle.answer.specs.Judge.{numbered}

step : (check : ℕ → Verdict) (i n : ℕ) → i < n → each check i (n - i) ≡ (check i then each check (suc i) (n - suc i))
unfolding each
step check i n h = ap (λ k. each check i k) less
  where
    less : n - i ≡ suc (n - suc i)
    less = omega arith

pub each_next : (check : ℕ → Verdict) (i n : ℕ) → i < n → check i ≡ accepted → each check i (n - i) ≡ each check (i + 1) (n - (i + 1))
unfolding ◌then◌
each_next check i n h e = step check i n h ∙ ap (λ v. v then each check (suc i) (n - suc i)) e ∙ ap (λ k. each check k (n - k)) (sym (add-one i))

pub each_here : (check : ℕ → Verdict) (i n : ℕ) → i < n → {m p : ℕ} → check i ≡ refused m p → each check i (n - i) ≡ refused m p
unfolding ◌then◌
each_here check i n h e = step check i n h ∙ ap (λ v. v then each check (suc i) (n - suc i)) e

pub each_end : (check : ℕ → Verdict) (i n : ℕ) → n ≤ i → each check i (n - i) ≡ accepted
unfolding each
each_end check i n h = ap (λ k. each check i k) none
  where
    none : n - i ≡ 0
    none = omega arith

-- the invariant: the places before i are accepted
pub record Rest (check : ℕ → Verdict) (n i : ℕ) : Type 0 where
  pub within : i ≤ n
  pub decides : each check i (n - i) ≡ each check 0 n

module _ {check : ℕ → Verdict} {n : ℕ} where
  pub rest_starts : Rest check n 0
  rest_starts = record { within = omega arith; decides = ap (λ k. each check 0 k) (sub-zero n) }

  module _ {i : ℕ} (r : Rest check n i) where
    pub rest_passes : i < n → check i ≡ accepted → Rest check n (i + 1)
    rest_passes h e = record { within = omega arith; decides = sym (each_next check i n h e) ∙ r.decides }

    pub rest_stops : {m p : ℕ} → i < n → check i ≡ refused m p → refused m p ≡ each check 0 n
    rest_stops h e = sym (each_here check i n h e) ∙ r.decides

    pub rest_accepts : n ≤ i → accepted ≡ each check 0 n
    rest_accepts h = sym (each_end check i n h) ∙ r.decides

-- ---- a check that answers a number, 0 where it accepts

pub is_refused : (m p : ℕ) → 0 < m → numbered m p ≡ refused m p
is_refused zero p h = absurd (omega arith)
is_refused (suc m) p h = ap (λ k. refused k p) (omega arith)

pub is_accepted : (m p : ℕ) → m ≤ 0 → numbered m p ≡ accepted
is_accepted zero p h = λ i. accepted
is_accepted (suc m) p h = absurd (omega arith)

module _ {check : ℕ → Verdict} {n i : ℕ} (r : Rest check n i) where
  pub rest_goes_on : {m : ℕ} → i < n → check i ≡ numbered m i → m ≤ 0 → Rest check n (i + 1)
  rest_goes_on {m} h e z = rest_passes r h (e ∙ is_accepted m i z)

  pub rest_refuses : {m : ℕ} → i < n → check i ≡ numbered m i → 0 < m → refused m i ≡ each check 0 n
  rest_refuses {m} h e z = rest_stops r h (e ∙ is_refused m i z)
