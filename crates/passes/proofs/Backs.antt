-- How the way back goes on, that it stays stopped, that it sees nothing of the states but those of its n knots, and
-- that all its pairs are finite where it comes to its end. Assumes nothing.
use Prim.Native.Nat.{ℕ, zero, suc, ◌-◌, ◌≤◌, ◌<◌}
use native.Mathlib.Nat.{le_of_lt}
use native.Mathlib.Omega.{arith}
use native.Mathlib.Decide.{le_ind}
use mathlib.Core.Path.{◌≡◌, refl, sym, ap, ◌∙◌}
use mathlib.Core.Bool.{Bool, true, false}
use lib.Ieee.{of_bits}
use Rattle.elimination.specs.declared.State.{State}
use Rattle.rows.specs.declared.Pair.{Pair}
use Rattle.elimination.specs.Elimination.{zero_pair}
use Rattle.elimination.specs.Refusal.{both_finite}
use Rattle.passes.specs.Back.{Back, back, stopped, pair_of, turned, settled, tried, retreat, back_to, pair_at}

pub zeros_finite : both_finite zero_pair ≡ true
unfolding of_bits
zeros_finite = refl

module _ (turn : State → Pair → Pair) (states : ℕ → State) (n : ℕ) where
  pub goes_on : (j : ℕ) (next v : Pair) (b : Bool) → back_to turn states n j ≡ back next → v ≡ turned turn (states (n - 1 - j)) next j → both_finite v ≡ b → back_to turn states n (suc j) ≡ settled b (n - 1 - j) v
  unfolding back_to
  goes_on j next v b e f g = ap (retreat turn states n j) e ∙ ap (tried (n - 1 - j)) (sym f) ∙ ap (λ (x : Bool). settled x (n - 1 - j) v) g

  pub stays_stopped : (i k : ℕ) → back_to turn states n i ≡ stopped k → (m : ℕ) → i ≤ m → back_to turn states n m ≡ stopped k
  unfolding back_to
  stays_stopped i k e m h = le_ind (λ (m : ℕ). back_to turn states n m ≡ stopped k) e (λ m p f. ap (retreat turn states n m) f) m h

  pub pair_here : (j : ℕ) → j < n → pair_at turn states n (n - 1 - j) ≡ pair_of (back_to turn states n (suc j))
  pair_here j h =
      let e : n - (n - 1 - j) ≡ suc j = omega arith in
      ap (λ (i : ℕ). pair_of (back_to turn states n i)) e

  pub zeros_behind : (k : ℕ) → n ≤ k → pair_at turn states n k ≡ zero_pair
  unfolding back_to
  zeros_behind k h =
      let e : n - k ≡ 0 = omega arith in
      ap (λ (i : ℕ). pair_of (back_to turn states n i)) e

module _ (turn : State → Pair → Pair) (states states' : ℕ → State) (n : ℕ) (same : (k : ℕ) → k < n → states k ≡ states' k) where
  retreat_same : (j : ℕ) → j < n → (b : Back) → retreat turn states n j b ≡ retreat turn states' n j b
  retreat_same j h (back next) = ap (λ (x : State). tried (n - 1 - j) (turned turn x next j)) (same (n - 1 - j) (omega arith))
  retreat_same j h (stopped k) = refl

  pub back_same : (j : ℕ) → j ≤ n → back_to turn states n j ≡ back_to turn states' n j
  unfolding back_to
  back_same zero h = refl
  back_same (suc j) h = ap (retreat turn states n j) (back_same j (le_of_lt h)) ∙ retreat_same j h (back_to turn states' n j)

settled_finite : (b : Bool) (k : ℕ) (v : Pair) → both_finite v ≡ b → both_finite (pair_of (settled b k v)) ≡ true
settled_finite true k v e = e
settled_finite false k v e = zeros_finite

-- a pair is finite, or zeros where the way back was stopped
module _ (turn : State → Pair → Pair) (states : ℕ → State) (n : ℕ) where
  retreat_finite : (j : ℕ) (b : Back) → both_finite (pair_of (retreat turn states n j b)) ≡ true
  retreat_finite j (back next) = let v = turned turn (states (n - 1 - j)) next j in settled_finite (both_finite v) (n - 1 - j) v refl
  retreat_finite j (stopped k) = zeros_finite

  back_finite : (j : ℕ) → both_finite (pair_of (back_to turn states n j)) ≡ true
  unfolding back_to
  back_finite zero = zeros_finite
  back_finite (suc j) = retreat_finite j (back_to turn states n j)

  pub pair_finite : (k : ℕ) → both_finite (pair_at turn states n k) ≡ true
  pair_finite k = back_finite (n - k)
