-- The curve of a fit without ends starts at rest: its card has slope 0 and curvature 0 at the first knot, whatever the knots are. Assumes nothing.
use Prim.Native.Nat.{ℕ, zero, suc, ◌-◌}
use native.Mathlib.Nat.{sub-zero}
use native.Mathlib.Omega.{arith}
use mathlib.Core.Path.{◌≡◌, refl, ap, ◌∙◌}
use mathlib.Core.Bool.{Bool, true, false, cond}
use mathlib.Core.List.{List}
use lib.Dec.{eqb, lit<}
use lib.IntN.{ℤ, pos}
use lib.ListN.{length, get_or}
use lib.Ieee.{Float, add, sub, mul, div, neg, of_bits, ne, lt}
use Rattle.answer.specs.Answer.{given, accepted, ◌then◌, refuse}
use Rattle.curve.specs.Card.{Card, knot}
use Rattle.front.specs.Front.{listed}
use Rattle.front.proofs.Listed.{get_d_listed}
use Rattle.rows.specs.declared.Pair.{Pair}
use Rattle.rows.specs.declared.Gap.{Gap}
use Rattle.rows.specs.declared.End.{End}
use Rattle.rows.specs.Floats.{◌⊕◌, ◌⊖◌, ◌⊗◌}
use Rattle.rows.specs.Equations as Equations
use Rattle.elimination.specs.declared.State.{State}
use Rattle.std.specs.Prelude.{Option}
use Rattle.elimination.specs.Elimination.{system, zero_pair, backward, zero_state}
use Rattle.elimination.specs.Refusal.{both_finite}
use Rattle.elimination.specs.Refusal as Refusal
use Rattle.passes.specs.Sheet.{most, end_of, knot_between, is_last, right_gap, left_gap, knot_at}
use Rattle.passes.specs.Forward.{Run, going, stuck, landed, left_by, run_to, state_at}
use Rattle.passes.specs.Back.{Back, back, stopped, pair_of, turned, settled, retreat, back_to, no_pair, pair_at}
use Rattle.passes.specs.Passes.{pairs_in, returned, answered, back_from, passes}
use Rattle.ends.specs.Ends.{ends}
use Rattle.numbers.specs.Numbers.{slope_at, curvature_at}
use Rattle.fit.specs.Fit.{default_left, default_right, solved, card_of, fit}
use Rattle.fit.proofs.Card.{its_card}
use Rattle.fit.proofs.Nought.{Nought, neg_nought, mul_nought, add_nought, units_nought}

abbrev Noughts : Pair → Type 0
Noughts v = Nought v.s × Nought v.c

-- what the elimination leaves of a first knot that is given zeros: P and H are noughts, whatever its gap
pub record Resting (x : State) : Type 0 where
  pub p : Noughts x.p
  pub h11 : Nought x.h.e11
  pub h12 : Nought x.h.e12
  pub h21 : Nought x.h.e21
  pub h22 : Nought x.h.e22

resting : (g : Gap) (last : Bool) → Resting (left_by (landed 0 (Refusal.eliminated (Equations.equations Equations.no_gap g default_left) zero_state true last)))
unfolding add sub mul div neg of_bits ne Equations.equations system Refusal.solved Refusal.eliminated
resting g true = record { p = (refl, refl); h11 = refl; h12 = refl; h21 = refl; h22 = refl }
resting g false = record { p = (refl, refl); h11 = refl; h12 = refl; h21 = refl; h22 = refl }

-- ---- the way back to it, whatever comes from the next knot

none : Noughts zero_pair
unfolding of_bits
none = (refl, refl)

less_nought : (x y z s c : Float) → Nought x → Nought y → Nought z → Nought (x ⊖ (y ⊗ s ⊕ z ⊗ c))
unfolding sub
less_nought x y z s c p h k = add_nought x _ p (neg_nought (y ⊗ s ⊕ z ⊗ c) (add_nought (y ⊗ s) (z ⊗ c) (mul_nought y s h) (mul_nought z c k)))

turned_rests : {x : State} → Resting x → (next : Pair) (j : ℕ) → Noughts (turned backward x next j)
unfolding turned
turned_rests {x} r next j = go (eqb j 0)
  where
    go : (b : Bool) → Noughts (cond b x.p (backward x next))
    go true = r.p
    go false = (less_nought _ _ _ next.s next.c r.p.0 r.h11 r.h12, less_nought _ _ _ next.s next.c r.p.1 r.h21 r.h22)

settled_rests : (finite : Bool) (k : ℕ) (v : Pair) → Noughts v → Noughts (pair_of (settled finite k v))
settled_rests true k v h = h
settled_rests false k v h = none

first_rests : (states : ℕ → State) → Resting (states 0) → (n : ℕ) → Noughts (pair_at backward states n 0)
unfolding back_to
first_rests states r zero = none
first_rests states r (suc j) = rw sub-zero (go (back_to backward states (suc j) j))
  where
    first : suc j - 1 - j ≡ 0
    first = omega arith

    go : (b : Back) → Noughts (pair_of (retreat backward states (suc j) j b))
    go (stopped k) = none
    go (back next) = rw first (settled_rests (both_finite (turned backward (states 0) next j)) 0 _ (turned_rests r next j))

first_of : (f : ℕ → ℤ) → f 0 ≡ pos 0 → (n : ℕ) → get_or (listed f n) 0 (pos 0) ≡ pos 0
first_of f e zero = refl
first_of f e (suc n) = get_d_listed f (pos 0) (suc n) 0 (omega arith) ∙ e

-- ---- of a sheet

module _ (xs : List ℕ) (ys : List ℤ) (right : End) where
  abbrev step : State → ℕ → Option State
  step = knot_at xs ys default_left right

  starts : Resting (state_at step 0)
  unfolding run_to knot_at knot_between end_of left_gap
  starts = resting (right_gap xs ys 0) (is_last (length xs) 0)

  solved_rests : Noughts (get_or (pairs_in (solved xs ys default_left right)) 0 no_pair)
  unfolding solved passes back_from
  solved_rests = go (run_to step (length xs)) (back_to backward (state_at step) (length xs) (length xs))
    where
      pairs : ℕ → Pair
      pairs = pair_at backward (state_at step) (length xs)

      go : (r : Run) (b : Back) → Noughts (get_or (pairs_in (answered r (returned b (listed pairs most)))) 0 no_pair)
      go (stuck i) b = none
      go (going x) (stopped k) = none
      go (going x) (back v) = rw (get_d_listed pairs no_pair most 0 (lit< tt)) (first_rests (state_at step) starts (length xs))

  -- the card's first slope and curvature
  pub card_rests : ((knot (card_of xs ys default_left right) 0).m ≡ pos 0) × ((knot (card_of xs ys default_left right) 0).M ≡ pos 0)
  unfolding card_of knot
  card_rests =
      let pairs = pairs_in (solved xs ys default_left right) in
      (first_of (slope_at pairs) (units_nought _ solved_rests.0) (length xs), first_of (curvature_at pairs) (units_nought _ solved_rests.1) (length xs))

-- of an accepted fit without ends
pub starts_at_rest : (xs : List ℕ) (ys : List ℤ) (ms Ms : ℕ) {c : Card} → fit xs ys ms Ms ≡ given c → ((knot c 0).m ≡ pos 0) × ((knot c 0).M ≡ pos 0)
starts_at_rest xs ys ms Ms e =
    let is = its_card xs ys default_left default_right ms Ms accepted e in
    let r = card_rests xs ys default_right in
    (ap (λ c. (knot c 0).m) is ∙ r.0, ap (λ c. (knot c 0).M) is ∙ r.1)

-- zeros are no numbers that 7 refuses
pub default_never_7 : (n : ℕ) → ends n default_left default_right ≡ accepted
unfolding ends refuse ◌then◌ of_bits lt neg
default_never_7 n = refl
