-- Number 8 over the two passes, by computation, with steps and turns made for it: "8 forward then back", and "8 stands where it is first met". Assumes nothing.
use Prim.Native.Nat.{ℕ}
use mathlib.Core.Path.{◌≡◌, refl}
use mathlib.Core.Bool.{true, cond}
use mathlib.Core.List.{[], ◌∷◌, map}
use lib.Dec.{eqb}
use lib.Ieee.{nan, inf, of_bits}
use lib.ListN.{get_or}
use Rattle.rows.specs.declared.Pair.{Pair}
use Rattle.elimination.specs.declared.State.{State}
use Rattle.std.specs.Prelude.{Option, Some, None}
use Rattle.answer.specs.Answer.{number, place}
use Rattle.answer.specs.Judge.{number_of}
use Rattle.answer.specs.declared.Reason.TheVariants.{Stuck}
use Rattle.rows.specs.Floats.{f0, f1}
use Rattle.rows.specs.Equations.{pair, zeros}
use Rattle.elimination.specs.Elimination.{zero_pair}
use Rattle.elimination.specs.Refusal.{number_of_step}
use Rattle.passes.specs.Forward.{run_to}
use Rattle.passes.specs.Back.{turned, back_to}
use Rattle.passes.specs.Passes.{Solved, pairs_in, verdict_in, back_from, passes}

-- every knot is left with the pair (1, 0)
abbrev goes : State → ℕ → Option State
goes before i = Some (record { h = zeros; p = pair f1 f0 })

-- every knot but this one
abbrev stuck_at : ℕ → State → ℕ → Option State
stuck_at k before i = cond (eqb i k) None (goes before i)

-- with a curvature that is infinite at this knot
abbrev infinite_at : ℕ → State → ℕ → Option State
infinite_at k before i = cond (eqb i k) (Some (record { h = zeros; p = pair f1 (inf true) })) (goes before i)

-- P itself; no number
abbrev keeps : State → Pair → Pair
keeps x next = x.p

abbrev breaks : State → Pair → Pair
breaks x next = pair nan f0

abbrev told : Solved → ℕ × ℕ × Pair
told r = (number (verdict_in r), place (verdict_in r), get_or (pairs_in r) 0 (pair nan nan))

-- a knot that is stuck meets the number of its reason
pub is_eight : number_of Stuck ≡ number_of_step None
is_eight = refl

-- ---- three knots

pub eight_forward : told (passes (stuck_at 1) keeps 3) ≡ (8, 1, zero_pair)
unfolding number place of_bits run_to turned back_to back_from passes
eight_forward = refl

-- on the way back: at the last knot; before it, where the first knot would meet it too; at the first
pub eight_back : map told (passes (infinite_at 2) keeps 3 ∷ passes goes breaks 3 ∷ passes (infinite_at 0) keeps 3 ∷ []) ≡ (8, 2, zero_pair) ∷ (8, 1, zero_pair) ∷ (8, 0, zero_pair) ∷ []
unfolding number place of_bits run_to turned back_to back_from passes
eight_back = refl

-- forward at knot 2, though the way back would meet it at 1
pub forward_first : told (passes (stuck_at 2) breaks 3) ≡ (8, 2, zero_pair)
unfolding number place of_bits run_to turned back_to back_from passes
forward_first = refl

pub not_met : told (passes goes keeps 3) ≡ (0, 0, pair f1 f0)
unfolding number place of_bits run_to turned back_to back_from passes
not_met = refl
