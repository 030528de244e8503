-- The way back, over the states that the forward pass left and whatever is done at a knot: point 3 of document 01's "The
-- elimination", from the last knot to the first, or to the one where 8 is met. Assumes nothing.
use Rattle.std.specs.Prelude.{ℕ, zero, suc, ◌-◌, Bool, cond, eqb}
use Rattle.std.specs.Float.{nan}
use Rattle.rows.specs.declared.Pair.{Pair}
use Rattle.elimination.specs.declared.State.{State}
use Rattle.rows.specs.Equations.{pair}
use Rattle.elimination.specs.Elimination.{zero_pair}
use Rattle.elimination.specs.Refusal.{both_finite}

-- how far the way back has come: with the pair of the next knot, or stopped at a knot
pub data Back : Type 0 where
  back : Pair → Back
  stopped : ℕ → Back

abbrev pub pair_of : Back → Pair
pair_of (back v) = v
pair_of (stopped k) = zero_pair

-- the last knot's pair is P; for others it is P − H·(next pair): `turn`. There are j knots behind this one
unfoldable pub turned : (State → Pair → Pair) → State → Pair → ℕ → Pair
turned turn x next j = cond (eqb j 0) x.p (turn x next)

abbrev pub settled : Bool → ℕ → Pair → Back
settled finite k v = cond finite (back v) (stopped k)

abbrev pub tried : ℕ → Pair → Back
tried k v = settled (both_finite v) k v

module _ (turn : State → Pair → Pair) (states : ℕ → State) (n : ℕ) where
  abbrev pub retreat : ℕ → Back → Back
  retreat j (back next) = tried (n - 1 - j) (turned turn (states (n - 1 - j)) next j)
  retreat j (stopped k) = stopped k

  -- after the last j of the n knots
  unfoldable pub back_to : ℕ → Back
  back_to zero = back zero_pair
  back_to (suc j) = retreat j (back_to j)

  -- the pair of knot k, zeros behind the last knot
  abbrev pub pair_at : ℕ → Pair
  pair_at k = pair_of (back_to (n - k))

-- what the logic takes a read past the end of an array of pairs to give
abbrev pub no_pair : Pair
no_pair = pair nan nan
