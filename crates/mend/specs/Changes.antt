-- The changes that mending makes, and how they are undone: document 02, order 1.
-- Assumes nothing.
use Rattle.std.specs.Prelude.{ℕ, zero, suc, cond, List, [], ◌∷◌, ◌++◌, ℤ, pos, length, get_or, set}
use Rattle.holes.specs.Hole.{hole_at}
use Rattle.mend.specs.declared.Change.{Change}

-- of a sheet, and of the same sheet mended
module _ (ys zs : List ℤ) where
  -- "each with its place, old number and new number"
  unfoldable pub change_at : ℕ → Change
  change_at i = record { place = i; old = get_or ys i (pos 0); new = get_or zs i (pos 0) }

  -- "Each changed place": the holes among the first i knots, "in rising order"
  unfoldable pub changes_to : ℕ → List Change
  changes_to zero = []
  changes_to (suc i) = changes_to i ++ cond (hole_at ys i) (change_at i ∷ []) []

  unfoldable pub changes : List Change
  changes = changes_to (length ys)

-- "Putting the old numbers back from the list"
unfoldable pub restored : List Change → List ℤ → List ℤ
restored [] ys = ys
restored (c ∷ cs) ys = restored cs (set ys c.place c.old)
