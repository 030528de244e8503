-- What the list of changes holds after mending: "Each changed place goes into a lent list of changes, each
-- with its place, old number and new number, in rising order, their count is returned" (document 02, order
-- 1). Assumes nothing.
use Rattle.std.specs.Prelude.{ℕ, ◌≤◌, ◌<◌, ◌≡◌, true, List, ℤ, pos, length, get_or}
use Rattle.holes.specs.Hole.{hole, hole_at, holes}
use Rattle.mend.specs.declared.Change.{Change}
use Rattle.mend.specs.Promise.{no_change}

-- the change at a place of the list
abbrev pub change : List Change → ℕ → Change
change list k = get_or list k no_change

-- one of the first n places of a list, where knot j stands
pub record ListedAt (n : ℕ) (list : List Change) (j : ℕ) : Type 0 where
  pub at : ℕ
  pub within : at < n
  pub is : (change list at).place ≡ j

-- of a sheet, and of the same sheet mended
module _ (ys zs : List ℤ) where
  -- a change of a hole
  pub record OfAHole (c : Change) : Type 0 where
    pub inside : c.place < length ys
    pub was_hole : hole_at ys c.place ≡ true
    pub old_is : c.old ≡ hole
    pub new_is : c.new ≡ get_or zs c.place (pos 0)

  -- the first n places of a list have the changes of all holes, and no other
  pub record ListsTheHoles (n : ℕ) (list : List Change) : Type 0 where
    pub counted : n ≡ holes ys
    pub room : n ≤ length list
    pub only_holes : (k : ℕ) → k < n → OfAHole (change list k)
    pub every_hole : (j : ℕ) → j < length ys → hole_at ys j ≡ true → ListedAt n list j
    pub rising : (a b : ℕ) → a < b → b < n → (change list a).place < (change list b).place
