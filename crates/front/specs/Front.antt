-- The list of a function's first values, and that list over the front of another.
-- Assumes nothing.
use Rattle.std.specs.Prelude.{ℕ, zero, suc, List, [], ◌∷◌, ◌++◌, drop, get_or}

module _ {A : Type 0} where
  -- f 0 to f (n − 1)
  abbrev pub listed : (ℕ → A) → ℕ → List A
  listed f zero = []
  listed f (suc n) = listed f n ++ (f n ∷ [])

  -- with what a list has behind its first n places
  abbrev pub over : (ℕ → A) → ℕ → List A → List A
  over f n l = listed f n ++ drop n l

  -- the elements of a list, by their places
  abbrev pub from : A → List A → ℕ → A
  from d l i = get_or l i d
