-- At how many places two lists differ.
-- Assumes nothing.
use Rattle.std.specs.Prelude.{ℕ, suc, ◌+◌, List, [], ◌∷◌, length}
use mathlib.Core.HLevel.{Discrete}
use Rattle.std.proofs.Math.Logic.{ite}

-- of elements that can be told apart; a place that only one of the lists has is one of them
abbrev pub differing : {A : Type 0} → Discrete A → List A → List A → ℕ
differing apart [] m = length m
differing apart (a ∷ l) [] = suc (length l)
differing apart (a ∷ l) (b ∷ m) = ite (apart a b) 0 1 + differing apart l m
