-- Runs of stores, as the writers of numbers leave them: two runs joined, and what stands where a run was written.
-- Assumes nothing.
use Prim.Native.Nat.{ℕ, suc, ◌+◌, ◌≤◌}
use mathlib.Core.Path.{◌≡◌, ◌∙◌, ap}
use mathlib.Core.List.{List, [], ◌∷◌, ◌++◌, append_assoc}
use native.Mathlib.Nat.{suc-add, add-suc, add-zero}
use native.Mathlib.Omega.{arith}
use lib.ListN.{length, take, drop, set}
use lib.Seq.{sets, sets-eq, drop_at, length-take-le}

sets_append : (d : List ℕ) (i : ℕ) (vs ws : List ℕ) → sets (sets d i vs) (i + length vs) ws ≡ sets d i (vs ++ ws)
sets_append d i [] ws = rw add-zero
sets_append d i (v ∷ vs) ws = rw (add-suc, ← suc-add) (sets_append (set d i v) (suc i) vs ws)

-- a run of stores vs at i, and then ws right behind it
pub then : (d : List ℕ) (i : ℕ) (vs ws : List ℕ) (n : ℕ) {l m : List ℕ}
    → length vs ≡ n → l ≡ sets d i vs → m ≡ sets l (i + n) ws → m ≡ sets d i (vs ++ ws)
then d i vs ws n e p q = q ∙ rw (p, ← e) (sets_append d i vs ws)

-- at offset 0 it says what the front of a buffer is
pub drop_sets : (d : List ℕ) (at : ℕ) (vs : List ℕ) (next : ℕ)
    → at + length vs ≡ next → next ≤ length d → drop at (sets d at vs) ≡ vs ++ drop next d
drop_sets d at vs next e h =
    let l : length (take at d) ≡ at = length-take-le at d (omega arith) in
    ap (drop at) (sets-eq vs d at (omega arith) ∙ append_assoc (take at d) vs (drop (at + length vs) d))
    ∙ drop_at (take at d) (vs ++ drop (at + length vs) d) at l
    ∙ ap (λ (i : ℕ). vs ++ drop i d) e
