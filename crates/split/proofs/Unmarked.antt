-- Texts of which no byte is marked, and others behind them: what the first marked byte cuts.
-- Assumes nothing.
use Prim.Native.Nat.{ℕ, suc, ◌+◌}
use mathlib.Core.Path.{◌≡◌, refl, ap}
use mathlib.Core.Bool.{Bool, true, false, cond}
use mathlib.Core.List.{List, [], ◌∷◌, ◌++◌}
use native.Mathlib.Omega.{arith}
use lib.ListN.{length}
use Rattle.split.specs.Parts.{marks, stop, onto, split}
use Rattle.split.specs.declared.Mark.{Mark}

pub unmarked_more : (m : Mark) (xs : List ℕ) (x : ℕ) → stop m xs ≡ length xs → marks m x ≡ false → stop m (xs ++ (x ∷ [])) ≡ length (xs ++ (x ∷ []))
unfolding stop
unmarked_more m [] x e f = rw f
unmarked_more m (b ∷ xs) x e f = go (marks m b) e (λ h. unmarked_more m xs x h f)
  where
    go : (t : Bool) → cond t 0 (suc (stop m xs)) ≡ suc (length xs) → (stop m xs ≡ length xs → stop m (xs ++ (x ∷ [])) ≡ length (xs ++ (x ∷ [])))
        → cond t 0 (suc (stop m (xs ++ (x ∷ [])))) ≡ suc (length (xs ++ (x ∷ [])))
    go true e h = absurd (omega arith)
    go false e h = ap suc (h (omega arith))

-- unmarked bytes, and others behind them
pub stop_behind : (m : Mark) (p q : List ℕ) → stop m p ≡ length p → stop m (p ++ q) ≡ length p + stop m q
unfolding stop
stop_behind m [] q e = omega arith
stop_behind m (b ∷ p) q e = go (marks m b) e (stop_behind m p q)
  where
    go : (t : Bool) → cond t 0 (suc (stop m p)) ≡ suc (length p) → (stop m p ≡ length p → stop m (p ++ q) ≡ length p + stop m q)
        → cond t 0 (suc (stop m (p ++ q))) ≡ suc (length p) + stop m q
    go true e f = absurd (omega arith)
    go false e f = omega (arith, f (omega arith))

pub cut : (m : Mark) (p : List ℕ) (b : ℕ) (q : List ℕ) → stop m p ≡ length p → marks m b ≡ true → split m (p ++ (b ∷ q)) ≡ p ∷ split m q
unfolding stop split
cut m [] b q e t = rw t
cut m (a ∷ p) b q e t = go (marks m a) e (λ h. cut m p b q h t)
  where
    go : (u : Bool) → cond u 0 (suc (stop m p)) ≡ suc (length p) → (stop m p ≡ length p → split m (p ++ (b ∷ q)) ≡ p ∷ split m q)
        → cond u ([] ∷ split m (p ++ (b ∷ q))) (onto a (split m (p ++ (b ∷ q)))) ≡ (a ∷ p) ∷ split m q
    go true e f = absurd (omega arith)
    go false e f = rw (f (omega arith))

pub uncut : (m : Mark) (p : List ℕ) → stop m p ≡ length p → split m p ≡ p ∷ []
unfolding stop split
uncut m [] e = refl
uncut m (a ∷ p) e = go (marks m a) e (uncut m p)
  where
    go : (u : Bool) → cond u 0 (suc (stop m p)) ≡ suc (length p) → (stop m p ≡ length p → split m p ≡ p ∷ [])
        → cond u ([] ∷ split m p) (onto a (split m p)) ≡ (a ∷ p) ∷ []
    go true e f = absurd (omega arith)
    go false e f = rw (f (omega arith))
