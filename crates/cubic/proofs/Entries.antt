-- Table 1's entries rise, and follow their rule in whole numbers too.
-- Assumes nothing.
use Prim.Native.Nat.{ℕ, zero, suc, ◌+◌, ◌*◌, ◌<◌}
use mathlib.Core.Path.{◌≡◌, refl}
use mathlib.Core.List.{[], ◌∷◌}
use native.Mathlib.Omega.{arith}
use lib.IntN.{ℤ, pos, ◌-ℤ◌}
use lib.Signed.{◌<ℤ◌}
use Rattle.whole.specs.Whole.{◌·◌}
use Rattle.whole.proofs.Order.{ℕ_lt}
use Rattle.whole.proofs.Solve.{◌:-◌, ◌:*◌, #}
use Rattle.whole.proofs.Linear.{prove≡}
use Rattle.cubic.specs.Cubic.{a}

-- the entry before place k; before the first stands 0
unfoldable pub before : ℕ → ℕ
before zero = 0
before (suc k) = a k

pub record Entered (k : ℕ) : Type 0 where
  pub rises : before k < a k
  pub rule : a (suc k) + before k ≡ 4 * a k

pub entered : (k : ℕ) → Entered k
unfolding a before
entered zero = record { rises = omega arith; rule = refl }
entered (suc k) = on (entered k)
  where
    grown : Entered k → a k < a (suc k)
    grown e = omega (arith, e.rises, e.rule)

    on : Entered k → Entered (suc k)
    on e = record { rises = grown e; rule = omega (arith, grown e) }

pub next : (k : ℕ) → pos (a (suc k)) ≡ 4 · pos (a k) -ℤ pos (before k)
next k = prove≡ (pos (a (suc k)) ∷ pos (a k) ∷ pos (before k) ∷ []) (λ z x b. (z, # 4 :* x :- b)) (omega (arith, (entered k).rule))

pub before_suc : (k : ℕ) → before (suc k) ≡ a k
unfolding before
before_suc k = refl

pub positive : (k : ℕ) → 0 < a k
positive k = omega (arith, (entered k).rises)

pub positive_ℤ : (k : ℕ) → pos 0 <ℤ pos (a k)
positive_ℤ k = ℕ_lt (omega (arith, positive k))
