-- The good bytes and the faults of an accepted log, each counted by its own rule, are together its length, and the good ones at least half of it (document 02, order 4).
-- Assumes nothing.
use Prim.Native.Nat.{ℕ, suc, ◌+◌, ◌*◌, ◌≤◌, ◌<◌}
use mathlib.Core.Path.{◌≡◌, refl}
use mathlib.Core.Bool.{false, cond}
use mathlib.Core.List.{List, [], ◌∷◌}
use native.Mathlib.Omega.{arith}
use lib.Dec.{eqb}
use lib.ListN.{length, get_or}
use borrow.Author.Tests.{le-leb, lt-leb, lt-ltb, eq-eqb, ne_eqb, ltb-false}
use native.Mathlib.Decide.{dec_lt}
use Rattle.answer.specs.Answer.{given}
use Rattle.answer.proofs.Steps.{first_accepts, next_accepts, refuse_accepts, each_accepts}
use Rattle.curve.specs.Log.{Mean, largest_good, fault, good, meaningless, count, faults, readable, half_good, mean}

-- a byte that means something is good, or a fault, and not both
counted_once : (b : ℕ) → b ≤ fault → meaningless b ≡ false → (k f n : ℕ) → k + f ≡ n → cond (good b) (1 + k) k + cond (eqb b fault) (1 + f) f ≡ suc n
counted_once b byte m k f n e = elim (dec_lt largest_good b) [ yes over ↦ is_fault over | no under ↦ is_good (omega arith) ]
  where
    is_good : b ≤ largest_good → cond (good b) (1 + k) k + cond (eqb b fault) (1 + f) f ≡ suc n
    is_good h = rw (le-leb b largest_good h, ne_eqb b fault (omega arith)) (omega (arith, e))

    is_fault : largest_good < b → cond (good b) (1 + k) k + cond (eqb b fault) (1 + f) f ≡ suc n
    is_fault h = let at_least_lem = ltb-false b fault (rw (lt-ltb largest_good b h) at m) in rw (lt-leb b largest_good h, eq-eqb b fault (omega arith)) (omega (arith, e))

-- of bytes that all mean something
pub together : (log : List ℕ) → ((i : ℕ) → get_or log i 0 ≤ fault) → ((i : ℕ) → i < length log → meaningless (get_or log i 0) ≡ false) → count log + faults log ≡ length log
unfolding count faults
together [] bytes m = refl
together (b ∷ log) bytes m =
    counted_once b (bytes 0) (m 0 (omega arith)) (count log) (faults log) (length log) (together log (λ i. bytes (suc i)) (λ i h. m (suc i) (omega arith)))

module _ (first : ℕ) (log : List ℕ) {a : Mean} (accepts : mean first log ≡ given a) where
  pub accepted_together : ((i : ℕ) → get_or log i 0 ≤ fault) → count log + faults log ≡ length log
  unfolding mean readable
  accepted_together bytes =
      let all = first_accepts _ _ (next_accepts _ _ accepts) in
      together log bytes (λ i h. refuse_accepts 12 i _ (each_accepts (readable log) 0 (length log) all i (omega arith) (omega arith)))

  pub half_is_good : length log ≤ 2 * count log
  unfolding mean half_good
  half_is_good = ltb-false _ _ (refuse_accepts 23 0 _ (first_accepts _ _ (next_accepts _ _ (next_accepts _ _ (next_accepts _ _ accepts)))))
