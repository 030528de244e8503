-- Table 1 as the code has it: each entry is four times the last less the one before, by one computed test over
-- the whole table; so it has the definition's entries, and none is larger than the last.
-- Assumes nothing.
use Prim.Native.Nat.{ℕ, zero, suc, ◌+◌, ◌-◌, ◌*◌, ◌≤◌, ◌<◌}
use mathlib.Core.Path.{◌≡◌, refl, sym, ◌∙◌, ap, ap₂, subst}
use mathlib.Core.Bool.{Bool, true, ◌&&◌}
use mathlib.Core.List.{List, [], ◌∷◌, map}
use native.Mathlib.Nat.{add-zero, zero-add, add-suc, suc-add, le_refl, le_of_suc-le-suc, not-suc-le-zero}
use native.Mathlib.Omega.{arith}
use lib.Dec.{T, eqb, eqb→eq}
use lib.IntN.{ℤ, pos}
use lib.ListN.{length, get_or}
use Rattle.whole.proofs.Solve.{both_l, both_r}
use Rattle.cubic.specs.Cubic.{most_values, a, largest}
use Rattle.cubic.proofs.Entries.{before, entered}

abbrev pub entries : List ℕ
entries =
    1 ∷ 4 ∷ 15 ∷ 56 ∷ 209 ∷ 780 ∷ 2_911 ∷ 10_864 ∷ 40_545 ∷ 151_316 ∷ 564_719 ∷ 2_107_560 ∷ 7_865_521
    ∷ 29_354_524 ∷ 109_552_575 ∷ 408_855_776 ∷ 1_525_870_529 ∷ 5_694_626_340 ∷ 21_252_634_831 ∷ []

-- the rule, at the entry behind x and y and at all behind it
abbrev ruled : ℕ → ℕ → List ℕ → Bool
ruled x y [] = true
ruled x y (z ∷ zs) = eqb z (4 * y - x) && ruled y z zs

from : (zs : List ℕ) (k x y : ℕ) → x ≡ a k → y ≡ a (suc k) → T (ruled x y zs) → (i : ℕ) → i < length (x ∷ y ∷ zs) → get_or (x ∷ y ∷ zs) i 0 ≡ a (k + i)
unfolding a
from zs k x y p q t zero h = p ∙ ap a (sym (add-zero k))
from [] k x y p q t (suc zero) h = q ∙ ap a (sym (add-suc k 0 ∙ ap suc (add-zero k)))
from [] k x y p q t (suc (suc i)) h = absurd (not-suc-le-zero (le_of_suc-le-suc (le_of_suc-le-suc h)))
from (z ∷ zs) k x y p q t (suc i) h =
    from zs (suc k) y z q
    (eqb→eq z (4 * y - x) (both_l (eqb z (4 * y - x)) (ruled y z zs) t) ∙ ap₂ (λ y x. 4 * y - x) q p)
    (both_r (eqb z (4 * y - x)) (ruled y z zs) t) i (le_of_suc-le-suc h)
    ∙ ap a (suc-add k i ∙ sym (add-suc k i))

abbrev behind : List ℕ → List ℕ
behind [] = []
behind (x ∷ xs) = xs

-- the whole table by one test
pub rule : (k : ℕ) → k < length entries → get_or entries k 0 ≡ a k
unfolding a
rule k h = from (behind (behind entries)) 0 1 4 refl refl tt k h ∙ ap a (zero-add k)

pub as_held : (ns : List ℕ) (k : ℕ) → get_or (map pos ns) k (pos 0) ≡ pos (get_or ns k 0)
as_held [] k = refl
as_held (n ∷ ns) zero = refl
as_held (n ∷ ns) (suc k) = as_held ns k

-- ---- none is larger than the last

rising : (k j : ℕ) → a k ≤ a (j + k)
unfolding before
rising k zero = rw (zero-add k) (le_refl (a k))
rising k (suc j) = rw (suc-add j k) (omega (arith, rising k j, (entered (suc (j + k))).rises))

pub entry_most : (k : ℕ) → k + 2 ≤ most_values → a k ≤ largest
entry_most k h = subst (λ m. a k ≤ m) (ap a at_last ∙ sym (rule (most_values - 2) (omega arith))) (rising k (most_values - 2 - k))
  where
    at_last : most_values - 2 - k + k ≡ most_values - 2
    at_last = omega arith
