-- The unknowns meet every continuity equation exactly, and no other numbers do, whatever they are over.
-- The one idea: a row of document 001's (3.3), cleared of its fractions by (3.9), holds at every place. At the
-- last it says that the unknown there is zero; from the last backward it says that equations with nothing on
-- the right have no solution but zeros.
-- Assumes nothing.
use Prim.Native.Nat.{ℕ, zero, suc, ◌+◌, ◌-◌, ◌≤◌, ◌<◌}
use mathlib.Core.Path.{◌≡◌, refl, sym, ◌∙◌, ap, ap₂, subst}
use mathlib.Core.List.{List, [], ◌∷◌}
use native.Mathlib.Omega.{arith}
use lib.IntN.{ℤ, pos, ◌+ℤ◌, ◌-ℤ◌, ◌*ℤ◌}
use lib.ListN.{length}
use Rattle.whole.specs.Whole.{◌·◌}
use Rattle.whole.proofs.Ring.{same_of_sub}
use Rattle.whole.proofs.Order.{*ℤ_cancel}
use Rattle.whole.proofs.Solve.{◌:+◌, ◌:-◌, ◌:*◌, #, ring}
use Rattle.whole.proofs.Linear.{know≡, prove≡}
use Rattle.cubic.specs.Cubic.{a, scale, δ², sum, unknown, Continuous}
use Rattle.cubic.proofs.Entries.{before, next, positive_ℤ}

-- ---- a row, place by place

-- with d for the scale, x for an entry and b for the one before, c for a second difference
down : (b x d c s z z' : ℤ) → x *ℤ z +ℤ (4 · x -ℤ b) *ℤ z' ≡ d *ℤ (x *ℤ c -ℤ s) → b *ℤ z' +ℤ x *ℤ (d *ℤ c -ℤ 4 · z' -ℤ z) ≡ d *ℤ s
down b x d c s z z' h = prove≡ (b ∷ x ∷ d ∷ c ∷ s ∷ z ∷ z' ∷ []) (λ b x d c s z z'. (b :* z' :+ x :* (d :* c :- # 4 :* z' :- z), d :* s))
    (omega (arith, know≡ (b ∷ x ∷ d ∷ c ∷ s ∷ z ∷ z' ∷ []) (λ b x d c s z z'. (x :* z :+ (# 4 :* x :- b) :* z', d :* (x :* c :- s))) h))

-- k inner values lie after place i + 1
pub row : (ys : List ℤ) (i k : ℕ) → i + k + 2 ≡ length ys → before k · unknown ys i +ℤ a k · unknown ys (suc i) ≡ scale ys · sum ys i k
unfolding scale unknown sum before
row ys zero k e =
    subst (λ (m : ℕ). before k · pos 0 +ℤ a k · sum ys 0 m ≡ a m · sum ys 0 k) at_first
    (ring (pos (before k) ∷ pos (a k) ∷ sum ys 0 k ∷ []) (λ b x s. (b :* # 0 :+ x :* s, x :* s)) tt)
  where
    at_first : k ≡ length ys - 2
    at_first = omega arith
row ys (suc i) k e =
    down (pos (before k)) (pos (a k)) (pos (scale ys)) (δ² ys i) (sum ys (suc i) k) (unknown ys i) (unknown ys (suc i))
    (rw (← next k) (row ys i (suc k) (omega arith)))

pub last_zero : (ys : List ℤ) (i : ℕ) → i + 2 ≡ length ys → unknown ys (suc i) ≡ pos 0
unfolding a before sum
last_zero ys i e = prove≡ (unknown ys (suc i) ∷ []) (λ z. (z, # 0))
    (omega (arith, know≡ (unknown ys i ∷ unknown ys (suc i) ∷ pos (scale ys) ∷ []) (λ z z' d. (# 0 :* z :+ # 1 :* z', d :* # 0)) (row ys i 0 (omega arith))))

-- ---- they meet every equation

pub continuous : (ys : List ℤ) → 2 ≤ length ys → Continuous ys (scale ys) (unknown ys)
unfolding unknown
continuous ys h = record {
  first = refl;
  inner = λ i k. ring (unknown ys i ∷ unknown ys (suc i) ∷ pos (scale ys) ∷ δ² ys i ∷ []) (λ z z' d c. (z :+ # 4 :* z' :+ (d :* c :- # 4 :* z' :- z), d :* c)) tt;
  last = subst (λ (m : ℕ). unknown ys m ≡ pos 0) one_more (last_zero ys (length ys - 2) (omega arith));
}
  where
    one_more : suc (length ys - 2) ≡ length ys - 1
    one_more = omega arith

-- ---- no others do

-- the row of the place before, for numbers that meet the equations with nothing on the right
up_row : (b x z z' z'' : ℤ) → b *ℤ z' +ℤ x *ℤ z'' ≡ pos 0 → z +ℤ 4 · z' +ℤ z'' ≡ pos 0 → x *ℤ z +ℤ (4 · x -ℤ b) *ℤ z' ≡ pos 0
up_row b x z z' z'' h e =
    ring (b ∷ x ∷ z ∷ z' ∷ z'' ∷ []) (λ b x z z' z''. (x :* z :+ (# 4 :* x :- b) :* z', x :* (z :+ # 4 :* z' :+ z'') :- (b :* z' :+ x :* z''))) tt
    ∙ ap₂ (λ (u v : ℤ). x *ℤ u -ℤ v) e h
    ∙ ring (x ∷ []) (λ x. (x :* # 0 :- # 0, # 0)) tt

-- nothing on the right: over 0
module _ (ys : List ℤ) (v : ℕ → ℤ) (c : Continuous ys 0 v) where
  equal : (i : ℕ) → i + 2 < length ys → v i +ℤ 4 · v (suc i) +ℤ v (suc (suc i)) ≡ pos 0
  equal i h = c.inner i h ∙ ring (δ² ys i ∷ []) (λ d. (# 0 :* d, # 0)) tt

  stop : (i : ℕ) → i + 2 ≡ length ys → v (suc i) ≡ pos 0
  stop i e = let one_less : length ys - 1 ≡ suc i = omega arith in subst (λ m. v m ≡ pos 0) one_less c.last

  rows : (k i : ℕ) → i + k + 2 ≡ length ys → before k · v i +ℤ a k · v (suc i) ≡ pos 0
  unfolding before a
  rows zero i e = ap (λ (z : ℤ). 0 · v i +ℤ 1 · z) (stop i (omega arith)) ∙ ring (v i ∷ []) (λ z. (# 0 :* z :+ # 1 :* # 0, # 0)) tt
  rows (suc k) i e =
      ap (λ (w : ℤ). a k · v i +ℤ w *ℤ v (suc i)) (next k)
      ∙ up_row (pos (before k)) (pos (a k)) (v i) (v (suc i)) (v (suc (suc i))) (rows k (suc i) (omega arith)) (equal i (omega arith))

  zeros : (i : ℕ) → i < length ys → v i ≡ pos 0
  zeros zero h = c.first
  zeros (suc i) h =
      *ℤ_cancel {k = pos (a (length ys - 2 - i))} (positive_ℤ (length ys - 2 - i))
      (sym (clear (length ys - 2 - i) (zeros i (omega arith))) ∙ rows (length ys - 2 - i) i (omega arith) ∙ ring (pos (a (length ys - 2 - i)) ∷ []) (λ x. (# 0, x :* # 0)) tt)
    where
      clear : (k : ℕ) → v i ≡ pos 0 → before k · v i +ℤ a k · v (suc i) ≡ a k · v (suc i)
      clear k e =
          ap (λ (z : ℤ). before k · z +ℤ a k · v (suc i)) e
          ∙ ring (pos (before k) ∷ pos (a k) ∷ v (suc i) ∷ []) (λ b x z. (b :* # 0 :+ x :* z, x :* z)) tt

-- numbers over any d, so fractions too
pub only : (ys : List ℤ) (d : ℕ) (u : ℕ → ℤ) → Continuous ys d u → 2 ≤ length ys → (i : ℕ) → i < length ys → scale ys · u i ≡ d · unknown ys i
only ys d u c h i k = same_of_sub (zeros ys apart (record { first = nothing c.first z.first; inner = equal; last = nothing c.last z.last }) i k)
  where
    z : Continuous ys (scale ys) (unknown ys)
    z = continuous ys h

    s : ℤ
    s = pos (scale ys)

    apart : ℕ → ℤ
    apart i = scale ys · u i -ℤ d · unknown ys i

    nothing : {x y : ℤ} → x ≡ pos 0 → y ≡ pos 0 → scale ys · x -ℤ d · y ≡ pos 0
    nothing e f = ap₂ (λ (x y : ℤ). scale ys · x -ℤ d · y) e f ∙ ring (s ∷ pos d ∷ []) (λ s d. (s :* # 0 :- d :* # 0, # 0)) tt

    equal : (i : ℕ) → i + 2 < length ys → apart i +ℤ 4 · apart (suc i) +ℤ apart (suc (suc i)) ≡ 0 · δ² ys i
    equal i h =
        ring (s ∷ pos d ∷ u i ∷ u (suc i) ∷ u (suc (suc i)) ∷ unknown ys i ∷ unknown ys (suc i) ∷ unknown ys (suc (suc i)) ∷ [])
        (λ s d a b c x y z. ((s :* a :- d :* x) :+ # 4 :* (s :* b :- d :* y) :+ (s :* c :- d :* z), s :* (a :+ # 4 :* b :+ c) :- d :* (x :+ # 4 :* y :+ z))) tt
        ∙ ap₂ (λ (x y : ℤ). scale ys · x -ℤ d · y) (c.inner i h) (z.inner i h)
        ∙ ring (s ∷ pos d ∷ δ² ys i ∷ []) (λ s d c. (s :* (d :* c) :- d :* (s :* c), # 0 :* c)) tt

-- in whole numbers over the scale there is one answer
pub unique : (ys : List ℤ) (u : ℕ → ℤ) → Continuous ys (scale ys) u → 2 ≤ length ys → (i : ℕ) → i < length ys → u i ≡ unknown ys i
unfolding scale
unique ys u c h i k = *ℤ_cancel {k = pos (scale ys)} (positive_ℤ (length ys - 2)) (only ys (scale ys) u c h i k)
