-- (2.1) without passing 64 bits: a whole multiple of a is set aside of each unknown, and a whole even number of
-- the level; what is rounded at the end is small, and its tie is the tie of the whole fraction.
-- Assumes nothing.
use mathlib.Core.Path.{◌≡◌, sym, ◌∙◌, ap}
use mathlib.Core.List.{[], ◌∷◌}
use Prim.Native.Nat.{◌*◌, ◌≤◌, ◌<◌}
use native.Mathlib.Nat.{mul-pos}
use native.Mathlib.Omega.{arith}
use lib.IntN.{ℤ, pos, negsuc, nat_abs, ◌+ℤ◌, ◌-ℤ◌, ◌*ℤ◌, +ℤ_comm}
use lib.Signed.{◌≤ℤ◌}
use Rattle.whole.specs.Whole.{◌·◌, nearest}
use Rattle.whole.proofs.Order.{linear}
use Rattle.whole.proofs.Solve.{◌:+◌, ◌:-◌, ◌:*◌, #, ring, v0, v1, v2, v3, v4}
use Rattle.whole.proofs.Linear as Linear
use Rattle.whole.proofs.Rounding.{nearest_is, nearest_even_more}
use Rattle.curve.specs.Formula.{power, worth}
use Rattle.curve.proofs.Written.{worth_e}
use Rattle.cubic.specs.Cubic.{cubic, largest}
use Rattle.cubic.proofs.Smooth.{piece}
use Rattle.preheat.specs.Preheat.{weight, line, bent, most_cube, InBend}

pub some : {a : ℤ} → pos 1 ≤ℤ a → 0 < nat_abs a
some {a = pos n} h = omega linear
some {a = negsuc n} h = absurd h.le

pub bent_size : {x w w' z z' : ℤ} → InBend x w w' z z' → nat_abs (bent x w w' z z') ≤ 5 * largest * most_cube
bent_size {x} {w} {w'} {z} {z'} p =
    omega (
      arith,
      Linear.bounded {xs = x ∷ w ∷ w' ∷ z ∷ z' ∷ []} {bs = largest * most_cube ∷ 2 * most_cube ∷ 2 * most_cube ∷ largest ∷ largest ∷ []}
          (let q = p.weights in record { each = (p.x_in, (q.w_in, (q.w'_in, (q.z_in, (q.z'_in, tt))))) }) (v0 :- v1 :* v3 :- v2 :* v4),
    )

-- ---- an unknown by a

pub unknown_left : (z : ℤ) {a : ℤ} → pos 1 ≤ℤ a → nat_abs (z -ℤ a *ℤ nearest z (nat_abs a)) ≤ nat_abs a
unknown_left z {a = pos n} h = omega (arith, (nearest_is z n (some h)).half)
unknown_left z {a = negsuc n} h = absurd h.le

-- (2.1), and then with what is left of the unknowns
pub cubic_is : (a q r y y' z z' : ℤ) → bent (a *ℤ line q r y y') (weight q (q -ℤ r)) (weight q r) z z' ≡ worth (piece a q y y' z z') r
unfolding worth cubic power
cubic_is a q r y y' z z' = ring (a ∷ q ∷ r ∷ y ∷ y' ∷ z ∷ z' ∷ [])
    (λ a q r y y' z z'. (
      a :* (q :* q :* (y :* (q :- r) :+ y' :* r)) :- (q :* q :* (q :- r) :- (q :- r) :* (q :- r) :* (q :- r)) :* z :- (q :* q :* r :- r :* r :* r) :* z',
      worth_e (piece a q y y' z z') r,
    )) tt

pub without : (a l w w' z z' f f' : ℤ) → bent (a *ℤ bent l w w' f f') w w' (z -ℤ a *ℤ f) (z' -ℤ a *ℤ f') ≡ bent (a *ℤ l) w w' z z'
without a l w w' z z' f f' = ring (a ∷ l ∷ w ∷ w' ∷ z ∷ z' ∷ f ∷ f' ∷ [])
    (λ a l w w' z z' f f'. (
      a :* (l :- w :* f :- w' :* f') :- w :* (z :- a :* f) :- w' :* (z' :- a :* f'),
      a :* l :- w :* z :- w' :* z',
    )) tt

-- ---- the level by twice the cube

abbrev pub half : (cube level : ℤ) → ℤ
half cube level = nearest level (nat_abs (2 · cube))

pub level_left : (level : ℤ) {cube : ℤ} → pos 1 ≤ℤ cube → nat_abs (level -ℤ 2 · cube *ℤ half cube level) ≤ nat_abs cube
level_left level {cube = pos n} h = omega (arith, (nearest_is level (2 * n) (omega (arith, some h))).half)
level_left level {cube = negsuc n} h = absurd h.le

pub settles : (w w' z z' level : ℤ) {a cube : ℤ} → pos 1 ≤ℤ a → pos 1 ≤ℤ cube →
    2 · half cube level +ℤ nearest (bent (a *ℤ (level -ℤ 2 · cube *ℤ half cube level)) w w' z z') (nat_abs (a *ℤ cube))
    ≡ nearest (bent (a *ℤ level) w w' z z') (nat_abs (a *ℤ cube))
settles w w' z z' level {a = pos n} {cube = pos m} g h =
    +ℤ_comm (2 · b) (nearest rest (n * m))
    ∙ sym (nearest_even_more rest (n * m) b (mul-pos (some g) (some h)))
    ∙ ap (λ x. nearest x (n * m)) whole
  where
    b : ℤ
    b = half (pos m) level

    rest : ℤ
    rest = bent (pos n *ℤ (level -ℤ 2 · pos m *ℤ half (pos m) level)) w w' z z'

    whole : rest +ℤ 2 · b *ℤ pos (n * m) ≡ bent (pos n *ℤ level) w w' z z'
    whole = ring (pos n ∷ pos m ∷ level ∷ b ∷ w ∷ w' ∷ z ∷ z' ∷ [])
        (λ a c l b w w' z z'. (a :* (l :- # 2 :* c :* b) :- w :* z :- w' :* z' :+ # 2 :* b :* (a :* c), a :* l :- w :* z :- w' :* z')) tt
settles w w' z z' level {a = pos n} {cube = negsuc m} g h = absurd h.le
settles w w' z z' level {a = negsuc n} {cube} g h = absurd g.le

-- ---- what is said of numbers is said of results that are equal to them

pub moved₄ : {x x' y y' z z' t t' : ℤ} (P : ℤ → ℤ → ℤ → ℤ → Type 0) → x ≡ x' → y ≡ y' → z ≡ z' → t ≡ t' → P x' y' z' t' → P x y z t
moved₄ P p q r s h = rw (p, q, r, s) h

pub moved₅ : {u u' x x' y y' z z' t t' : ℤ} (P : ℤ → ℤ → ℤ → ℤ → ℤ → Type 0) → u ≡ u' → x ≡ x' → y ≡ y' → z ≡ z' → t ≡ t' → P u' x' y' z' t' → P u x y z t
moved₅ P o p q r s h = rw o (moved₄ (P _) p q r s h)
