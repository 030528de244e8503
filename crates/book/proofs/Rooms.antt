-- Rooms in rising order, and how a room stands to one that is looked for: below it, the same, or above. Document 02, order 3.
-- Assumes nothing.
use Prim.Native.Nat.{ℕ, suc, ◌+◌, ◌≤◌, ◌<◌}
use mathlib.Core.Path.{◌≡◌, refl, sym, ◌∙◌}
use mathlib.Core.Bool.{Bool, true, false}
use mathlib.Core.List.{List, [], ◌∷◌}
use native.Mathlib.Omega.{arith}
use lib.Dec.{ltb, eqb}
use borrow.Author.Tests.{lt-ltb, le-ltb, eq-eqb, ne_eqb, ltb-true, ltb-false, eqb-true, eqb-false}
use Rattle.answer.specs.Answer.{refused, given, accepted}
use Rattle.answer.proofs.Steps.{first_accepts, next_accepts, both_accept, refuse_accepts, accepts_refuse}
use Rattle.book.specs.Book.{Entry, long, rising}
use Rattle.book.specs.Lookup.{held, before}
use Rattle.book.specs.Steps.{there}

-- ---- rising

-- each room is at least `low`, which is one more than the room before
pub data Rises : ℕ → List Entry → Type 0 where
  nil : {low : ℕ} → Rises low []
  cons : {low : ℕ} {e : Entry} {es : List Entry} → low ≤ e.room → Rises (suc e.room) es → Rises low (e ∷ es)

pub rises : (low at : ℕ) (es : List Entry) → rising low at es ≡ accepted → Rises low es
unfolding rising
rises low at [] h = nil
rises low at (e ∷ es) h = cons (ltb-false _ _ (refuse_accepts 22 at _ (first_accepts _ _ h))) (rises (suc e.room) (at + long e) es (next_accepts _ _ h))

pub rising_accepts : (low at : ℕ) {es : List Entry} → Rises low es → rising low at es ≡ accepted
unfolding rising
rising_accepts low at nil = refl
rising_accepts low at (cons {e = e} h r) = both_accept (accepts_refuse 22 at (le-ltb e.room low h)) (rising_accepts (suc e.room) (at + long e) r)

-- ---- three ways

pub data Tri (a r : ℕ) : Type 0 where
  below : a < r → Tri a r
  same : a ≡ r → Tri a r
  above : r < a → Tri a r

pub tri : (a r : ℕ) → Tri a r
tri a r = go (ltb a r) (eqb a r) refl refl
  where
    go : (x y : Bool) → ltb a r ≡ x → eqb a r ≡ y → Tri a r
    go true y e f = below (ltb-true a r e)
    go false true e f = same (eqb-true a r f)
    go false false e f =
        let n : a ≡ r → ⊥ = eqb-false a r f in
        above (omega (arith, ltb-false a r e))

-- the two tests of each way
pub record Tests (a r : ℕ) (less equal : Bool) : Type 0 where
  pub lt : ltb a r ≡ less
  pub eq : eqb a r ≡ equal

pub is_below : {a r : ℕ} → a < r → Tests a r true false
is_below {a} {r} h = record { lt = lt-ltb a r h; eq = ne_eqb a r (λ e. omega arith) }

pub is_same : {a r : ℕ} → a ≡ r → Tests a r false true
is_same {a} {r} h = record { lt = le-ltb a r (omega arith); eq = eq-eqb a r h }

pub is_above : {a r : ℕ} → r < a → Tests a r false false
is_above {a} {r} h = record { lt = le-ltb a r (omega arith); eq = ne_eqb a r (λ e. omega arith) }

module _ (r : ℕ) (e : Entry) (es : List Entry) where
  module _ (h : e.room < r) where
    pub held_below : held r (e ∷ es) ≡ held r es
    unfolding held
    held_below = rw (is_below h).eq

    pub before_below : before r (e ∷ es) ≡ long e + before r es
    unfolding before
    before_below = rw (is_below h).lt

    pub there_below : there r (e ∷ es) ≡ there r es
    unfolding there
    there_below = rw (is_below h).lt

  module _ (h : e.room ≡ r) where
    pub held_same : held r (e ∷ es) ≡ given e.card
    unfolding held
    held_same = rw (is_same h).eq

    pub before_same : before r (e ∷ es) ≡ 0
    unfolding before
    before_same = rw (is_same h).lt

    pub there_same : there r (e ∷ es) ≡ long e
    unfolding there
    there_same = rw ((is_same h).lt, (is_same h).eq)

  module _ (h : r < e.room) where
    pub held_above : held r (e ∷ es) ≡ held r es
    unfolding held
    held_above = rw (is_above h).eq

    pub before_above : before r (e ∷ es) ≡ 0
    unfolding before
    before_above = rw (is_above h).lt

    pub there_above : there r (e ∷ es) ≡ 0
    unfolding there
    there_above = rw ((is_above h).lt, (is_above h).eq)

-- ---- a room that is not there

pub not_held : {low : ℕ} {es : List Entry} (r : ℕ) → r < low → Rises low es → held r es ≡ refused 20 0
unfolding held
not_held r l nil = refl
not_held r l (cons {e = e} {es = es} h u) = held_above r e es (omega arith) ∙ not_held r (omega arith) u

pub nothing_there : {low : ℕ} {es : List Entry} (r : ℕ) → Rises low es → there r es ≡ 0 → held r es ≡ refused 20 0
unfolding held
nothing_there r nil h = refl
nothing_there r (cons {e = e} {es = es} l u) h = go (tri e.room r) (nothing_there r u)
  where
    go : Tri e.room r → (there r es ≡ 0 → held r es ≡ refused 20 0) → held r (e ∷ es) ≡ refused 20 0
    go (below k) f = held_below r e es k ∙ f (sym (there_below r e es k) ∙ h)
    go (same k) f = absurd (omega (arith, there_same r e es k))
    go (above k) f = held_above r e es k ∙ not_held r (omega arith) u
