-- Rooms of which one is taken out: put in again it stands where it stood, and where that is. Document 02, order 11.
-- Assumes nothing.
use Prim.Native.Nat.{ℕ, suc, ◌+◌, ◌<◌}
use mathlib.Core.Path.{◌≡◌, refl, ap, sym, ◌∙◌}
use mathlib.Core.Logic.{◌≢◌}
use mathlib.Core.Bool.{Bool, true, false, cond}
use mathlib.Core.List.{List, [], ◌∷◌}
use native.Mathlib.Omega.{arith}
use lib.Dec.{eqb}
use lib.ListN.{length}
use borrow.Author.Tests.{eq-eqb, ne_eqb}
use Rattle.answer.specs.Answer.{refused, given}
use Rattle.answer.proofs.Steps.{not_both, given_same}
use Rattle.book.specs.Book.{Entry, long, size}
use Rattle.book.specs.Lookup.{held, before}
use Rattle.book.specs.Steps.{there}
use Rattle.book.proofs.Rooms.{Rises, nil, cons, Tri, below, same, above, tri, held_below, held_same, before_below, before_same, before_above, there_below, there_above, not_held}
use Rattle.book_put.specs.Put.{entry, put_in}
use Rattle.book_put.proofs.Placing.{put_below, put_above, size_put}
use Rattle.book_remove.specs.Remove.{without}

module _ (r : ℕ) (e : Entry) (es : List Entry) where
  pub out_same : e.room ≡ r → without r (e ∷ es) ≡ without r es
  unfolding without
  out_same h = rw (eq-eqb e.room r h)

  pub out_other : e.room ≢ r → without r (e ∷ es) ≡ e ∷ without r es
  unfolding without
  out_other h = rw (ne_eqb e.room r h)

-- without a room that is not there
pub absent_out : (r : ℕ) (es : List Entry) → held r es ≡ refused 20 0 → without r es ≡ es
unfolding without held
absent_out r [] h = refl
absent_out r (e ∷ es) h = go (eqb e.room r) h (absent_out r es)
  where
    go : (b : Bool) → cond b (given e.card) (held r es) ≡ refused 20 0 → (held r es ≡ refused 20 0 → without r es ≡ es)
        → cond b (without r es) (e ∷ without r es) ≡ e ∷ es
    go true h f = absurd (not_both (sym h))
    go false h f = ap (λ ds. e ∷ ds) (f h)

-- a room that is below all of them
module _ {low : ℕ} (r : ℕ) (l : r < low) where
  pub first_out : {es : List Entry} → Rises low es → without r es ≡ es
  first_out {es} u = absent_out r es (not_held r l u)

  pub first_place : {es : List Entry} → Rises low es → (before r es ≡ 0) × (there r es ≡ 0)
  unfolding before there
  first_place nil = (refl, refl)
  first_place (cons {e = e} {es = es} h u) = let k : r < e.room = omega arith in (before_above r e es k, there_above r e es k)

first_put : {es : List Entry} (d : Entry) → Rises (suc d.room) es → put_in d es ≡ d ∷ es
unfolding put_in
first_put d nil = refl
first_put d (cons {e = e} {es = es} h u) = put_above d e es h

-- put in again
pub put_back : {low : ℕ} {es : List Entry} (r : ℕ) {c : List ℕ} → Rises low es → held r es ≡ given c → put_in (entry r c) (without r es) ≡ es
unfolding held
put_back r nil h = absurd (not_both h)
put_back {low} r {c} (cons {e = e} {es = es} l u) h = go (tri e.room r) (put_back r {c = c} u)
  where
    go : Tri e.room r → (held r es ≡ given c → put_in (entry r c) (without r es) ≡ es) → put_in (entry r c) (without r (e ∷ es)) ≡ e ∷ es
    go (below k) f =
        ap (put_in (entry r c)) (out_other r e es (λ z. omega arith)) ∙ put_below (entry r c) e (without r es) k ∙ ap (λ ds. e ∷ ds) (f (sym (held_below r e es k) ∙ h))
    go (same k) f =
        let q : e.card ≡ c = given_same (sym (held_same r e es k) ∙ h) in
        let w : Rises (suc r) es = rw k at u in
        let n : r < suc r = omega arith in
        ap (put_in (entry r c)) (out_same r e es k ∙ first_out r n w) ∙ first_put (entry r c) w
        ∙ ap (λ x. entry x c ∷ es) (sym k) ∙ ap (λ x. entry e.room x ∷ es) (sym q)
    go (above k) f = let j : Rises (suc r) (e ∷ es) = cons k u in let n : r < suc r = omega arith in absurd (not_both (sym (not_held r n j) ∙ h))

-- where it stood
pub out_place : {low : ℕ} {es : List Entry} (r : ℕ) → Rises low es → (before r (without r es) ≡ before r es) × (there r (without r es) ≡ 0)
unfolding without there
out_place r nil = (refl, refl)
out_place r (cons {e = e} {es = es} l u) = go (tri e.room r) (out_place r u)
  where
    ds : List Entry
    ds = without r es

    go : Tri e.room r → (before r ds ≡ before r es) × (there r ds ≡ 0) → (before r (without r (e ∷ es)) ≡ before r (e ∷ es)) × (there r (without r (e ∷ es)) ≡ 0)
    go (below k) f =
        rw (out_other r e es (λ z. omega arith)) (before_below r e ds k ∙ ap (λ n. long e + n) f.0 ∙ sym (before_below r e es k), there_below r e ds k ∙ f.1)
    go (same k) f =
        let n : r < suc e.room = omega arith in
        let p = first_place r n u in
        rw (out_same r e es k ∙ first_out r n u) (p.0 ∙ sym (before_same r e es k), p.1)
    go (above k) f =
        let j : Rises (suc r) (e ∷ es) = cons k u in
        let n : r < suc r = omega arith in
        rw (first_out r n j) (refl, there_above r e es k)

-- its record is what is then missing
pub size_out : {low : ℕ} {es : List Entry} (r : ℕ) {c : List ℕ} → Rises low es → held r es ≡ given c → size (without r es) + (6 + length c) ≡ size es
size_out {es = es} r {c} u h = omega (arith, size_put (entry r c) (without r es), ap size (put_back r u h), (out_place r u).1)
