-- Rooms of which one is taken out: they rise, what holds of every room holds of those left, none but that one is missing, and one that
-- was put in where it was absent leaves them as they were. Document 02, order 11. Assumes nothing.
use Prim.Native.Nat.{ℕ, suc}
use mathlib.Core.Path.{◌≡◌, refl, ap, sym, ◌∙◌}
use mathlib.Core.Logic.{◌≢◌}
use mathlib.Core.Bool.{Bool, true, false, cond}
use mathlib.Core.List.{List, [], ◌∷◌}
use native.Mathlib.Omega.{arith}
use lib.Dec.{eqb}
use borrow.Author.Tests.{eq-eqb, ne_eqb, eqb-true}
use Rattle.answer.specs.Answer.{refused}
use Rattle.answer.proofs.Steps.{not_both}
use Rattle.book.specs.Book.{Entry}
use Rattle.book.specs.Lookup.{held}
use Rattle.book.proofs.Rooms.{Rises, nil as rises-nil, cons as rises-cons, Tri, below, same, above, tri, held_below, held_same}
use Rattle.book_put.specs.Put.{put_in}
use Rattle.book_put.proofs.Placing.{put_below, put_above}
use Rattle.bookkeeping.specs.Every.{Every, nil, cons}
use Rattle.bookkeeping.proofs.Kept.{lower}
use Rattle.book_remove.specs.Remove.{without}
use Rattle.book_remove.proofs.Taking.{out_same, out_other, absent_out}

module _ (r : ℕ) where
  pub rises_out : {low : ℕ} {es : List Entry} → Rises low es → Rises low (without r es)
  unfolding without
  rises_out rises-nil = rises-nil
  rises_out {low} (rises-cons {e = e} {es = es} h u) = go (eqb e.room r) (rises_out u)
    where
      go : (b : Bool) → Rises (suc e.room) (without r es) → Rises low (cond b (without r es) (e ∷ without r es))
      go true f = lower (omega arith) f
      go false f = rises-cons h f

  pub every_out : {P : Entry → Type 0} {es : List Entry} → Every P es → Every P (without r es)
  unfolding without
  every_out nil = nil
  every_out {P} (cons {e = e} {es = es} h f) = go (eqb e.room r) (every_out f)
    where
      go : (b : Bool) → Every P (without r es) → Every P (cond b (without r es) (e ∷ without r es))
      go true f = f
      go false f = cons h f

  -- the room has no card any more
  pub held_out : (es : List Entry) → held r (without r es) ≡ refused 20 0
  unfolding without held
  held_out [] = refl
  held_out (e ∷ es) = go (eqb e.room r) refl (held_out es)
    where
      go : (b : Bool) → eqb e.room r ≡ b → held r (without r es) ≡ refused 20 0 → held r (cond b (without r es) (e ∷ without r es)) ≡ refused 20 0
      go true t f = f
      go false t f = rw t f

  -- and no other room's changes
  pub others_out : (q : ℕ) (es : List Entry) → q ≢ r → held q (without r es) ≡ held q es
  unfolding without held
  others_out q [] n = refl
  others_out q (e ∷ es) n = go (eqb e.room r) refl (others_out q es n)
    where
      go : (b : Bool) → eqb e.room r ≡ b → held q (without r es) ≡ held q es → held q (cond b (without r es) (e ∷ without r es)) ≡ held q (e ∷ es)
      go true t f = f ∙ sym (rw (ne_eqb e.room q (λ z. n (sym z ∙ eqb-true e.room r t))))
      go false t f = rw f

-- put in where it was absent, and taken out again
pub out_put : (d : Entry) (es : List Entry) → held d.room es ≡ refused 20 0 → without d.room (put_in d es) ≡ es
unfolding put_in without
out_put d [] h = rw (eq-eqb d.room d.room refl)
out_put d (e ∷ es) h = go (tri e.room d.room) (out_put d es)
  where
    r : ℕ
    r = d.room

    go : Tri e.room r → (held r es ≡ refused 20 0 → without r (put_in d es) ≡ es) → without r (put_in d (e ∷ es)) ≡ e ∷ es
    go (below k) f = ap (without r) (put_below d e es k) ∙ out_other r e (put_in d es) (λ z. omega arith) ∙ ap (λ ds. e ∷ ds) (f (sym (held_below r e es k) ∙ h))
    go (same k) f = absurd (not_both (sym h ∙ held_same r e es k))
    go (above k) f = ap (without r) (put_above d e es k) ∙ out_same r d (e ∷ es) refl ∙ absent_out r (e ∷ es) h
