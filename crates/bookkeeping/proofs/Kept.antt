-- What a put leaves: a sound book in which the room has the new card and every other room is as it was; after a refusal all of it. Document 02, order 3.
-- Assumes nothing.
use Prim.Native.Nat.{ℕ, suc, ◌≤◌, ◌<◌, ◌^◌}
use mathlib.Core.Path.{◌≡◌, refl, ap, sym, ◌∙◌}
use mathlib.Core.Logic.{◌≢◌}
use mathlib.Core.Bool.{Bool, true, false, ◌||◌, true≢false}
use mathlib.Core.List.{List, [], ◌∷◌}
use native.Mathlib.Omega.{arith}
use lib.ListN.{length, drop}
use lib.Dec.{ltb}
use borrow.Author.Tests.{eq-eqb, ne_eqb, ltb-false}
use Rattle.answer.specs.Answer.{Answer, refused, given, accepted, ◌then◌, refuse}
use Rattle.answer.proofs.Steps.{given_same, first_accepts, next_accepts, both_accept, refuse_accepts}
use Rattle.little_endian.specs.Numbers.{Bytes}
use Rattle.card.specs.Answers.{own}
use Rattle.book.specs.Book.{Entry, size, most, ◌giving◌, book}
use Rattle.book.specs.Lookup.{held, look_up}
use Rattle.book.proofs.Rooms.{Rises, nil as rises-nil, cons as rises-cons, Tri, below, same, above, tri}
use Rattle.book.proofs.Runs.{gives, sound}
use Rattle.book_put.specs.Put.{entry, put_in, made, put, after}
use Rattle.book_put.proofs.Placing.{put_below, put_same, put_above}
use Rattle.bookkeeping.specs.Every.{Every, nil, cons, TwoBytes}
use Rattle.bookkeeping.specs.Card.{card_in}
use Rattle.bookkeeping.proofs.Inverse.{run_two_bytes, rooms_of_bytes}

-- ---- a list of rooms into which one is put

pub lower : {low least : ℕ} {es : List Entry} → least ≤ low → Rises low es → Rises least es
lower h rises-nil = rises-nil
lower {least = least} h (rises-cons {e = e} l u) = let k : least ≤ e.room = omega arith in rises-cons k u

pub rises_put : {low : ℕ} {es : List Entry} (d : Entry) → low ≤ d.room → Rises low es → Rises low (put_in d es)
unfolding put_in
rises_put d l rises-nil = rises-cons l rises-nil
rises_put {low} d l (rises-cons {e = e} {es = es} h u) = go (tri e.room d.room) (λ k. rises_put d k u)
  where
    go : Tri e.room d.room → (suc e.room ≤ d.room → Rises (suc e.room) (put_in d es)) → Rises low (put_in d (e ∷ es))
    go (below k) f = rw (put_below d e es k) (rises-cons h (f k))
    go (same k) f = rw (put_same d e es k) (rises-cons l (lower (omega arith) u))
    go (above k) f = rw (put_above d e es k) (rises-cons l (rises-cons k u))

pub every_put : {P : Entry → Type 0} (d : Entry) {es : List Entry} → P d → Every P es → Every P (put_in d es)
unfolding put_in
every_put d p nil = cons p nil
every_put {P} d p (cons {e = e} {es = es} h f) = go (tri e.room d.room) (every_put d p f)
  where
    go : Tri e.room d.room → Every P (put_in d es) → Every P (put_in d (e ∷ es))
    go (below k) g = rw (put_below d e es k) (cons h g)
    go (same k) g = rw (put_same d e es k) (cons p f)
    go (above k) g = rw (put_above d e es k) (cons p (cons h f))

-- the room has the new card
pub held_put : (d : Entry) (es : List Entry) → held d.room (put_in d es) ≡ given d.card
unfolding put_in held
held_put d [] = rw (eq-eqb d.room d.room refl)
held_put d (e ∷ es) = go (tri e.room d.room) (held_put d es)
  where
    first : (ds : List Entry) → held d.room (d ∷ ds) ≡ given d.card
    first ds = rw (eq-eqb d.room d.room refl)

    go : Tri e.room d.room → held d.room (put_in d es) ≡ given d.card → held d.room (put_in d (e ∷ es)) ≡ given d.card
    go (below k) f = ap (held d.room) (put_below d e es k) ∙ rw (ne_eqb e.room d.room (λ z. omega arith)) f
    go (same k) f = ap (held d.room) (put_same d e es k) ∙ first es
    go (above k) f = ap (held d.room) (put_above d e es k) ∙ first (e ∷ es)

-- and no other room's changes
pub others_stay : (q : ℕ) (d : Entry) (es : List Entry) → q ≢ d.room → held q (put_in d es) ≡ held q es
unfolding put_in held
others_stay q d [] n = rw (ne_eqb d.room q (λ z. n (sym z)))
others_stay q d (e ∷ es) n = go (tri e.room d.room) (others_stay q d es n)
  where
    past : (ds : List Entry) → held q (d ∷ ds) ≡ held q ds
    past ds = rw (ne_eqb d.room q (λ z. n (sym z)))

    go : Tri e.room d.room → held q (put_in d es) ≡ held q es → held q (put_in d (e ∷ es)) ≡ held q (e ∷ es)
    go (below k) f = ap (held q) (put_below d e es k) ∙ rw f
    go (same k) f = ap (held q) (put_same d e es k) ∙ past es ∙ sym (rw (ne_eqb e.room q (λ z. n (sym z ∙ k))))
    go (above k) f = ap (held q) (put_above d e es k) ∙ past (e ∷ es)

-- ---- looking up, by what the rooms have

pub look_up_in : (q : ℕ) (s : List ℕ) → look_up q s ≡ (card_in q s giving λ c. own c then given c)
unfolding look_up ◌giving◌
look_up_in q s = go (book s)
  where
    go : (a : Answer (List Entry)) → (a giving λ es. held q es giving λ c. own c then given c) ≡ ((a giving held q) giving λ c. own c then given c)
    go (refused n p) = refl
    go (given es) = refl

pub alike : (q : ℕ) (s t : List ℕ) → card_in q t ≡ card_in q s → look_up q t ≡ look_up q s
alike q s t e = look_up_in q t ∙ ap (λ a. a giving λ k. own k then given k) e ∙ sym (look_up_in q s)

-- ---- an accepted put

fits_both : (bytes lent : ℕ) → (ltb most bytes || ltb lent bytes) ≡ false → (bytes ≤ most) × (bytes ≤ lent)
fits_both bytes lent e = go (ltb most bytes) refl e
  where
    go : (b : Bool) → ltb most bytes ≡ b → (b || ltb lent bytes) ≡ false → (bytes ≤ most) × (bytes ≤ lent)
    go true t e = absurd (true≢false e)
    go false t e = (ltb-false most bytes t, ltb-false lent bytes e)

pub record WasPut (r : ℕ) (c s : List ℕ) (es' : List Entry) : Type 0 where
  pub es : List Entry
  pub is : book s ≡ given es
  pub passes : own c ≡ accepted
  pub new : put_in (entry r c) es ≡ es'
  pub within : size (put_in (entry r c) es) ≤ most
  pub room : size (put_in (entry r c) es) ≤ length s

pub was_put : (r : ℕ) (c s : List ℕ) {es' : List Entry} → put r c s ≡ given es' → WasPut r c s es'
unfolding put made
was_put r c s {es'} e =
    let g = gives (book s) _ e in
    let m = next_accepts (own c) _ g.follows in
    let f = fits_both _ _ (refuse_accepts 21 0 _ (first_accepts (refuse 21 0 _) _ m)) in
    record {
      es = g.what;
      is = g.gave;
      passes = first_accepts (own c) _ g.follows;
      new = given_same (next_accepts (refuse 21 0 _) _ m);
      within = f.0;
      room = f.1;
    }

-- ---- the buffer afterwards

module _ (r : ℕ) (c s : List ℕ) (b : Bytes s) (l : r < 2 ^ 16) where
  -- it holds the new book's rooms
  pub put_is_book : {es : List Entry} → put r c s ≡ given es → book (after (put r c s) s) ≡ given es
  unfolding after
  put_is_book {es} e =
      let p = was_put r c s e in
      let o = sound p.is in
      let t : List ℕ = drop (size es) s in
      let f : Every TwoBytes es = rw p.new at (every_put (entry r c) l (run_two_bytes b o.run)) in
      let u : Rises 0 es = rw p.new at (rises_put (entry r c) (omega arith) o.up) in
      let n : size es ≤ most = rw p.new at p.within in
      rw e (rooms_of_bytes t f u n)

  -- looking up the room gives the new card
  pub put_is_found : {es : List Entry} → put r c s ≡ given es → look_up r (after (put r c s) s) ≡ given c
  unfolding look_up ◌giving◌
  put_is_found e =
      let p = was_put r c s e in
      let h = ap (held r) (sym p.new) ∙ held_put (entry r c) p.es in
      rw (put_is_book e, h) (both_accept p.passes refl)

  -- "Each other room's card stays byte for byte", accepted or damaged, and after a refusal too
  pub cards_stay : (q : ℕ) → q ≢ r → card_in q (after (put r c s) s) ≡ card_in q s
  unfolding ◌giving◌ after
  cards_stay q n = go (put r c s) refl
    where
      go : (a : Answer (List Entry)) → put r c s ≡ a → card_in q (after a s) ≡ card_in q s
      go (refused m p) e = refl
      go (given es) e =
          let p = was_put r c s e in
          let h = ap (held q) (sym p.new) ∙ others_stay q (entry r c) p.es n in
          rw (rw e at (put_is_book e), p.is, h)

  -- so that looking it up gives what it gave before: number, place and card
  pub others_as_before : (q : ℕ) → q ≢ r → look_up q (after (put r c s) s) ≡ look_up q s
  others_as_before q n = alike q s _ (cards_stay q n)
