-- What a removal leaves: a sound book without the room, in which every other room is as it was; the bytes that it frees, and that the
-- next card can use them; and that a room put in and taken out again leaves the same book. Document 02, order 11. Assumes nothing.
use Prim.Native.Nat.{ℕ, ◌+◌, ◌≤◌, ◌<◌, ◌^◌}
use mathlib.Core.Path.{◌≡◌, refl, ap, sym, ◌∙◌}
use mathlib.Core.Logic.{◌≢◌}
use mathlib.Core.List.{List}
use native.Mathlib.Omega.{arith}
use lib.ListN.{length, take, drop, length-append, length-drop}
use lib.Seq.{take_at}
use Rattle.answer.specs.Answer.{Answer, refused, given, accepted, ◌then◌}
use Rattle.little_endian.specs.Numbers.{Bytes}
use Rattle.card.specs.Answers.{own}
use Rattle.book.specs.Book.{Entry, book_bytes, size, ◌giving◌, book}
use Rattle.book.specs.Lookup.{in_use, held, look_up}
use Rattle.book.proofs.Runs.{gives, sound, run_inside}
use Rattle.book_put.specs.Put.{entry, put_in, put, after}
use Rattle.book_put.proofs.Placing.{size_put}
use Rattle.book_put.proofs.Bytes.{length_book}
use Rattle.book_put.proofs.Answers.{fits}
use Rattle.bookkeeping.specs.Card.{card_in}
use Rattle.bookkeeping.proofs.Inverse.{bytes_of_rooms}
use Rattle.bookkeeping.proofs.Kept.{alike, held_put}
use Rattle.book_remove.specs.Remove.{without, remove}
use Rattle.book_remove.proofs.Taking.{size_out}
use Rattle.history.proofs.Out.{held_out, others_out, out_put}
use Rattle.history.proofs.Keeping.{Keeps, keeps, putting, Removed, removing}

-- ---- what is looked up afterwards

module _ (r : ℕ) (s : List ℕ) (b : Bytes s) where
  -- the book that it was, and what was taken out of it
  record WasOut (es' : List Entry) : Type 0 where
    pub es : List Entry
    pub is : book s ≡ given es
    pub removed : Removed (keeps b is) r es'

  was_out : {es' : List Entry} → remove r s ≡ given es' → WasOut es'
  unfolding remove
  was_out e = let g = gives (book s) _ e in record { es = g.what; is = g.gave; removed = removing (keeps b g.gave) r e }

  -- the book stays sound
  pub removed_is_book : {es : List Entry} → remove r s ≡ given es → book (after (remove r s) s) ≡ given es
  removed_is_book e = (was_out e).removed.kept.is

  pub removed_fits : {es : List Entry} → remove r s ≡ given es → size es ≤ length s
  removed_fits e = (was_out e).removed.room

  -- the room is not there any more
  pub removed_is_gone : {es : List Entry} → remove r s ≡ given es → look_up r (after (remove r s) s) ≡ refused 20 0
  unfolding look_up ◌giving◌
  removed_is_gone e =
      let w = was_out e in
      rw (removed_is_book e, ← w.removed.new, held_out r w.es)

  -- each other room has its card, accepted or damaged, and after a refusal too
  pub cards_stay : (q : ℕ) → q ≢ r → card_in q (after (remove r s) s) ≡ card_in q s
  unfolding ◌giving◌ after
  cards_stay q n = go (remove r s) refl
    where
      go : (a : Answer (List Entry)) → remove r s ≡ a → card_in q (after a s) ≡ card_in q s
      go (refused m p) e = refl
      go (given es) e =
          let w = was_out e in
          let h = ap (held q) (sym w.removed.new) ∙ others_out r q w.es n in
          rw (rw e at (removed_is_book e), w.is, h)

  -- so that looking it up gives what it gave before: number, place and card
  pub others_as_before : (q : ℕ) → q ≢ r → look_up q (after (remove r s) s) ≡ look_up q s
  others_as_before q n = alike q s _ (cards_stay q n)

-- ---- the bytes that it frees

module _ (r : ℕ) (s : List ℕ) (b : Bytes s) {es es' : List Entry} (is : book s ≡ given es) (e : remove r s ≡ given es') {c : List ℕ} (h : held r es ≡ given c) where
  smaller : size es' + (6 + length c) ≡ size es
  smaller = omega (arith, ap size (removing (keeps b is) r e).new, size_out r (sound is).up h)

  -- those of its record
  pub freed : (in_use (remove r s)).bytes + (6 + length c) ≡ (in_use (book s)).bytes
  unfolding in_use
  freed = rw (e, is) smaller

  same_length : length (after (remove r s) s) ≡ length s
  unfolding after
  same_length = let k = length_book es' in rw e (simp (length-append, length-drop) (omega (arith, removed_fits r s b e)))

  -- so that a card which is no longer goes in, for whatever room, however full the book was
  pub next_fits : (q : ℕ) (c' : List ℕ) → own c' ≡ accepted → length c' ≤ length c → put q c' (after (remove r s) s) ≡ given (put_in (entry q c') es')
  unfolding put ◌giving◌ ◌then◌
  next_fits q c' o l =
      let i = run_inside s (sound is).run in
      let n = size_put (entry q c') es' in
      rw ((removing (keeps b is) r e).kept.is, o, same_length) (fits (entry q c') (length s) es' (omega (arith, smaller, i.1)) (omega (arith, smaller, i.0)))

-- ---- a room put in where it was absent, and taken out again

-- the same book: the same rooms, and the same bytes to its closing record
pub record Restored (s t : List ℕ) : Type 0 where
  pub rooms : book t ≡ book s
  pub bytes : take (in_use (book s)).bytes t ≡ take (in_use (book s)).bytes s

module _ (r : ℕ) (c s : List ℕ) (b : Bytes s) (l : r < 2 ^ 16) (absent : card_in r s ≡ refused 20 0) {es' : List Entry} (e : put r c s ≡ given es') where
  abbrev t : List ℕ
  t = after (put r c s) s

  put_and_out : {es : List Entry} → book s ≡ given es → (remove r t ≡ given es) × Restored s (after (remove r t) t)
  unfolding ◌giving◌ remove after in_use
  put_and_out {es} is =
      let p = putting (keeps b is) r c e in
      let a : held r es ≡ refused 20 0 = rw is at absent in
      let h : held r es' ≡ given c = ap (held r) (sym p.new) ∙ held_put (entry r c) es in
      let w : without r es' ≡ es = ap (without r) (sym p.new) ∙ out_put (entry r c) es a in
      let k : Keeps t es' = p.kept l in
      let o : remove r t ≡ given es = rw (k.is, h, w) in
      let z = removing k r o in
      (o, record { rooms = z.kept.is ∙ sym is; bytes = rw (is, o) (take_at (book_bytes es) (drop (size es) t) (size es) (length_book es) ∙ sym (bytes_of_rooms s b is)) })

  -- it is taken out, with the bytes in use that were before, and the same book is left
  pub out_again : remove r t ≡ book s
  unfolding put
  out_again = let g = gives (book s) _ e in (put_and_out g.gave).0 ∙ sym g.gave

  pub restored : Restored s (after (remove r t) t)
  unfolding put
  restored = (put_and_out (gives (book s) _ e).gave).1
