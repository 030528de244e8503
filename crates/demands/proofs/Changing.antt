-- What the page says of a call that changes a book, a put or a removal: the answer's number, place and zeros, what is written, the book that is left and the rooms in it.
-- Document 02, orders 3 and 11. Assumes nothing.
use Prim.Native.Nat.{ℕ, ◌≤◌, ◌<◌, ◌^◌}
use mathlib.Core.Path.{◌≡◌, refl, sym, ap, subst, ◌∙◌}
use mathlib.Core.Logic.{◌≢◌}
use mathlib.Core.List.{List, ◌++◌}
use native.Mathlib.Omega.{arith}
use lib.ListN.{length, take, drop, length-append, length-drop}
use lib.Seq.{take_at, drop_at}
use Rattle.answer.specs.Answer.{Answer, refused, given, number, place}
use Rattle.answer.proofs.Never.{Never}
use Rattle.little_endian.specs.Numbers.{Bytes}
use Rattle.book.specs.Book.{Entry, book_bytes, size, book}
use Rattle.book.specs.Lookup.{in_use, look_up}
use Rattle.book.specs.declared.Used.{Used}
use Rattle.book_put.specs.Put.{after, Puts}
use Rattle.book_put.proofs.Bytes.{length_book}
use Rattle.bookkeeping.specs.Card.{card_in}
use Rattle.bookkeeping.proofs.Kept as Kept
use Rattle.bookkeeping.proofs.Kept.{was_put, put_is_book, alike}
use Rattle.history.proofs.InUse.{bytes_in_use}
use Rattle.history.proofs.Removed as Removed
use Rattle.history.proofs.Removed.{removed_is_book, removed_fits}
use Rattle.kaihveto.specs.Types.{Room}
use Rattle.demands.specs.Calls.{put_room, put_card, put_book, out_room, out_book, AChange, by_put, by_removal, changed_book, changed_book', changed_room, change_answer, the_change}
use Rattle.demands.specs.Demands.{Says, Spares, HoldsABook}
use Rattle.demands.proofs.Numbered.{says, card_numbered}
use Rattle.demands.proofs.Books.{put_never, remove_never}

use_fields : (v : Answer (List Entry)) → (let r = in_use v in (r.number ≡ number v) × (r.place ≡ place v) × (r.number ≢ 0 → r.bytes ≡ 0))
unfolding in_use number place
use_fields (refused n p) = (refl, refl, λ h. refl)
use_fields (given es) = (refl, refl, λ h. absurd (h refl))

-- ---- by an answer and a buffer that are those of the new rooms

module _ {a : Answer (List Entry)} {entry exit : List ℕ} {r : Used} (puts : Puts a entry exit r) (numbered : Never 0 a) where
  answers : Says a r.number r.place × (r.number ≢ 0 → r.bytes ≡ 0)
  answers =
      let f = use_fields a in
      subst (λ r. Says a r.number r.place × (r.number ≢ 0 → r.bytes ≡ 0)) (sym puts.answer) (says a numbered f.0 f.1, f.2)

  -- the buffer is what it was, or the new book over its front
  as_it_was : {n p : ℕ} → a ≡ refused n p → exit ≡ entry
  unfolding after
  as_it_was e = puts.buffer ∙ ap (λ v. after v entry) e

  new_front : {es : List Entry} → a ≡ given es → exit ≡ book_bytes es ++ drop (size es) entry
  unfolding after
  new_front e = puts.buffer ∙ ap (λ v. after v entry) e

  -- which has so many bytes
  in_use_is : {es : List Entry} → a ≡ given es → r.bytes ≡ size es
  unfolding in_use
  in_use_is e = ap (λ u. u.bytes) (puts.answer ∙ ap in_use e)

  spares : ((es : List Entry) → a ≡ given es → size es ≤ length entry) → Spares r.number r.bytes entry exit
  spares inside = record { refused = stays a refl; given = λ z. let g = answers.0.accepts z in writes g.what g.is }
    where
      stays : (v : Answer (List Entry)) → a ≡ v → r.number ≢ 0 → exit ≡ entry
      stays (refused n p) e h = as_it_was e
      stays (given es) e h = absurd (h (answers.0.accepted (record { what = es; is = e })))

      writes : (es : List Entry) → a ≡ given es → (length exit ≡ length entry) × (drop r.bytes exit ≡ drop r.bytes entry)
      writes es e =
          let n = inside es e in
          let k = length_book es in (
            ap length (new_front e) ∙ simp (length-append, length-drop) (omega arith),
            rw (in_use_is e) (ap (drop (size es)) (new_front e) ∙ drop_at (book_bytes es) (drop (size es) entry) (size es) k),
          )

  leaves_a_book : ((es : List Entry) → a ≡ given es → book (after a entry) ≡ given es) → r.number ≡ 0 → HoldsABook r.bytes exit
  leaves_a_book is_book z =
      let g = answers.0.accepts z in
      let u = in_use_is g.is in
      record {
        rooms = g.what;
        is = subst (λ t. book t ≡ given g.what) (sym puts.buffer) (is_book g.what g.is);
        in_use = ap (λ x. x.bytes) puts.answer ∙ bytes_in_use g.is;
        bytes = ap (λ i. take i exit) u ∙ (ap (take (size g.what)) (new_front g.is) ∙ take_at (book_bytes g.what) (drop (size g.what) entry) (size g.what) (length_book g.what));
      }

-- ---- of every such call

pub promise : (c : AChange) → Puts (the_change c) (changed_book c) (changed_book' c) (change_answer c)
promise (by_put c) = c.promised.0
promise (by_removal c) = c.promised.0

-- bytes, and a room's number of two
pub typed : (c : AChange) → Bytes (changed_book c) × (changed_room c < 2 ^ 16)
unfolding Room
typed (by_put c) = c.promised.1
typed (by_removal c) = c.promised.1

numbered : (c : AChange) → Never 0 (the_change c)
numbered (by_put c) = put_never 0 (λ z. omega arith) (λ z. omega arith) (put_book c) (λ z. omega arith) (put_room c) (put_card c) (card_numbered (put_card c))
numbered (by_removal c) = remove_never 0 (λ z. omega arith) (λ z. omega arith) (out_book c) (λ z. omega arith) (out_room c)

inside : (c : AChange) (es : List Entry) → the_change c ≡ given es → size es ≤ length (changed_book c)
inside (by_put c) es e = let p = was_put (put_room c) (put_card c) (put_book c) e in rw p.new at p.room
inside (by_removal c) es e = removed_fits (out_room c) (out_book c) (typed (by_removal c)).0 e

is_book : (c : AChange) (es : List Entry) → the_change c ≡ given es → book (after (the_change c) (changed_book c)) ≡ given es
is_book (by_put c) es e = let t = typed (by_put c) in put_is_book (put_room c) (put_card c) (put_book c) t.0 t.1 e
is_book (by_removal c) es e = removed_is_book (out_room c) (out_book c) (typed (by_removal c)).0 e

pub change_answers : (c : AChange) → Says (the_change c) (change_answer c).number (change_answer c).place × ((change_answer c).number ≢ 0 → (change_answer c).bytes ≡ 0)
change_answers c = answers (promise c) (numbered c)

pub change_spares : (c : AChange) → Spares (change_answer c).number (change_answer c).bytes (changed_book c) (changed_book' c)
change_spares c = spares (promise c) (numbered c) (inside c)

pub change_leaves_a_book : (c : AChange) → (change_answer c).number ≡ 0 → HoldsABook (change_answer c).bytes (changed_book' c)
change_leaves_a_book c = leaves_a_book (promise c) (numbered c) (is_book c)

-- ---- the rooms in it

pub others_cards : (c : AChange) (q : ℕ) → q ≢ changed_room c → card_in q (changed_book' c) ≡ card_in q (changed_book c)
others_cards c q n = subst (λ t. card_in q t ≡ card_in q (changed_book c)) (sym (promise c).buffer) (stay c n)
  where
    stay : (c : AChange) → q ≢ changed_room c → card_in q (after (the_change c) (changed_book c)) ≡ card_in q (changed_book c)
    stay (by_put c) n = let t = typed (by_put c) in Kept.cards_stay (put_room c) (put_card c) (put_book c) t.0 t.1 q n
    stay (by_removal c) n = Removed.cards_stay (out_room c) (out_book c) (typed (by_removal c)).0 q n

pub others_found : (c : AChange) (q : ℕ) → q ≢ changed_room c → look_up q (changed_book' c) ≡ look_up q (changed_book c)
others_found c q n = alike q (changed_book c) (changed_book' c) (others_cards c q n)
