-- What putting a card in answers and leaves, case by case. Document 02, order 3.
-- Assumes nothing.
use Prim.Native.Nat.{ℕ, ◌+◌, ◌-◌, ◌≤◌, ◌<◌}
use mathlib.Core.Path.{◌≡◌, ap, sym, ◌∙◌}
use mathlib.Core.Bool.{or-true}
use mathlib.Core.List.{List, ◌++◌}
use native.Mathlib.Omega.{arith}
use lib.ListN.{length, drop}
use borrow.Author.Tests.{lt-ltb, le-ltb}
use Rattle.answer.specs.Answer.{Answer, refused, given, ◌then◌, refuse}
use Rattle.little_endian.specs.Numbers.{Bytes}
use Rattle.card.specs.Answers.{own}
use Rattle.book.specs.Book.{Entry, entry_bytes, book_bytes, size, most, ◌giving◌, book}
use Rattle.book.specs.Lookup.{in_use}
use Rattle.book.specs.declared.Slot.{Slot}
use Rattle.book.specs.declared.Used.{Used}
use Rattle.book.proofs.Answers.{Walks}
use Rattle.book_put.specs.Put.{entry, put_in, made, put, after, Puts}
use Rattle.book_put.specs.Splice.{spliced}
use Rattle.book_put.proofs.Placing.{size_put, before_closing}
use Rattle.book_put.proofs.Splicing.{put_buffer}

-- ---- a refusal, and an acceptance

pub puts-refused : {a : Answer (List Entry)} {n p : ℕ} {s : List ℕ} {r : Used} → a ≡ refused n p → r ≡ in_use (refused n p) → Puts a s s r
unfolding after
puts-refused e f = record { answer = f ∙ ap in_use (sym e); buffer = rw e }

pub puts-given : {a : Answer (List Entry)} {es : List Entry} {s exit : List ℕ} {n : ℕ}
    → a ≡ given es → n ≡ size es → exit ≡ book_bytes es ++ drop (size es) s → Puts a s exit (record { number = 0; place = 0; bytes = n })
unfolding after in_use
puts-given e f g = record { answer = rw (e, f); buffer = g ∙ rw e }

-- ---- 21

module _ (d : Entry) (lent : ℕ) (es : List Entry) where
  pub over-the-limit : most < size (put_in d es) → made d lent es ≡ refused 21 0
  unfolding made refuse ◌then◌
  over-the-limit h = rw (lt-ltb most (size (put_in d es)) h)

  pub over_the_buffer : lent < size (put_in d es) → made d lent es ≡ refused 21 0
  unfolding made refuse ◌then◌
  over_the_buffer h = rw (lt-ltb lent (size (put_in d es)) h, or-true)

  pub fits : size (put_in d es) ≤ most → size (put_in d es) ≤ lent → made d lent es ≡ given (put_in d es)
  unfolding made refuse ◌then◌
  fits h l = rw (le-ltb most (size (put_in d es)) h, le-ltb lent (size (put_in d es)) l)

-- ---- by the slot that a walk found

-- which ends before the closing record
pub slot-inside : {r : ℕ} {s : List ℕ} {m : Slot} → Walks r s m → m.at + m.size + 4 ≤ m.bytes
slot-inside {r} w = omega (arith, w.at, w.size, w.bytes, before_closing r w.es)

module _ {r : ℕ} {s : List ℕ} {m : Slot} (w : Walks r s m) (c : List ℕ) where
  abbrev d : Entry
  d = entry r c

  pub made_of : {a : Answer (List Entry)} → made d (length s) w.es ≡ a → (book s giving made d (length s)) ≡ a
  unfolding ◌giving◌
  made_of e = rw w.is e

  -- "the book it would make"
  pub new-size : m.bytes - m.size + (6 + length c) ≡ size (put_in d w.es)
  new-size = omega (arith, slot-inside w, w.size, w.bytes, size_put d w.es)

  pub new-least : 6 + length c ≤ size (put_in d w.es)
  new-least = omega (arith, new-size)

  pub new-bytes : Bytes s → spliced s m.at m.size m.bytes (entry_bytes d) ≡ book_bytes (put_in d w.es) ++ drop (size (put_in d w.es)) s
  new-bytes b = cc (put_buffer b w.sound.run d, w.at, w.size, w.bytes)

  pub put_of : {a : Answer (List Entry)} → (own c then made d (length s) w.es) ≡ a → put r c s ≡ a
  unfolding put ◌giving◌
  put_of e = rw w.is e

-- ---- the order

pub put_refused : (r : ℕ) (c s : List ℕ) {n p : ℕ} → book s ≡ refused n p → put r c s ≡ refused n p
unfolding put ◌giving◌
put_refused r c s e = rw e
