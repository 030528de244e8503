-- Rooms to bytes and back: the bytes of rooms hold those rooms, whatever lies behind them, and a sound book is the bytes of its rooms. Document 02, order 3.
-- Assumes nothing.
use Prim.Native.Nat.{ℕ, ◌+◌, ◌-◌, ◌≤◌, ◌<◌, ◌^◌}
use mathlib.Core.Path.{◌≡◌, refl, ap, sym, ◌∙◌}
use mathlib.Core.Bool.{Bool, true, false}
use mathlib.Core.List.{List, [], ◌++◌, append_assoc}
use native.Mathlib.Omega.{arith}
use lib.Dec.{lit<}
use lib.ListN.{length, take, drop, length-append}
use lib.Seq.{drop-drop, take_at, drop_at}
use borrow.Author.Tests.{le-leb}
use Rattle.answer.specs.Answer.{given}
use Rattle.little_endian.specs.Numbers.{le, num_at, Bytes}
use Rattle.little_endian.proofs.Numbers.{length_le, stood, num_at_lt}
use Rattle.record.specs.Record.{header, is_at}
use Rattle.record.proofs.Records.{standing, header_stands}
use Rattle.book.specs.Book.{Entry, entry_bytes, book_bytes, long, size, most, next, closes, entry_at, book}
use Rattle.book.proofs.Standing.{holding, whole_holds, closes_within}
use Rattle.book.proofs.Rooms.{Rises, nil as rises-nil}
use Rattle.book.proofs.Runs.{Run, closed, further, sound, is_book}
use Rattle.book_put.specs.Put.{entry}
use Rattle.book_put.proofs.Bytes.{length_book, whole}
use Rattle.bookkeeping.specs.Every.{Every, nil, cons, TwoBytes}

-- ---- where the bytes of rooms stand

-- what a room's bytes say, where they stand
record Entered (s : List ℕ) (at : ℕ) (e : Entry) (t : List ℕ) : Type 0 where
  pub long_is : num_at 2 s at ≡ 2 + length e.card
  pub kind : is_at s at 5 (2 + length e.card) ≡ true
  pub room : num_at 2 s (at + 4) ≡ e.room
  pub tail : drop (at + 6) s ≡ e.card ++ t

entered : (s : List ℕ) (at : ℕ) (e : Entry) (t : List ℕ) → e.room < 2 ^ 16 → long e ≤ most → drop at s ≡ entry_bytes e ++ t → Entered s at e t
unfolding entry_bytes
entered s at e t h l p =
    let r : List ℕ = le 2 e.room ++ (e.card ++ t) in
    let q : drop at s ≡ header 5 (2 + length e.card) ++ r = p ∙ simp append_assoc in
    let w : 2 + length e.card ≤ length r = simp (length-append, length_le) (omega arith) in
    let a = header_stands s at 5 (2 + length e.card) r (lit< tt) (omega arith) w q in
    let b = stood s (at + 4) 2 (at + 6) (omega arith) e.room (e.card ++ t) (lit< tt) h a.tail in
    record { long_is = (standing s at 5 _ a.is).has_length; kind = a.is; room = b.number; tail = b.tail }

entry_is : (s : List ℕ) (at : ℕ) (e : Entry) (t : List ℕ) → Entered s at e t → entry_at s at ≡ e
unfolding entry_at
entry_is s at e t h =
    let n : num_at 2 s at - 2 ≡ length e.card = omega (arith, h.long_is) in
    let p : take (num_at 2 s at - 2) (drop (at + 6) s) ≡ e.card = ap (λ i. take i (drop (at + 6) s)) n ∙ ap (take (length e.card)) h.tail ∙ take_at e.card t (length e.card) refl in
    ap (λ c. entry (num_at 2 s (at + 4)) c) p ∙ ap (λ r. entry r e.card) h.room

not_closing : (s : List ℕ) (at : ℕ) → (num_at 2 s at ≡ 0 → ⊥) → closes s at ≡ false
unfolding closes
not_closing s at h = go (is_at s at 3 0) refl
  where
    go : (b : Bool) → is_at s at 3 0 ≡ b → closes s at ≡ false
    go true t = absurd (h (standing s at 3 0 t).has_length)
    go false t = rw t

pub bytes_run : (s : List ℕ) (at : ℕ) {es : List Entry} (t : List ℕ) → Every TwoBytes es → at + size es ≤ most → drop at s ≡ book_bytes es ++ t → Run s at es
unfolding book_bytes size
bytes_run s at t nil l p =
    let a = header_stands s at 3 0 t (lit< tt) (lit< tt) (omega arith) p in
    closed (sym (closes_within s at a.is) ∙ le-leb (at + 4) most l)
bytes_run s at t (cons {e = e} {es = es} h f) l p =
    let o = entered s at e (book_bytes es ++ t) h (omega arith) (p ∙ append_assoc (entry_bytes e) (book_bytes es) t) in
    let n : next s at ≡ at + long e = omega (arith, o.long_is) in
    let k : at + 6 + length e.card ≡ next s at = omega arith in
    let i : is_at s at 5 (num_at 2 s at) ≡ true = ap (is_at s at 5) o.long_is ∙ o.kind in
    let d : drop (next s at) s ≡ book_bytes es ++ t =
    ap (λ j. drop j s) (sym k) ∙ sym (drop-drop (length e.card) (at + 6) s) ∙ ap (drop (length e.card)) o.tail ∙ drop_at e.card (book_bytes es ++ t) (length e.card) refl in
    let r = further (not_closing s at (λ z. omega (arith, o.long_is))) (whole_holds s at i (omega (arith, o.long_is)) (omega arith)) (bytes_run s (next s at) t f (omega arith) d) in
    rw (entry_is s at e (book_bytes es ++ t) o) at r

-- the rooms of a book have numbers of two bytes
pub run_two_bytes : {s : List ℕ} {at : ℕ} {es : List Entry} → Bytes s → Run s at es → Every TwoBytes es
unfolding entry_at
run_two_bytes b (closed t) = nil
run_two_bytes {s} {at} b (further f t r) =
    let h = holding s at t in
    cons (num_at_lt s (at + 4) 2 (at + 6) (omega arith) b (omega (arith, h.inside, h.two))) (run_two_bytes b r)

-- ---- inverse

-- the bytes of rooms are a sound book of those rooms, whatever lies behind them
pub rooms_of_bytes : {es : List Entry} (t : List ℕ) → Every TwoBytes es → Rises 0 es → size es ≤ most → book (book_bytes es ++ t) ≡ given es
rooms_of_bytes {es} t f u l = is_book (record { run = bytes_run (book_bytes es ++ t) 0 t f (omega arith) refl; up = u })

-- and a sound book is the bytes of its rooms
pub bytes_of_rooms : (s : List ℕ) {es : List Entry} → Bytes s → book s ≡ given es → take (size es) s ≡ book_bytes es
bytes_of_rooms s {es} b e = ap (take (size es)) (whole b (sound e).run) ∙ take_at (book_bytes es) (drop (size es) s) (size es) (length_book es)

-- "A book with no room is sound": four bytes
pub no_room : (t : List ℕ) → book (book_bytes [] ++ t) ≡ given []
unfolding size
no_room t = rooms_of_bytes t nil rises-nil (omega arith)
