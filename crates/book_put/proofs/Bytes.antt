-- The bytes of a book: how many there are, that a sound book is made of the bytes of its rooms, and those bytes after a room is put in. Document 02, order 3.
-- Assumes nothing.
use Prim.Native.Nat.{ℕ, ◌+◌, ◌-◌}
use mathlib.Core.Path.{◌≡◌, refl, ap, sym, ◌∙◌}
use mathlib.Core.Bool.{true}
use mathlib.Core.List.{List, [], ◌∷◌, ◌++◌, append_assoc}
use native.Mathlib.Omega.{arith}
use lib.ListN.{length, take, drop, length-append, length-drop, take-append-drop}
use lib.Seq.{drop-drop, drop_at, take-append-add, drop-append-add, length-take-le}
use Rattle.little_endian.specs.Numbers.{le, num_at, Bytes}
use Rattle.little_endian.proofs.Numbers.{length_le, peel}
use Rattle.record.specs.Record.{header}
use Rattle.record.proofs.Records.{header_made, stands}
use Rattle.book.specs.Book.{Entry, entry_bytes, book_bytes, long, size, next, holds, entry_at}
use Rattle.book.specs.Lookup.{before}
use Rattle.book.specs.Steps.{there}
use Rattle.book.proofs.Standing.{closing, holding, long_entry}
use Rattle.book.proofs.Rooms.{Tri, below, same, above, tri, before_below, before_same, before_above, there_below, there_same, there_above}
use Rattle.book.proofs.Runs.{Run, closed, further}
use Rattle.book_put.specs.Put.{put_in}
use Rattle.book_put.proofs.Placing.{put_below, put_same, put_above}

-- ---- how many

pub length_entry : (e : Entry) → length (entry_bytes e) ≡ long e
unfolding entry_bytes header
length_entry e = simp (length-append, length_le) (omega arith)

pub length_book : (es : List Entry) → length (book_bytes es) ≡ size es
unfolding book_bytes size header
length_book [] = simp (length-append, length_le)
length_book (e ∷ es) = length-append (entry_bytes e) (book_bytes es) ∙ omega (arith, length_entry e, length_book es)

-- ---- of a book that is sound

entry_made : (s : List ℕ) (at : ℕ) → Bytes s → holds s at ≡ true → drop at s ≡ entry_bytes (entry_at s at) ++ drop (next s at) s
unfolding entry_bytes entry_at
entry_made s at b t =
    let h = holding s at t in
    let l = h.inside in
    let w = h.two in
    let x = take (num_at 2 s at - 2) (drop (at + 6) s) in
    let n : length x ≡ num_at 2 s at - 2 = length-take-le (num_at 2 s at - 2) (drop (at + 6) s) (simp length-drop (omega arith)) in
    let m : 2 + (num_at 2 s at - 2) ≡ num_at 2 s at = omega arith in
    let a = header_made s at 5 (num_at 2 s at) b (stands s at 5 (num_at 2 s at) (record { whole = l; has_length = refl; has_kind = h.kind })) in
    let e = peel s (at + 4) 2 (at + 6) (omega arith) b (omega arith) in
    let k : at + 6 + (num_at 2 s at - 2) ≡ next s at = omega arith in
    let f : drop (at + 6) s ≡ x ++ drop (next s at) s =
    sym (take-append-drop (num_at 2 s at - 2) (drop (at + 6) s)) ∙ ap (λ y. x ++ y) (drop-drop (num_at 2 s at - 2) (at + 6) s ∙ ap (λ i. drop i s) k) in
    a ∙ ap (λ y. header 5 (num_at 2 s at) ++ y) (e ∙ ap (λ y. le 2 (num_at 2 s (at + 4)) ++ y) f) ∙ rw (n, m) (simp append_assoc)

pub run_bytes : {s : List ℕ} {at : ℕ} {es : List Entry} → Bytes s → Run s at es → drop at s ≡ book_bytes es ++ drop (at + size es) s
unfolding book_bytes size
run_bytes {s} {at} b (closed t) = header_made s at 3 0 b (closing s at t).is
run_bytes {s} {at} b (further {es = es} f t r) =
    let e = entry_at s at in
    let k : next s at + size es ≡ at + (long e + size es) = omega (arith, long_entry s at t) in
    entry_made s at b t ∙ ap (λ x. entry_bytes e ++ x) (run_bytes b r ∙ ap (λ i. book_bytes es ++ drop i s) k) ∙ sym (append_assoc (entry_bytes e) (book_bytes es) (drop (at + (long e + size es)) s))

-- the whole of it, and what lies behind
pub whole : {s : List ℕ} {es : List Entry} → Bytes s → Run s 0 es → s ≡ book_bytes es ++ drop (size es) s
whole {s} {es} b r = let z : 0 + size es ≡ size es = omega arith in run_bytes b r ∙ ap (λ i. book_bytes es ++ drop i s) z

-- ---- after a room is put in

-- vs between the first x bytes and those from y on
abbrev pub around : (x y : ℕ) → List ℕ → List ℕ → List ℕ
around x y vs bs = take x bs ++ (vs ++ drop y bs)

-- behind one more record
behind_one : (a b vs : List ℕ) (m n x y : ℕ) → x ≡ length a + m → y ≡ length a + n → around x y vs (a ++ b) ≡ a ++ around m n vs b
behind_one a b vs m n x y p q = rw (p, q, take-append-add a b m, drop-append-add a b n) (append_assoc a (take m b) (vs ++ drop n b))

in_place : (a b vs : List ℕ) (x y : ℕ) → x ≡ 0 → y ≡ length a → around x y vs (a ++ b) ≡ vs ++ b
in_place a b vs x y p q = rw p (ap (λ t. vs ++ t) (drop_at a b y (sym q)))

pub put_bytes : (d : Entry) (es : List Entry) → book_bytes (put_in d es) ≡ around (before d.room es) (before d.room es + there d.room es) (entry_bytes d) (book_bytes es)
unfolding book_bytes put_in before there
put_bytes d [] = refl
put_bytes d (e ∷ es) = go (tri e.room d.room) (put_bytes d es)
  where
    r : ℕ
    r = d.room

    v : List ℕ
    v = entry_bytes d

    x : ℕ
    x = before r (e ∷ es)

    y : ℕ
    y = before r (e ∷ es) + there r (e ∷ es)

    go : Tri e.room r → book_bytes (put_in d es) ≡ around (before r es) (before r es + there r es) v (book_bytes es)
        → book_bytes (put_in d (e ∷ es)) ≡ around x y v (entry_bytes e ++ book_bytes es)
    go (below k) f =
        let w = length_entry e in
        ap book_bytes (put_below d e es k) ∙ ap (λ t. entry_bytes e ++ t) f
        ∙ sym (behind_one (entry_bytes e) (book_bytes es) v (before r es) (before r es + there r es) x y
        (omega (arith, before_below r e es k)) (omega (arith, before_below r e es k, there_below r e es k)))
    go (same k) f =
        ap book_bytes (put_same d e es k)
        ∙ sym (in_place (entry_bytes e) (book_bytes es) v x y (before_same r e es k) (omega (arith, before_same r e es k, there_same r e es k, length_entry e)))
    go (above k) f =
        ap book_bytes (put_above d e es k) ∙ sym (in_place [] (entry_bytes e ++ book_bytes es) v x y (before_above r e es k) (omega (arith, before_above r e es k, there_above r e es k)))
