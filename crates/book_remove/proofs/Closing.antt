-- The gap that a record leaves is closed: what stood behind it moves up, and a buffer that holds a sound book holds the new one.
-- Document 02, order 11. Assumes nothing.
use Prim.Native.Nat.{ℕ, ◌+◌, ◌-◌, ◌≤◌}
use mathlib.Core.Path.{◌≡◌, ap, sym, ◌∙◌}
use mathlib.Core.List.{List, [], ◌++◌, append_assoc}
use native.Mathlib.Omega.{arith}
use lib.ListN.{length, take, drop, take-append-drop}
use lib.Seq.{paste, take_at, drop_at, drop-append-add, length-take-le}
use Rattle.answer.specs.Answer.{given}
use Rattle.little_endian.specs.Numbers.{Bytes}
use Rattle.book.specs.Book.{Entry, entry_bytes, book_bytes, size}
use Rattle.book.specs.Lookup.{held, before}
use Rattle.book.specs.Steps.{there}
use Rattle.book.proofs.Runs.{Sound}
use Rattle.book_put.specs.Put.{entry}
use Rattle.book_put.specs.Splice.{spliced}
use Rattle.book_put.proofs.Placing.{before_closing}
use Rattle.book_put.proofs.Bytes.{length_entry, length_book, whole, around, put_bytes}
use Rattle.book_put.proofs.Splicing.{spliced_front}
use Rattle.book_remove.specs.Remove.{without}
use Rattle.book_remove.proofs.Taking.{put_back, out_place, size_out}

-- what was put between two parts goes again
between : (bs vs : List ℕ) (x n : ℕ) → x ≤ length bs → length vs ≡ n → around x (x + n) [] (around x x vs bs) ≡ bs
between bs vs x n l e =
    let k : length (take x bs) ≡ x = length-take-le x bs l in
    let t : take x (around x x vs bs) ≡ take x bs = take_at (take x bs) (vs ++ drop x bs) x k in
    let d : drop (x + n) (around x x vs bs) ≡ drop x bs = ap (λ i. drop (i + n) (around x x vs bs)) (sym k) ∙ drop-append-add (take x bs) (vs ++ drop x bs) n ∙ drop_at vs (drop x bs) n e in
    ap (λ a. a ++ drop (x + n) (around x x vs bs)) t ∙ ap (λ a. take x bs ++ a) d ∙ take-append-drop x bs

-- bytes moved up are bytes put in of which there are none
moved_up : (s : List ℕ) (at old used : ℕ) → paste s at (drop (at + old) s) (used - (at + old)) ≡ spliced s at old used []
unfolding spliced
moved_up s at old used =
    let n : at + (used - (at + old)) ≡ at + (0 + (used - (at + old))) = omega arith in
    append_assoc (take at s) _ _ ∙ ap (λ i. take at s ++ (take (used - (at + old)) (drop (at + old) s) ++ drop i s)) n

module _ {s : List ℕ} {es : List Entry} (o : Sound s es) (r : ℕ) {c : List ℕ} (h : held r es ≡ given c) (t : there r es ≡ 6 + length c) where
  abbrev ds : List Entry
  ds = without r es

  -- the book's bytes around those of the room
  pub out_bytes : around (before r es) (before r es + there r es) [] (book_bytes es) ≡ book_bytes ds
  out_bytes =
      let d = entry r c in
      let x = before r ds in
      let p = out_place r o.up in
      let y : x + there r ds ≡ x = omega (arith, p.1) in
      let b : book_bytes es ≡ around x x (entry_bytes d) (book_bytes ds) =
      ap book_bytes (sym (put_back r o.up h)) ∙ put_bytes d ds ∙ ap (λ i. around x i (entry_bytes d) (book_bytes ds)) y in
      let l : x ≤ length (book_bytes ds) = omega (arith, length_book ds, before_closing r ds) in
      let n : before r es + there r es ≡ x + (6 + length c) = omega (arith, p.0) in
      rw (n, ← p.0, b) (between (book_bytes ds) (entry_bytes d) x (6 + length c) l (length_entry d))

  pub out_buffer : Bytes s → paste s (before r es) (drop (before r es + there r es) s) (size es - (before r es + there r es)) ≡ book_bytes ds ++ drop (size ds) s
  out_buffer b =
      let l = before_closing r es in
      let n : before r es + (0 + (size es - (before r es + there r es))) ≡ size ds = omega (arith, size_out r o.up h) in
      moved_up s (before r es) (there r es) (size es)
      ∙ spliced_front s (book_bytes es) (drop (size es) s) (before r es) (there r es) (size es) (whole b o.run) (length_book es) (omega arith) [] (size ds) n
      ∙ ap (λ x. x ++ drop (size ds) s) out_bytes
