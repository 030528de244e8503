-- A record put into the middle of a list: by the code's two steps, and of a buffer that holds a sound book. Document 02, order 3.
-- Assumes nothing.
use Prim.Native.Nat.{ℕ, ◌+◌, ◌-◌, ◌≤◌}
use mathlib.Core.Path.{◌≡◌, ap, sym, ◌∙◌}
use mathlib.Core.List.{List, ◌++◌, append_assoc}
use native.Mathlib.Omega.{arith}
use lib.ListN.{length, take, drop, length-drop}
use lib.Seq.{sets, sets-eq, paste, length-paste, take-take, take_at, drop_at, take-append-le, drop-append-le, length-take-le}
use Rattle.little_endian.specs.Numbers.{Bytes}
use Rattle.book.specs.Book.{Entry, entry_bytes, book_bytes, size}
use Rattle.book.specs.Lookup.{before}
use Rattle.book.specs.Steps.{there}
use Rattle.book.proofs.Runs.{Run}
use Rattle.book_put.specs.Put.{put_in}
use Rattle.book_put.specs.Splice.{spliced}
use Rattle.book_put.proofs.Placing.{size_put, before_closing}
use Rattle.book_put.proofs.Bytes.{length_entry, length_book, whole, around, put_bytes}

-- what lies behind moves, then the new bytes are stored
module _ (s : List ℕ) (at old used : ℕ) (vs : List ℕ) (n : ℕ) (e : length vs ≡ n) (l : at + old ≤ used) (h : used ≤ length s) (r : used + n ≤ length s + old) where
  pub spliced_by : sets (paste s (at + n) (drop (at + old) s) (used - (at + old))) at vs ≡ spliced s at old used vs
  unfolding spliced
  spliced_by =
      let m : ℕ = used - (at + old) in
      let x : List ℕ = take m (drop (at + old) s) in
      let y : List ℕ = drop (at + n + m) s in
      let z : List ℕ = paste s (at + n) (drop (at + old) s) m in
      let w : length (drop (at + old) s) ≡ length s - (at + old) = length-drop (at + old) s in
      let k : length (take (at + n) s) ≡ at + n = length-take-le (at + n) s (omega arith) in
      let p : z ≡ take (at + n) s ++ (x ++ y) = append_assoc (take (at + n) s) x y in
      let q : length z ≡ length s = length-paste s (at + n) (drop (at + old) s) m (omega arith) (omega arith) in
      let f : take at z ≡ take at s = ap (take at) p ∙ take-append-le at (take (at + n) s) (x ++ y) (omega arith) ∙ take-take at (at + n) s (omega arith) in
      let g : drop (at + length vs) z ≡ x ++ y = ap (λ i. drop (at + i) z) e ∙ ap (drop (at + n)) p ∙ drop_at (take (at + n) s) (x ++ y) (at + n) k in
      let j : at + n + m ≡ at + (length vs + m) = omega arith in
      sets-eq vs z at (omega arith)
      ∙ ap (λ t. t ++ vs ++ drop (at + length vs) z) f
      ∙ ap (λ t. take at s ++ vs ++ t) g
      ∙ append_assoc (take at s) vs (x ++ y)
      ∙ ap (λ i. take at s ++ (vs ++ (x ++ drop i s))) j

-- of a list whose front is known
module _ (s bs rest : List ℕ) (at old used : ℕ) (p : s ≡ bs ++ rest) (q : length bs ≡ used) (l : at + old ≤ used) where
  front : take at s ≡ take at bs
  front = ap (take at) p ∙ take-append-le at bs rest (omega arith)

  behind : take (used - (at + old)) (drop (at + old) s) ≡ drop (at + old) bs
  behind =
      ap (λ t. take (used - (at + old)) (drop (at + old) t)) p
      ∙ ap (take (used - (at + old))) (drop-append-le (at + old) bs rest (omega arith))
      ∙ take_at (drop (at + old) bs) rest (used - (at + old)) (length-drop (at + old) bs ∙ omega arith)

  pub spliced_front : (vs : List ℕ) (n : ℕ) → at + (length vs + (used - (at + old))) ≡ n → spliced s at old used vs ≡ around at (at + old) vs bs ++ drop n s
  unfolding spliced
  spliced_front vs n e = rw (front, behind, e) (simp append_assoc)

-- a buffer that holds a sound book holds the new one
pub put_buffer : {s : List ℕ} {es : List Entry} → Bytes s → Run s 0 es → (d : Entry)
    → spliced s (before d.room es) (there d.room es) (size es) (entry_bytes d) ≡ book_bytes (put_in d es) ++ drop (size (put_in d es)) s
put_buffer {s} {es} b u d =
    let r = d.room in
    let l = before_closing r es in
    let n : before r es + (length (entry_bytes d) + (size es - (before r es + there r es))) ≡ size (put_in d es) = omega (arith, size_put d es, length_entry d) in
    spliced_front s (book_bytes es) (drop (size es) s) (before r es) (there r es) (size es) (whole b u) (length_book es) (omega arith) (entry_bytes d) (size (put_in d es)) n
    ∙ ap (λ t. t ++ drop (size (put_in d es)) s) (sym (put_bytes d es))
