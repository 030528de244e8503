-- The bytes in use: a sum over the rooms present, and 21 looks at them alone. Document 02, order 11.
-- Assumes nothing.
use Prim.Native.Nat.{ℕ}
use mathlib.Core.Path.{◌≡◌, refl, ap, ◌∙◌}
use mathlib.Core.List.{List, [], ◌∷◌}
use native.Mathlib.Omega.{arith}
use lib.ListN.{length}
use Rattle.answer.specs.Answer.{Answer, given, accepted, ◌then◌}
use Rattle.card.specs.Answers.{own}
use Rattle.book.specs.Book.{Entry, size, ◌giving◌, book}
use Rattle.book.specs.Lookup.{in_use}
use Rattle.book_put.specs.Put.{entry, put_in, made, put}
use Rattle.book_put.proofs.Placing.{size_put, before_closing}
use Rattle.history.specs.InUse.{sum_over, in_use_by, then_in_use, full}

-- ---- as a sum

size_sum : (es : List Entry) → size es ≡ in_use_by es
unfolding size sum_over
size_sum [] = refl
size_sum (e ∷ es) = omega (arith, size_sum es)

-- of whatever gives rooms: the book's own test, a put, a removal
pub bytes_in_use : {a : Answer (List Entry)} {es : List Entry} → a ≡ given es → (in_use a).bytes ≡ in_use_by es
unfolding in_use
bytes_in_use {es = es} e = ap (λ x. (in_use x).bytes) e ∙ size_sum es

-- ---- 21

module _ (r : ℕ) (c s : List ℕ) {es : List Entry} (e : book s ≡ given es) where
  by_size : own c ≡ accepted → put r c s ≡ (full (size (put_in (entry r c) es)) (length s) then given (put_in (entry r c) es))
  unfolding put made ◌giving◌ ◌then◌
  by_size o = rw (e, o)

  -- it is refused for these alone, whatever else the buffer holds
  pub full_by_bytes_in_use : own c ≡ accepted → put r c s ≡ (full (then_in_use r c es) (length s) then given (put_in (entry r c) es))
  full_by_bytes_in_use o =
      let n : size (put_in (entry r c) es) ≡ then_in_use r c es = omega (arith, size_put (entry r c) es, before_closing r es, size_sum es) in
      by_size o ∙ ap (λ i. full i (length s) then given (put_in (entry r c) es)) n
