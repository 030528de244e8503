-- Rooms after one is put in: by how the first room stands to it, how many bytes they have, and where its record goes. Document 02, order 3.
-- Assumes nothing.
use Prim.Native.Nat.{ℕ, ◌+◌, ◌≤◌, ◌<◌}
use mathlib.Core.Path.{◌≡◌, ap}
use mathlib.Core.List.{List, [], ◌∷◌}
use native.Mathlib.Omega.{arith}
use Rattle.book.specs.Book.{Entry, long, size}
use Rattle.book.specs.Lookup.{before}
use Rattle.book.specs.Steps.{there}
use Rattle.book.proofs.Rooms.{Tri, below, same, above, tri, is_below, is_same, is_above, before_below, before_same, before_above, there_below, there_same, there_above}
use Rattle.book.proofs.Runs.{size_least}
use Rattle.book_put.specs.Put.{put_in}

module _ (d e : Entry) (es : List Entry) where
  pub put_below : e.room < d.room → put_in d (e ∷ es) ≡ e ∷ put_in d es
  unfolding put_in
  put_below h = rw (is_below h).lt

  pub put_same : e.room ≡ d.room → put_in d (e ∷ es) ≡ d ∷ es
  unfolding put_in
  put_same h = rw ((is_same h).lt, (is_same h).eq)

  pub put_above : d.room < e.room → put_in d (e ∷ es) ≡ d ∷ (e ∷ es)
  unfolding put_in
  put_above h = rw ((is_above h).lt, (is_above h).eq)

-- its record takes the place of the one that was there
pub size_put : (d : Entry) (es : List Entry) → size (put_in d es) + there d.room es ≡ size es + long d
unfolding put_in there size
size_put d [] = omega arith
size_put d (e ∷ es) = go (tri e.room d.room) (size_put d es)
  where
    r : ℕ
    r = d.room

    go : Tri e.room r → size (put_in d es) + there r es ≡ size es + long d → size (put_in d (e ∷ es)) + there r (e ∷ es) ≡ long e + size es + long d
    go (below k) f = omega (arith, ap size (put_below d e es k), there_below r e es k)
    go (same k) f = omega (arith, ap size (put_same d e es k), there_same r e es k)
    go (above k) f = omega (arith, ap size (put_above d e es k), there_above r e es k)

-- which ends before the closing one starts
pub before_closing : (r : ℕ) (es : List Entry) → before r es + there r es + 4 ≤ size es
unfolding before there size
before_closing r [] = omega arith
before_closing r (e ∷ es) = go (tri e.room r) (before_closing r es)
  where
    go : Tri e.room r → before r es + there r es + 4 ≤ size es → before r (e ∷ es) + there r (e ∷ es) + 4 ≤ long e + size es
    go (below k) f = omega (arith, before_below r e es k, there_below r e es k)
    go (same k) f = omega (arith, before_same r e es k, there_same r e es k, size_least es)
    go (above k) f = omega (arith, before_above r e es k, there_above r e es k, size_least es)
