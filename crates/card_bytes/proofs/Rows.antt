-- Rows of records: their lengths, one more at the end, and by their elements.
-- Assumes nothing.
use Prim.Native.Nat.{ℕ, zero, suc, ◌+◌, ◌*◌, ◌≤◌, ◌<◌}
use mathlib.Core.Path.{◌≡◌, refl, sym}
use mathlib.Core.List.{List, ◌++◌, append_assoc, append-nil}
use native.Mathlib.Nat.{add-zero, zero-add, mul-suc}
use native.Mathlib.Numerals.{add-one}
use native.Mathlib.Omega.{arith}
use lib.ListN.{length, length-append}
use Rattle.card_bytes.specs.Bytes.{rows}

module _ (f : ℕ → List ℕ) where
  pub length_rows : (w : ℕ) → ((i : ℕ) → length (f i) ≡ w) → (i n : ℕ) → length (rows f i n) ≡ w * n
  unfolding rows
  length_rows w h i zero = omega arith
  length_rows w h i (suc n) = simp length-append (omega (arith, h i, length_rows w h (suc i) n, mul-suc w n))

  rows_suc : (i n : ℕ) → rows f i (suc n) ≡ rows f i n ++ f (i + n)
  unfolding rows
  rows_suc i zero = rw (append-nil, add-zero)
  rows_suc i (suc n) =
      let e : suc i + n ≡ i + suc n = omega arith in
      rw (rows_suc (suc i) n, e) (sym (append_assoc (f i) (rows f (suc i) n) (f (i + suc n))))

  pub rows_more : (n : ℕ) → rows f 0 (n + 1) ≡ rows f 0 n ++ f n
  rows_more n = rw (add-one, rows_suc 0 n, zero-add)

pub rows_alike : {f g : ℕ → List ℕ} (n i k : ℕ) → i + k ≤ n → ((j : ℕ) → j < n → f j ≡ g j) → rows f i k ≡ rows g i k
unfolding rows
rows_alike n i zero l h = refl
rows_alike n i (suc k) l h = rw (h i (omega arith), rows_alike n (suc i) k (omega arith) h)
