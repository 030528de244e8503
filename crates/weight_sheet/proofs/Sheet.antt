-- The rule of the weight sheet: one computed test of all its rows, and that each row is then its minute's weights by the formulas; where the rows of a gap begin.
-- Assumes nothing.
use mathlib.Core.Path.{◌≡◌, refl, ap}
use mathlib.Core.Bool.{Bool, true, false, cond, ◌&&◌}
use Prim.Native.Nat.{ℕ, ◌+◌, ◌*◌, ◌-◌, ◌≤◌, ◌<◌}
use native.Mathlib.Nat.{zero-add}
use native.Mathlib.Omega.{arith}
use borrow.Author.Tests.{lt-ltb, le-ltb}
use lib.Dec.{T}
use lib.IntN.{ℤ, pos}
use lib.ListN.{get_or}
use lib.Signed.{le_z}
use mir.Syntax.{w32}
use mir.Val.{to_z, of_z}
use Rattle.whole.proofs.Order.{≤ℤ_antisym}
use Rattle.whole.proofs.Solve.{both_l, both_r}
use Rattle.curve.specs.Formula.{power, worth}
use Rattle.gaps.specs.Limits.{upto}
use Rattle.gaps.proofs.Kept.{upto_at}
use Rattle.weight_sheet.specs.declared.Row.{Row}
use Rattle.std.specs.Prelude.{Some, None}
use Rattle.weight_sheet.specs.Sheet.{has, row, found, rows, sheet_row}
use Rattle.weight_sheet.proofs.Numbers.{numbers}

-- what the code reads at a place of the table, and of a row
abbrev pub number : ℕ → ℤ
number i = to_z w32 (of_z w32 (get_or numbers i (pos 0)))

abbrev pub read_row : ℕ → Row
read_row i = record { ordinate = number (3 * i); slope = number (3 * i + 1); curvature = number (3 * i + 2) }

abbrev same : ℤ → ℤ → Bool
same a b = le_z a b && le_z b a

abbrev same_row : Row → Row → Bool
same_row a b = same a.ordinate b.ordinate && same a.slope b.slope && same a.curvature b.curvature

abbrev right : ℕ → Bool
right i = same_row (read_row i) (sheet_row i)

-- the one test of the whole table
all_right : T (upto right (rows - 1))
unfolding upto sheet_row row worth power
all_right = tt

same_is : (a b : ℤ) → T (same a b) → a ≡ b
same_is a b t = ≤ℤ_antisym (record { le = both_l (le_z a b) (le_z b a) t }) (record { le = both_r (le_z a b) (le_z b a) t })

same_row_is : (a b : Row) → T (same_row a b) → a ≡ b
same_row_is a b t =
    let y = same a.ordinate b.ordinate in
    let m = same a.slope b.slope in
    let c = same a.curvature b.curvature in
    λ i.
    record {
      ordinate = same_is a.ordinate b.ordinate (both_l y m (both_l (y && m) c t)) i;
      slope = same_is a.slope b.slope (both_r y m (both_l (y && m) c t)) i;
      curvature = same_is a.curvature b.curvature (both_r (y && m) c t) i;
    }

-- each row of the table is the sheet's
pub rule : (i : ℕ) → i < rows → read_row i ≡ sheet_row i
rule i p = same_row_is (read_row i) (sheet_row i) (upto_at right (rows - 1) all_right i (omega arith))

-- ---- where a gap's rows begin

pub from_15 : (t : ℕ) → t ≤ 15 → sheet_row (0 + t) ≡ row 15 t
unfolding sheet_row
from_15 t p = rw (zero-add t, lt-ltb t 16 (omega arith)) refl

pub from_30 : (t : ℕ) → t ≤ 30 → sheet_row (16 + t) ≡ row 30 t
unfolding sheet_row
from_30 t p = rw (le-ltb (16 + t) 16 (omega arith), lt-ltb (16 + t) 47 (omega arith)) (ap (row 30) (omega arith))

pub from_60 : (t : ℕ) → t ≤ 60 → sheet_row (47 + t) ≡ row 60 t
unfolding sheet_row
from_60 t p = rw (le-ltb (47 + t) 16 (omega arith), le-ltb (47 + t) 47 (omega arith)) (ap (row 60) (omega arith))

pub ruleset begins = (from_15, from_30, from_60)

-- ---- what is found

-- a row that is found has the weights of its minute by their formulas
pub found_row : (h t : ℕ) {r : Row} → Some r ≡ found h t → r ≡ row h t
unfolding found
found_row h t e = go (has h t) e
  where
    go : (b : Bool) {r : Row} → Some r ≡ cond b (Some (row h t)) None → r ≡ row h t
    go true e = cc
    go false e = cc
