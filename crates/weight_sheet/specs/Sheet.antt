-- Document 02, order 5: for which gaps and minutes the fitters' sheet has the left knot's weights, and in which row. Assumes nothing.
use Rattle.std.specs.Prelude.{ℕ, ◌-◌, Bool, cond, ◌&&◌, ◌||◌, eqb, leb, ltb, pos, Option, Some, None}
use Rattle.curve.specs.Formula.{num, worth}
use Rattle.weight_sheet.specs.declared.Row.{Row}
use Rattle.weight_sheet.specs.Weight.{ordinate_weight, slope_weight, curvature_weight}

-- the gaps of the sheet
abbrev pub on_sheet : ℕ → Bool
on_sheet h = eqb h 15 || eqb h 30 || eqb h 60

-- and of those their minutes, from 0 to the gap
abbrev pub has : ℕ → ℕ → Bool
has h t = on_sheet h && leb t h

-- the weights of minute t of a gap h, by their formulas
unfoldable pub row : ℕ → ℕ → Row
row h t =
    record {
      ordinate = worth (ordinate_weight (num (pos h))) (pos t);
      slope = worth (slope_weight (num (pos h))) (pos t);
      curvature = worth (curvature_weight (num (pos h))) (pos t);
    }

-- what the sheet has of that minute
unfoldable pub found : ℕ → ℕ → Option Row
found h t = cond (has h t) (Some (row h t)) None

-- ---- inside

-- 16 rows for 15 minutes, 31 for 30, 61 for 60
abbrev pub rows : ℕ
rows = 108

-- the sheet row by row
unfoldable pub sheet_row : ℕ → Row
sheet_row i = cond (ltb i 16) (row 15 i) (cond (ltb i 47) (row 30 (i - 16)) (row 60 (i - 47)))
