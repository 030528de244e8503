-- The knots of a sheet with its logs, as they were read: each knot is written down in the sheet, or is the mean of its log. Document 02, order 4.
-- Assumes nothing.
use Rattle.std.specs.Prelude.{ℕ, zero, suc, ◌*◌, false, cond, List, [], ◌∷◌, pos, take, drop, get_or}
use Rattle.text.specs.declared.Sheet.{Sheet}
use Rattle.gather.specs.declared.Knot.{Knot}
use Rattle.gather.specs.declared.Gathered.{Gathered}
use Rattle.gather.specs.Gathered.{plain, logged, gathering, settled}

-- the bytes that the logs have for each knot: one for the number of its log's, and 61 for them
abbrev pub slot : ℕ
slot = 62

-- the log of knot i: as many bytes as the first one of its slot says, as far as there are so many
unfoldable pub log_at : (logs : List ℕ) → ℕ → List ℕ
log_at logs i = let s = drop (slot * i) logs in take (get_or s 0 0) (drop 1 s)

unfoldable pub knot_at : Sheet → (logs : List ℕ) → ℕ → Knot
knot_at a logs i = cond (get_or a.logs i false) (logged (get_or a.minutes i 0) (log_at logs i)) (plain (get_or a.minutes i 0) (get_or a.ordinates i (pos 0)))

-- n of them, from knot i on
unfoldable pub knots_from : Sheet → (logs : List ℕ) → (i n : ℕ) → List Knot
knots_from a logs i zero = []
knots_from a logs i (suc n) = knot_at a logs i ∷ knots_from a logs (suc i) n

-- 1, 2, then the first log's refusal with the knot as place; or all of them
abbrev pub gathered : Sheet → (logs : List ℕ) → Gathered
gathered a logs = settled (gathering (knots_from a logs 0 a.knots))
