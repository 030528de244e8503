-- The knots of a sheet, given as minutes and ordinates, in the elimination: which gaps lie beside knot i and which end
-- it is, after document 01's "The equations"; and which slopes, where they are given too (document 02, order
-- 8). Assumes nothing; read for rising minutes and lists of one length.
use Rattle.std.specs.Prelude.{ℕ, zero, suc, ◌+◌, ◌-◌, ◌<◌, Bool, cond, List, eqb, length, get_or, ℤ, pos, Float, Option}
use Rattle.rows.specs.declared.Gap.{Gap}
use Rattle.elimination.specs.declared.State.{State}
use Rattle.rows.specs.declared.End.{End}
use Rattle.rows.specs.declared.End.TheVariants.{Free}
use Rattle.rows.specs.Floats.{f0}
use Rattle.rows.specs.Equations.{gap, no_gap, equations}
use Rattle.elimination.specs.Refusal.{eliminated}
use Rattle.lines.specs.Lines.{hundredths, line, line_eliminated}

-- the most knots that a sheet may have
abbrev pub most : ℕ
most = 64

-- each minute is above the one before
abbrev pub Rising : List ℕ → Type 0
Rising minutes = (k : ℕ) → k + 1 < length minutes → get_or minutes k 0 < get_or minutes (k + 1) 0

abbrev pub is_last : ℕ → ℕ → Bool
is_last n i = eqb (i + 1) n

-- the kind of end that knot i of n is; an inner knot keeps both rows, as a free end does
unfoldable pub end_of : ℕ → End → End → ℕ → End
end_of n left right i = cond (eqb i 0) left (cond (is_last n i) right Free)

-- knot i of n between the gaps p and g, given what elimination left of the knot before
unfoldable pub knot_between : ℕ → End → End → Gap → Gap → State → ℕ → Option State
knot_between n left right p g before i = eliminated (equations p g (end_of n left right i)) before (eqb i 0) (is_last n i)

-- ---- slopes given, one for each knot

module _ (slopes : List ℤ) where
  abbrev pub slope_of : ℕ → Float
  slope_of i = hundredths (get_or slopes i (pos 0))

  -- "a missing neighbour's is 0"
  unfoldable pub slope_before : ℕ → Float
  slope_before i = cond (eqb i 0) f0 (slope_of (i - 1))

  unfoldable pub slope_after : ℕ → Float
  slope_after i = cond (is_last (length slopes) i) f0 (slope_of (i + 1))

  -- knot i between the gaps p and g, given what elimination left of the knot before
  unfoldable pub line_between : Gap → Gap → State → ℕ → Option State
  line_between p g before i = line_eliminated (line p g (slope_before i) (slope_of i) (slope_after i)) before (eqb i 0) (is_last (length slopes) i)

-- ---- a sheet

module _ (minutes : List ℕ) (ordinates : List ℤ) where
  -- from knot i to the next
  abbrev pub gap_from : ℕ → Gap
  gap_from i = gap (get_or minutes (i + 1) 0 - get_or minutes i 0) (get_or ordinates i (pos 0)) (get_or ordinates (i + 1) (pos 0))

  -- the gap on the right of knot i: the last has none
  unfoldable pub right_gap : ℕ → Gap
  right_gap i = cond (is_last (length minutes) i) no_gap (gap_from i)

  -- the gap on the left of knot i: the first has none
  unfoldable pub left_gap : ℕ → Gap
  left_gap zero = no_gap
  left_gap (suc i) = right_gap i

  -- what the forward pass does at knot i
  unfoldable pub knot_at : End → End → State → ℕ → Option State
  knot_at left right before i = knot_between (length minutes) left right (left_gap i) (right_gap i) before i

  -- the same of order 8
  unfoldable pub line_at : (slopes : List ℤ) → State → ℕ → Option State
  line_at slopes before i = line_between slopes (left_gap i) (right_gap i) before i
