-- What a pass does at a knot by its job: document 01's, slopes and curvatures between two ends; or document
-- 02's order 8, curvatures by the slopes given. Assumes nothing.
use Rattle.std.specs.Prelude.{ℕ, List, ℤ, length, Option}
use Rattle.rows.specs.declared.Pair.{Pair}
use Rattle.rows.specs.declared.Gap.{Gap}
use Rattle.elimination.specs.declared.State.{State}
use Rattle.elimination.specs.Elimination.{backward}
use Rattle.lines.specs.Lines.{line_back}
use Rattle.passes.specs.declared.Job.{Job}
use Rattle.passes.specs.declared.Job.TheVariants.{Ends, Slopes}
use Rattle.passes.specs.Sheet.{knot_between, line_between, knot_at, line_at}

-- between two gaps, with as many knots as slopes
abbrev pub between_by : List ℤ → Job → Gap → Gap → State → ℕ → Option State
between_by slopes (Ends left right) = knot_between (length slopes) left right
between_by slopes Slopes = line_between slopes

-- forward
abbrev pub step_by : List ℕ → List ℤ → List ℤ → Job → State → ℕ → Option State
step_by minutes ordinates slopes (Ends left right) = knot_at minutes ordinates left right
step_by minutes ordinates slopes Slopes = line_at minutes ordinates slopes

-- back
abbrev pub turn_by : Job → State → Pair → Pair
turn_by (Ends left right) = backward
turn_by Slopes = line_back
