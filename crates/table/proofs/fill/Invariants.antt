-- `table::fill`: the readings that are done stand at the fronts of the three lists, and the gap at hand is that
-- of the next. Assumes nothing.
use Rattle.std.proofs.Common.{ℕ, ◌+◌, ◌≤◌, ◌<◌}
use Rattle.answer.specs.Answer.{accepted}
use Rattle.front.proofs.Filled.{Filled}
use Rattle.curve.proofs.Gap.{IsGap}
use Rattle.knots.specs.Lent.{lent}
use Rattle.lists.specs.Lists.{answer_at}
use Rattle.lists.specs.declared.Lists.{Lists}
use Rattle.lists.specs.declared.CardReading.{CardReading}
use Rattle.table.proofs.ByGap.{FilledOn}
use Rattle.table.proofs.fill.Given as goal

abbrev pub reading : Lists → ℕ → ℕ → CardReading
reading lists from i = answer_at accepted (lent lists.minutes.now lists.ordinates.now lists.slopes.now lists.curvatures.now 0 0) (from + i)

abbrev pub invariant-loop-j : goal.invariant-loop-j
invariant-loop-j l = (l.done ≤ l.count)
    × (l.done < l.count → IsGap l.xs (l.from + l.done) l.j)
    × Filled (λ i. (reading l.lists l.from i).value) l.done l.initial.values l.values
    × Filled (λ i. (reading l.lists l.from i).slope) l.done l.initial.slopes l.slopes
    × Filled (λ i. (reading l.lists l.from i).curvature) l.done l.initial.curvatures l.curvatures

abbrev pub invariant-loop-i : goal.invariant-loop-i
invariant-loop-i l =
    FilledOn (λ i. (reading l.lists l.from i).value) l.done l.i l.initial.values l.values
    × FilledOn (λ i. (reading l.lists l.from i).slope) l.done l.i l.initial.slopes l.slopes
    × FilledOn (λ i. (reading l.lists l.from i).curvature) l.done l.i l.initial.curvatures l.curvatures
