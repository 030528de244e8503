-- `numbers::scale`: the numbers of the first k pairs stand in both lists. Assumes nothing.
use Rattle.std.proofs.Common.{ℕ}
use Rattle.front.proofs.Filled.{Filled}
use Rattle.units.specs.Units.{held}
use Rattle.numbers.specs.Numbers.{slope_at, curvature_at}
use Rattle.numbers.proofs.scale.Given as goal

abbrev pub invariant-loop-k : goal.invariant-loop-k
invariant-loop-k l =
    record {
      slopes : Filled (λ (j : ℕ). held (slope_at l.pairs j)) l.k l.initial.slopes l.slopes;
      curvatures : Filled (λ (j : ℕ). held (curvature_at l.pairs j)) l.k l.initial.curvatures l.curvatures;
    }
