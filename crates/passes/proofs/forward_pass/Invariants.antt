-- `passes::forward_pass`: the knots below i are eliminated. Assumes nothing.
use Rattle.std.proofs.Common.{◌≡◌, ℕ, ◌<◌, length, get_or}
use Rattle.passes.specs.Sheet.{most, left_gap}
use Rattle.passes.specs.Jobs.{step_by}
use Rattle.passes.specs.Forward.{going, run_to, state_at, no_state}
use Rattle.passes.proofs.forward_pass.Given as goal

abbrev pub invariant-loop-i : goal.invariant-loop-i
invariant-loop-i l =
    record {
      run : run_to (step_by l.minutes l.ordinates l.slopes l.job) l.i ≡ going l.before;
      left : l.p ≡ left_gap l.minutes l.ordinates l.i;
      room : length l.states ≡ most;
      states : (k : ℕ) → k < l.i → get_or l.states k no_state ≡ state_at (step_by l.minutes l.ordinates l.slopes l.job) k;
    }
