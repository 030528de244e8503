-- `passes::pairs_of`: the way back has come over the last j knots. Assumes nothing.
use Rattle.std.proofs.Common.{◌≡◌, ℕ, ◌-◌, ◌<◌, ◌≤◌, length, get_or}
use Rattle.passes.specs.Sheet.{most}
use Rattle.passes.specs.Jobs.{turn_by}
use Rattle.passes.specs.Forward.{no_state}
use Rattle.passes.specs.Back.{back, back_to, pair_at, no_pair}
use Rattle.passes.proofs.pairs_of.Given as goal

abbrev pub invariant-loop-j : goal.invariant-loop-j
invariant-loop-j l =
    record {
      way : back_to (turn_by l.job) (λ k. get_or l.states k no_state) l.n l.j ≡ back l.next;
      room : length l.pairs ≡ most;
      pairs : (k : ℕ) → l.n - l.j ≤ k → k < most → get_or l.pairs k no_pair ≡ pair_at (turn_by l.job) (λ k. get_or l.states k no_state) l.n k;
    }
