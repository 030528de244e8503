-- `unknowns::first` meets its contract: (3.13) from its last term to the first.
-- Assumes nothing.
use mathlib.Core.Path.{◌≡◌, refl, ◌∙◌}
use mathlib.Core.List.{List, [], ◌∷◌}
use Prim.Native.Nat.{ℕ, suc, ◌+◌, ◌-◌, ◌*◌, ◌<◌}
use native.Mathlib.Omega.{arith}
use lib.IntN.{ℤ, pos, ◌-ℤ◌}
use lib.ListN.{length}
use mir.Syntax.{w64}
use Rattle.whole.specs.Whole.{◌·◌}
use Rattle.whole.proofs.Solve.{◌:-◌, ◌:*◌, v0, v1, v2}
use Rattle.whole.proofs.Interval.{◌to◌, ±}
use Rattle.whole.proofs.Machine.{held, bits, In, step, back}
use Rattle.curve.specs.Kind.{quintic}
use Rattle.cubic.specs.Cubic.{a, δ², sum, largest}
use Rattle.unknowns.proofs.Ranges.{most_unknown, entry_in, difference_in, sum_in}
use Rattle.unknowns.proofs.first.Goals as goal
use Rattle.unknowns.proofs.first.Goals.{After-second_difference, Start}

pub overflow_sub-inner : goal.overflow_sub-inner
unfolding quintic
overflow_sub-inner c = omega (arith, c.requires.least)

pub loop-k-init : goal.loop-k-init
unfolding sum
loop-k-init c = refl

terms : (c : After-second_difference) →
    In w64 (held c.entry.result ∷ held c.second_difference.result ∷ bits c.loop-k.total-bits ∷ [])
    (pos 1 to pos largest ∷ ± (4 * quintic.ordinates) ∷ ± most_unknown ∷ [])
terms c =
    let s = (goal.at.After-second_difference c).Start in
    let l = c.loop-k in
    let k : l.k < length s.args.ys.now - 2 = c.loop-k-test.true in
    record {
      each = (
        rw c.entry.ensures (entry_in l.k (omega (arith, s.requires.most, k))),
        (
          rw c.second_difference.ensures (difference_in s.requires (length s.args.ys.now - 2 - 1 - l.k) (omega (arith, k))),
          (rw l.invariant (sum_in s.requires (length s.args.ys.now - 2 - l.k) l.k (omega (arith, k))), tt),
        ),
      );
    }

pub overflow_mul-total : goal.overflow_mul-total
unfolding quintic
overflow_mul-total c = step (terms c) (v0 :* v1) tt

pub overflow_sub-total : goal.overflow_sub-total
unfolding quintic
overflow_sub-total c = step (terms c) (v0 :* v1 :- v2) tt

-- one more term
longer : (ys : List ℤ) (m k i j : ℕ) → m ≡ suc k → j ≡ suc i → a k · δ² ys i -ℤ sum ys j k ≡ sum ys i m
unfolding sum
longer ys m k i j e f = rw (e, f)

pub loop-k-preserved : goal.loop-k-preserved
unfolding quintic
loop-k-preserved c =
    let ys = c.args.ys.now in
    let l = c.loop-k in
    let k : l.k < length ys - 2 = c.loop-k-test.true in
    let same : length ys - 2 - 1 - l.k ≡ length ys - 2 - (l.k + 1) = omega arith in
    back (terms c) (v0 :* v1 :- v2) tt
    ∙ rw (c.entry.ensures, c.second_difference.ensures, l.invariant, same)
    (longer ys (l.k + 1) l.k (length ys - 2 - (l.k + 1)) (length ys - 2 - l.k) (omega arith) (omega (arith, k)))
