-- `unknowns::second_difference` meets its contract.
-- Assumes nothing.
use mathlib.Core.Path.{◌≡◌, ◌∙◌}
use mathlib.Core.List.{[], ◌∷◌}
use Prim.Native.Nat.{suc, ◌+◌}
use native.Mathlib.Omega.{arith}
use mir.Syntax.{w64}
use Rattle.whole.proofs.Solve.{◌:+◌, ◌:-◌, ◌:*◌, #, v0, v1, v2}
use Rattle.whole.proofs.Interval.{±, ∈_abs}
use Rattle.whole.proofs.Machine.{held, In, step, back}
use Rattle.curve.specs.Kind.{quintic}
use Rattle.cubic.specs.Cubic.{δ²}
use Rattle.unknowns.proofs.second_difference.Goals as goal
use Rattle.unknowns.proofs.second_difference.Goals.{After-value_at-2, After-value_at-3, Start}

two : (c : After-value_at-2) → In w64 (held c.value_at.result ∷ held c.value_at-2.result ∷ []) (± quintic.ordinates ∷ ± quintic.ordinates ∷ [])
two c =
    let s = (goal.at.After-value_at-2 c).Start in
    record {
      each = (
        ∈_abs (rw c.value_at.ensures (s.requires.sound.within.each s.args.i (omega arith))),
        (∈_abs (rw c.value_at-2.ensures (s.requires.sound.within.each (s.args.i + 1) (omega arith))), tt),
      );
    }

pub overflow_mul-result : goal.overflow_mul-result
unfolding quintic
overflow_mul-result c = step (two c) (# 2 :* v1) tt

pub overflow_sub-result : goal.overflow_sub-result
unfolding quintic
overflow_sub-result c = step (two c) (v0 :- # 2 :* v1) tt

three : (c : After-value_at-3) → In w64 (held c.value_at.result ∷ held c.value_at-2.result ∷ held c.value_at-3.result ∷ []) (± quintic.ordinates ∷ ± quintic.ordinates ∷ ± quintic.ordinates ∷ [])
three c =
    let s = (goal.at.After-value_at-3 c).Start in
    record {
      each = (
        (two (goal.at.After-value_at-3 c).After-value_at-2).each.0,
        ((two (goal.at.After-value_at-3 c).After-value_at-2).each.1.0, (∈_abs (rw c.value_at-3.ensures (s.requires.sound.within.each (s.args.i + 2) (omega arith))), tt)),
      );
    }

pub overflow_add-result : goal.overflow_add-result
unfolding quintic
overflow_add-result c = step (three c) (v0 :- # 2 :* v1 :+ v2) tt

pub returns : goal.returns
unfolding quintic δ²
returns c =
    let s = (goal.at.returns c).Start in
    let one_more : s.args.i + 1 ≡ suc s.args.i = omega arith in
    let two-more : s.args.i + 2 ≡ suc (suc s.args.i) = omega arith in
    back (three c) (v0 :- # 2 :* v1 :+ v2) tt ∙ rw (c.value_at.ensures, c.value_at-2.ensures, c.value_at-3.ensures, one_more, two-more)
