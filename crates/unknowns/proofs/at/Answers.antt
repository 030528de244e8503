-- `unknowns::at` meets its contract: the continuity equation, from the first two unknowns on.
-- Assumes nothing.
use mathlib.Core.Path.{◌≡◌, refl, ◌∙◌, ap}
use mathlib.Core.List.{List, [], ◌∷◌}
use Prim.Native.Nat.{ℕ, suc, ◌+◌, ◌-◌, ◌*◌, ◌<◌}
use native.Mathlib.Omega.{arith}
use lib.IntN.{ℤ, pos, ◌-ℤ◌}
use lib.ListN.{length}
use mir.Syntax.{w64}
use mir.Facts.{to_z-of_z}
use Rattle.whole.specs.Whole.{◌·◌}
use Rattle.whole.proofs.Solve.{◌:-◌, ◌:*◌, #, v0, v1, v2, v3}
use Rattle.whole.proofs.Interval.{◌to◌, ±}
use Rattle.whole.proofs.Machine.{held, bits, In, step, back}
use Rattle.curve.specs.Kind.{quintic}
use Rattle.cubic.specs.Cubic.{a, scale, δ², unknown, largest}
use Rattle.unknowns.proofs.Ranges.{most_unknown, entered, entry_in, difference_in, unknown_in}
use Rattle.unknowns.proofs.at.Goals as goal
use Rattle.unknowns.proofs.at.Goals.{After-second_difference, Start}

pub loop-i-init : goal.loop-i-init
unfolding unknown
loop-i-init c = (refl, to_z-of_z {w = w64} (record { sfits = c.first-next.type_inv }) ∙ c.first-next.ensures)

terms : (c : After-second_difference) →
    In w64 (held c.entry-scale.result ∷ held c.second_difference.result ∷ bits c.loop-i.next-bits ∷ bits c.loop-i.here-bits ∷ [])
    (pos 1 to pos largest ∷ ± (4 * quintic.ordinates) ∷ ± most_unknown ∷ ± most_unknown ∷ [])
terms c =
    let s = (goal.at.After-second_difference c).Start in
    let l = c.loop-i in
    let i : l.i + 2 < length s.args.ys.now = omega (arith, s.requires.place_in_bounds, c.loop-i-test.true) in
    record {
      each = (
        rw c.entry-scale.ensures (entry_in (length s.args.ys.now - 2) (entered s.requires.sound)),
        (
          rw c.second_difference.ensures (difference_in s.requires.sound l.i i),
          (rw l.invariant.1 (unknown_in s.requires.sound (suc l.i) (omega (arith, i))), (rw l.invariant.0 (unknown_in s.requires.sound l.i (omega (arith, i))), tt)),
        ),
      );
    }

pub overflow_mul-after : goal.overflow_mul-after
unfolding quintic
overflow_mul-after c = step (terms c) (v0 :* v1) tt

pub overflow_mul-after-in-loop-i : goal.overflow_mul-after-in-loop-i
unfolding quintic
overflow_mul-after-in-loop-i c = step (terms c) (# 4 :* v2) tt

pub overflow_sub-after : goal.overflow_sub-after
unfolding quintic
overflow_sub-after c = step (terms c) (v0 :* v1 :- # 4 :* v2) tt

pub overflow_sub-after-in-loop-i : goal.overflow_sub-after-in-loop-i
unfolding quintic
overflow_sub-after-in-loop-i c = step (terms c) (v0 :* v1 :- # 4 :* v2 :- v3) tt

-- the next unknown
onward : (ys : List ℤ) (i m : ℕ) → m ≡ suc i → a (length ys - 2) · δ² ys i -ℤ 4 · unknown ys (suc i) -ℤ unknown ys i ≡ unknown ys (suc m)
unfolding unknown scale
onward ys i m e = rw e

pub loop-i-preserved : goal.loop-i-preserved
unfolding quintic
loop-i-preserved c =
    let ys = c.args.ys.now in
    let l = c.loop-i in
    let one_more : suc l.i ≡ l.i + 1 = omega arith in (
      l.invariant.1 ∙ ap (λ k. unknown ys k) one_more,
      back (terms c) (v0 :* v1 :- # 4 :* v2 :- v3) tt
          ∙ rw (c.entry-scale.ensures, c.second_difference.ensures, l.invariant.1, l.invariant.0) (onward ys l.i (l.i + 1) (omega arith)),
    )
