-- `preheat::bent` meets its contract.
-- Assumes nothing.
use mathlib.Core.List.{[], ◌∷◌}
use Prim.Native.Nat.{◌*◌}
use mir.Syntax.{w64}
use Rattle.whole.proofs.Solve.{◌:-◌, ◌:*◌, v0 as x, v1 as w, v2 as w', v3 as z, v4 as z'}
use Rattle.whole.proofs.Interval.{±, ∈_abs}
use Rattle.whole.proofs.Machine.{held, In, step, back}
use Rattle.cubic.specs.Cubic.{largest}
use Rattle.preheat.specs.Preheat.{most_cube}
use Rattle.preheat.proofs.bent.Goals as goal
use Rattle.preheat.proofs.bent.Goals.{Start}

within : (c : Start) →
    In w64 (held c.args.x ∷ held c.args.w0 ∷ held c.args.w1 ∷ held c.args.z0 ∷ held c.args.z1 ∷ [])
    (± (largest * most_cube) ∷ ± (2 * most_cube) ∷ ± (2 * most_cube) ∷ ± largest ∷ ± largest ∷ [])
within c = let p = c.requires.weights in record { each = (∈_abs c.requires.x_in, (∈_abs p.w_in, (∈_abs p.w'_in, (∈_abs p.z_in, (∈_abs p.z'_in, tt))))) }

pub overflow_mul-result : goal.overflow_mul-result
overflow_mul-result c = step (within c) (w :* z) tt

pub overflow_sub-result : goal.overflow_sub-result
overflow_sub-result c = step (within c) (x :- w :* z) tt

pub overflow_mul-result-2 : goal.overflow_mul-result-2
overflow_mul-result-2 c = step (within c) (w' :* z') tt

pub overflow_sub-result-2 : goal.overflow_sub-result-2
overflow_sub-result-2 c = step (within c) (x :- w :* z :- w' :* z') tt

pub returns : goal.returns
returns c = back (within c) (x :- w :* z :- w' :* z') tt
