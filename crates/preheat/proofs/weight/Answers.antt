-- `preheat::weight` meets its contract.
-- Assumes nothing.
use mathlib.Core.List.{[], ◌∷◌}
use mir.Syntax.{w64}
use Rattle.whole.proofs.Solve.{◌:-◌, ◌:*◌, v0 as q, v1 as r}
use Rattle.whole.proofs.Interval.{±, ∈_abs}
use Rattle.whole.proofs.Machine.{held, In, step, back}
use Rattle.preheat.specs.Preheat.{most_parts}
use Rattle.preheat.proofs.weight.Goals as goal
use Rattle.preheat.proofs.weight.Goals.{Start}

within : (c : Start) → In w64 (held c.args.q ∷ held c.args.r ∷ []) (± most_parts ∷ ± most_parts ∷ [])
within c = record { each = (∈_abs c.requires.0, (∈_abs c.requires.1, tt)) }

pub overflow_mul-result : goal.overflow_mul-result
overflow_mul-result c = step (within c) (q :* q) tt

pub overflow_mul-result-2 : goal.overflow_mul-result-2
overflow_mul-result-2 c = step (within c) (q :* q :* r) tt

pub overflow_mul-result-3 : goal.overflow_mul-result-3
overflow_mul-result-3 c = step (within c) (r :* r) tt

pub overflow_mul-result-4 : goal.overflow_mul-result-4
overflow_mul-result-4 c = step (within c) (r :* r :* r) tt

pub overflow_sub-result : goal.overflow_sub-result
overflow_sub-result c = step (within c) (q :* q :* r :- r :* r :* r) tt

pub returns : goal.returns
returns c = back (within c) (q :* q :* r :- r :* r :* r) tt
