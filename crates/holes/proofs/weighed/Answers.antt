-- `holes::weighed` meets its contract: no step leaves 64 bits.
-- Assumes nothing.
use mathlib.Core.List.{List, [], ◌∷◌}
use mir.Syntax.{w64}
use Rattle.whole.proofs.Solve.{◌:+◌, ◌:*◌, v0 as y, v1 as u, v2 as z, v3 as v}
use Rattle.whole.proofs.Interval.{Iv, ±, ∈_abs}
use Rattle.whole.proofs.Machine.{Src, held, In, step, back}
use Rattle.curve.specs.Kind.{quintic}
use Rattle.holes.proofs.weighed.Goals as goal
use Rattle.holes.proofs.weighed.Goals.{Start}

abbrev args : Start → List Src
args c = held c.args.y ∷ held c.args.u ∷ held c.args.z ∷ held c.args.v ∷ []

abbrev tops : List Iv
tops = ± quintic.ordinates ∷ ± 65535 ∷ ± quintic.ordinates ∷ ± 65535 ∷ []

within : (c : Start) → In w64 (args c) tops
within c = let r = c.requires in record { each = (∈_abs r.y_bound.0, (∈_abs r.u_bound.0, (∈_abs r.y_bound.1, (∈_abs r.u_bound.1, tt)))) }

pub overflow_mul-result : goal.overflow_mul-result
unfolding quintic
overflow_mul-result c = step (within c) (y :* u) tt

pub overflow_mul-result-2 : goal.overflow_mul-result-2
unfolding quintic
overflow_mul-result-2 c = step (within c) (z :* v) tt

pub overflow_add-result : goal.overflow_add-result
unfolding quintic
overflow_add-result c = step (within c) (y :* u :+ z :* v) tt

pub returns : goal.returns
unfolding quintic
returns c = back (within c) (y :* u :+ z :* v) tt
