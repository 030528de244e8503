-- The zeros beside a knot's one number change no test of 8: it is met by S, P and H alone, and on the way
-- back by the curvature alone. Assumes nothing.
use mathlib.Core.Path.{◌≡◌, refl}
use mathlib.Core.Bool.{◌&&◌}
use lib.Ieee.{Float, of_bits}
use Rattle.rows.specs.Floats.{f0}
use Rattle.rows.specs.Equations.{pair}
use Rattle.elimination.specs.Refusal.{is_finite, both_finite, usable, passed}
use Rattle.lines.specs.Lines.{single}

pub single_passed : (s h p : Float) → passed s (single h p) ≡ (usable s && (is_finite p && is_finite h))
unfolding of_bits
single_passed s h p = refl

pub curvature_finite : (c : Float) → both_finite (pair f0 c) ≡ is_finite c
unfolding of_bits
curvature_finite c = refl
