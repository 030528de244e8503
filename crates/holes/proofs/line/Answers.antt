-- `holes::line` meets its contract: sum and value fit their widths.
-- Assumes nothing.
use mathlib.Core.Path.{◌≡◌, ap, ◌∙◌}
use Prim.Native.Nat.{◌+◌}
use native.Mathlib.Omega.{arith}
use lib.IntN.{pos, ◌+ℤ◌, ◌*ℤ◌}
use mir.Syntax.{w16, w64}
use mir.Val.{to_z, of_z}
use mir.Facts.{to_z-of_z}
use Rattle.whole.specs.Whole.{nearest}
use Rattle.curve.specs.Kind.{quintic}
use Rattle.whole.proofs.Widened.{widened_fits, widened_is}
use Rattle.holes.specs.Hole.{line}
use Rattle.holes.proofs.Lines.{weighed_most, line_fits}
use Rattle.holes.proofs.line.Goals as goal
use Rattle.holes.proofs.line.Goals.{After-nearest, After-weighed-sum, Start}

pub overflow_cast-y : goal.overflow_cast-y
overflow_cast-y c = widened_fits w64 c.ranges.y (omega arith)

pub overflow_cast-z : goal.overflow_cast-z
overflow_cast-z c = widened_fits w64 c.ranges.z (omega arith)

-- what is handed on is what came, in 64 bits
record Handed (c : Start) : Type 0 where
  y_is : to_z w64 (of_z w64 (to_z w16 (of_z w16 c.args.y))) ≡ c.args.y
  u_is : to_z w64 c.args.u ≡ pos c.args.u
  z_is : to_z w64 (of_z w64 (to_z w16 (of_z w16 c.args.z))) ≡ c.args.z
  v_is : to_z w64 c.args.v ≡ pos c.args.v

handed : (c : Start) → Handed c
handed c =
    record {
      y_is = widened_is w64 c.ranges.y (omega arith);
      u_is = to_z-of_z {w = w64} {z = pos c.args.u} (record { sfits = omega (arith, c.requires.u_in) });
      z_is = widened_is w64 c.ranges.z (omega arith);
      v_is = to_z-of_z {w = w64} {z = pos c.args.v} (record { sfits = omega (arith, c.requires.v_in) });
    }

pub weighed-sum-requires : goal.weighed-sum-requires
weighed-sum-requires c =
    let h = handed c in
    rw (h.y_is, h.u_is, h.z_is, h.v_is) (record { y_bound = (c.requires.y_in, c.requires.z_in); u_bound = (c.requires.u_in, c.requires.v_in) })

sum_is : (c : After-weighed-sum) → (let a = c.args in c.weighed-sum.result ≡ a.y *ℤ pos a.u +ℤ a.z *ℤ pos a.v)
sum_is c =
    let h = handed (goal.at.After-weighed-sum c).Start in
    rw (h.y_is, h.u_is, h.z_is, h.v_is) at c.weighed-sum.ensures

sum_kept : (c : After-weighed-sum) → to_z w64 (of_z w64 c.weighed-sum.result) ≡ c.weighed-sum.result
sum_kept c = to_z-of_z {w = w64} (record { sfits = c.weighed-sum.type_inv })

pub nearest-requires : goal.nearest-requires
unfolding quintic
nearest-requires c =
    let a = c.args in
    let w = c.requires in
    let size = weighed_most a.y a.u a.z a.v quintic.ordinates w.y_in w.z_in in record { d_nonzero = omega (arith, w.some); n_bound = rw (sum_kept c, sum_is c) (omega (arith, size, w.u_in, w.v_in)) }

value_is : (c : After-nearest) → (let a = c.args in to_z w64 (of_z w64 c.nearest.result) ≡ line a.y a.u a.z a.v)
unfolding line
value_is c =
    let a = c.args in
    to_z-of_z {w = w64} (record { sfits = c.nearest.type_inv }) ∙ c.nearest.ensures ∙ ap (λ n. nearest n (a.u + a.v)) (sum_kept (goal.at.After-nearest c).After-weighed-sum ∙ sum_is (goal.at.After-nearest c).After-weighed-sum)

pub overflow_cast-result : goal.overflow_cast-result
overflow_cast-result c = rw (value_is c) (line_fits c.requires)

pub returns : goal.returns
returns c = rw (value_is c) (to_z-of_z {w = w16} (line_fits c.requires))
