-- `Lists::spans` asks only what its lists keep.
-- Assumes nothing.
use native.Mathlib.Omega.{arith}
use mir.Syntax.{w64}
use mir.Facts.{to_z_pos}
use Rattle.jumps.proofs.Comparing.{right_held}
use Rattle.lists.proofs.Settled.{settled_knot}
use Rattle.lists.proofs.Lists.spans.Goals as goal

pub of-requires-clause-held : goal.of-requires-clause-held
of-requires-clause-held c =
    let s = c.args.self in
    let h = to_z_pos w64 {n = c.right_gap-h.result} (omega (arith, c.right_gap-h.type_inv)) in
    rw (h, c.right_gap-h.ensures, c.knot.ensures, c.knot-after.ensures, c.on.ensures)
    (right_held (settled_knot s.checked c.args.i c.requires 0 (omega arith)).beside)
