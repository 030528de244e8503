-- `decode::Card::of` meets its contract: a loop that fills four arrays.
-- Assumes nothing.
use Prim.Native.Nat.{◌-◌, ◌≤◌}
use mathlib.Core.Path.{◌≡◌, ◌∙◌}
use native.Mathlib.Omega.{arith}
use mir.Syntax.{w16, w32}
use Rattle.front.proofs.Filled.{Filled, filled_none, filled_more}
use Rattle.little_endian.proofs.Signs.{passed}
use Rattle.decode.specs.Decoded.{held}
use Rattle.card_bytes.specs.Held.{minute_at, ordinate_at, slope_at, curvature_at}
use borrow.Author.Rules.{rules}
use Rattle.decode.proofs.Card.of.Goals as goal
use Rattle.decode.proofs.Card.of.Goals.{At-loop-i}

pub loop-i-init : goal.loop-i-init
loop-i-init c = (omega arith, filled_none, filled_none, filled_none, filled_none)

pub loop-i-preserved : goal.loop-i-preserved
loop-i-preserved c =
    let l = (goal.at.loop-i-preserved c).At-loop-i in
    let v = l.loop-i.invariant in (
      omega arith,
      filled_more v.1 (omega arith) c.read_u16.ensures,
      filled_more v.2 (omega arith) (passed w16 c.read_i16.result c.read_i16.type_inv ∙ c.read_i16.ensures),
      filled_more v.3 (omega arith) (passed w32 c.read_i32.result c.read_i32.type_inv ∙ c.read_i32.ensures),
      filled_more v.4 (omega arith) (passed w32 c.read_i32-in-loop-i.result c.read_i32-in-loop-i.type_inv ∙ c.read_i32-in-loop-i.ensures),
    )

pub returns : goal.returns
unfolding held
returns c =
    let l = (goal.at.returns c).At-loop-i in
    let v = l.loop-i.invariant in
    let n = l.read_u16-n.ensures in
    let e : l.loop-i.i ≡ l.read_u16-n.result = omega arith in
    rw (v.1.is, v.2.is, v.3.is, v.4.is, e, n, c.read_u16-2.ensures, c.read_u16-3.ensures)
