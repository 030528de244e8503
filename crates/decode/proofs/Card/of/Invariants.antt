-- `decode::Card::of` meets its contract: a loop that fills four arrays.
-- Assumes nothing.
use Prim.Native.Nat.{◌-◌, ◌≤◌}
use mathlib.Core.Path.{◌≡◌, ◌∙◌}
use native.Mathlib.Omega.{arith}
use mir.Syntax.{w16, w32}
use Rattle.front.proofs.Filled.{Filled, filled_none, filled_more}
use Rattle.little_endian.proofs.Signs.{passed}
use Rattle.decode.specs.Decoded.{held}
use Rattle.card_bytes.specs.Held.{minute_at, ordinate_at, slope_at, curvature_at}
use borrow.Author.Rules.{rules}
use Rattle.decode.proofs.Card.of.Given as goal

abbrev pub invariant-loop-i : goal.invariant-loop-i
invariant-loop-i l = (l.i ≤ l.n) × Filled (minute_at l.list) l.i l.initial.minutes l.minutes × Filled (ordinate_at l.list) l.i l.initial.ordinates l.ordinates × Filled (slope_at l.list) l.i l.initial.slopes l.slopes × Filled (curvature_at l.list) l.i l.initial.curvatures l.curvatures
