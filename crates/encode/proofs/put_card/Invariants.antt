-- `encode::put_card` meets its contract: head, knots and end are one run.
-- Assumes nothing.
use Prim.Native.Nat.{◌*◌, ◌-◌, ◌≤◌}
use mathlib.Core.Path.{◌≡◌, refl}
use mathlib.Core.List.{◌++◌}
use native.Mathlib.Omega.{arith}
use lib.ListN.{length, get_or}
use lib.IntN.{pos}
use lib.Seq.{sets}
use mir.Syntax.{w16, w32}
use Rattle.little_endian.proofs.Signs.{passed}
use Rattle.little_endian.proofs.Stores.{then}
use Rattle.curve.specs.Card.{knots, knot}
use Rattle.knots.specs.Lent.{card_lent}
use Rattle.card_bytes.specs.Bytes.{head_bytes, end_bytes, rows, knot_row, bytes_of}
use Rattle.card_bytes.specs.Held.{start}
use Rattle.card_bytes.proofs.Rows.{rows_more}
use Rattle.card_bytes.proofs.Sizes.{length_head, length_knots}
use Rattle.encode.proofs.put_card.Given as goal

abbrev pub invariant-loop-row : goal.invariant-loop-row
invariant-loop-row l = (l.row ≤ l.n) × (length l.buffer ≡ length l.initial.buffer) × (l.buffer ≡ sets l.initial.buffer 10 (rows (knot_row (card_lent l.card)) 0 l.row))
