-- A knot's line, the knot eliminated behind another, and the way back to it, by the bits of their numbers,
-- computed: gaps that are no powers of two, so that each rounding counts. Assumes nothing.
use Prim.Native.Nat.{ℕ}
use mathlib.Core.Path.{◌≡◌, refl}
use mathlib.Core.Bool.{true, false}
use lib.IntN.{pos}
use lib.Ieee.{Float, binary64, of_bits, of_int, add, sub, mul, div, neg, ne}
use Rattle.whole.specs.Whole.{minus}
use Rattle.rows.specs.declared.Gap.{Gap}
use Rattle.rows.specs.Floats.{f0}
use Rattle.rows.specs.Equations.{pair, gap, no_gap}
use Rattle.elimination.specs.declared.State.{State}
use Rattle.elimination.specs.Elimination.{zero_state}
use Rattle.elimination.specs.Refusal.{left_by_step}
use Rattle.lines.specs.declared.Line.{Line}
use Rattle.lines.specs.Lines.{hundredths, line, single, line_solved, line_eliminated, line_back}

abbrev bits : ℕ → Float
bits = of_bits binary64

-- 20 minutes down from 2200 to 1400, then 15 up to 1800
abbrev down : Gap
down = gap 20 (pos 2200) (pos 1400)

abbrev up : Gap
up = gap 15 (pos 1400) (pos 1800)

-- the slopes of their knots
abbrev from : Float
from = hundredths (minus 327_000)

abbrev here : Float
here = hundredths (minus 2_400)

abbrev to : Float
to = hundredths (pos 214_500)

-- the first knot
abbrev first : State
first = left_by_step (line_eliminated (line no_gap down f0 from here) zero_state true false)

-- and the one between the gaps
abbrev between : Line
between = line down up from here to

abbrev wanted : State
wanted = single (bits 0xbfc9_9999_9999_999a) (bits 0x4009_768e_38e3_8e3c)

pub by_their_bits :
    (between ≡ record { a = bits 0x3fd6_6666_6666_6666; l = bits 0xbfa9_9999_9999_999a; r = bits 0xbfb1_1111_1111_1111; k = bits 0x3fed_9cbd_a12f_6850 })
    × (first ≡ single (bits 0xbfd5_5555_5555_5555) (bits 0x4005_b155_5555_5554))
    × (left_by_step (line_eliminated between first false false) ≡ wanted)
    × (line_back wanted (pair f0 (bits 0x4009_cb05_449b_6cf1)) ≡ pair f0 (bits 0x400e_9f28_e035_d739))
unfolding gap no_gap line_solved line_eliminated of_bits of_int add sub mul div neg ne
by_their_bits = (refl, refl, refl, refl)
