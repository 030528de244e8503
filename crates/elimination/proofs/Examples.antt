-- A knot eliminated behind another, and the way back to it, by the bits of their numbers, computed: gaps that
-- are no powers of two, so that each rounding counts. The last pair is that of the independent reading of
-- document 01 (tests/independent), which has it in a test of its own. Assumes nothing.
use mathlib.Core.Path.{◌≡◌, refl}
use mathlib.Core.Bool.{true, false}
use Prim.Native.Nat.{ℕ}
use lib.IntN.{pos}
use lib.Ieee.{Float, binary64, of_bits, of_int, add, sub, mul, div, neg, ne}
use Rattle.rows.specs.declared.Gap.{Gap}
use Rattle.rows.specs.declared.End.TheVariants.{Free}
use Rattle.rows.specs.Equations.{pair, block, gap, no_gap, equations}
use Rattle.elimination.specs.declared.State.{State}
use Rattle.elimination.specs.Elimination.{system, zero_state, backward}
use Rattle.elimination.specs.Refusal.{solved, eliminated, left_by_step}

abbrev bits : ℕ → Float
bits = of_bits binary64

-- 20 minutes down from 2200 to 1400, then 15 up to 1800
abbrev down : Gap
down = gap 20 (pos 2200) (pos 1400)

abbrev up : Gap
up = gap 15 (pos 1400) (pos 1800)

-- the knot between them
abbrev between : State
between = left_by_step (eliminated (equations down up Free) (left_by_step (eliminated (equations no_gap down Free) zero_state true false)) false false)

abbrev wanted : State
wanted =
    record {
      h = block (bits 0x3feb_b0a2_427d_c04f) (bits 0xbfff_94c4_79b1_de4a) (bits 0xbf88_74df_c0fa_3545) (bits 0x3fb4_0495_e9f4_2ed4);
      p = pair (bits 0x4043_2fe2_5eb5_d628) (bits 0x400b_950a_b5a4_08ae);
    }

-- and its pair by the next knot's
pub by_their_bits : (between ≡ wanted) × (backward wanted (pair (bits 0x404a_2fcd_d0a3_faf8) (bits 0x4009_c9c6_8d17_c41e)) ≡ pair (bits 0xbfe2_a4e0_476f_0480) (bits 0x400e_91b0_a1e9_7443))
unfolding gap no_gap equations system solved eliminated of_bits of_int add sub mul div neg ne
by_their_bits = (refl, refl)
