-- The equations of a knot by the bits of their numbers, computed: gaps that are no powers of two, so that each
-- rounding counts, and another order of the operations gives other bits. The bits are those of the independent
-- reading of document 01 (tests/independent), which has them in a test of its own. Assumes nothing.
use mathlib.Core.Path.{◌≡◌, refl}
use Prim.Native.Nat.{ℕ}
use lib.IntN.{pos}
use lib.Ieee.{Float, binary64, of_bits, of_int, add, sub, mul, div, neg}
use Rattle.rows.specs.declared.Row.{Row}
use Rattle.rows.specs.declared.End.TheVariants.{Free}
use Rattle.rows.specs.Equations.{pair, block, gap, equations}

abbrev bits : ℕ → Float
bits = of_bits binary64

-- 20 minutes down from 2200 to 1400, then 15 up to 1800
abbrev wanted : Row
wanted =
    record {
      a = block (bits 0x3f9b_9c2d_d084_4920) (bits 0x3f97_e4b1_7e4b_17e3) (bits 0x3f97_e4b1_7e4b_17e3) (bits 0x3fd6_6666_6666_6666);
      l = block (bits 0x3f7c_ac08_3126_e97b) (bits 0x3f94_7ae1_47ae_147c) (bits 0xbf94_7ae1_47ae_147c) (bits 0xbfa9_9999_9999_999a);
      r = block (bits 0x3f90_fda6_0a2a_059d) (bits 0xbfa2_3456_789a_bcdf) (bits 0x3fa2_3456_789a_bcdf) (bits 0xbfb1_1111_1111_1111);
      k = pair (bits 0x3fd6_480f_2b9d_647d) (bits 0x4011_7b42_5ed0_97b5);
    }

pub by_their_bits : equations (gap 20 (pos 2200) (pos 1400)) (gap 15 (pos 1400) (pos 1800)) Free ≡ wanted
unfolding gap equations of_bits of_int add sub mul div neg
by_their_bits = refl
