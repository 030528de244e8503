-- A fit at gaps of 20, 15 and 34 minutes by the bits of its pairs, computed: none is a power of two, so that
-- each rounding counts. The bits are those of the independent reading of document 01 (tests/independent),
-- which has them in a test of its own. Assumes nothing.
use Prim.Native.Nat.{ℕ}
use mathlib.Core.Path.{◌≡◌, refl}
use mathlib.Core.List.{List, [], ◌∷◌}
use lib.IntN.{pos}
use lib.Ieee.{Float, binary64, add, sub, mul, div, neg, of_bits, of_int, ne}
use lib.ListN.{take}
use Rattle.rows.specs.declared.Pair.{Pair}
use Rattle.rows.specs.declared.End.TheVariants.{Free}
use Rattle.rows.specs.Equations as Equations
use Rattle.rows.specs.Equations.{pair}
use Rattle.elimination.specs.Elimination.{system}
use Rattle.elimination.specs.Refusal as Refusal
use Rattle.passes.specs.Sheet.{end_of, knot_between, right_gap, left_gap, knot_at}
use Rattle.passes.specs.Forward.{run_to}
use Rattle.passes.specs.Back.{turned, back_to}
use Rattle.passes.specs.Passes.{pairs_in, back_from, passes}
use Rattle.fit.specs.Fit.{solved}

abbrev bits : ℕ → Float
bits = of_bits binary64

abbrev wanted : List Pair
wanted =
    pair (bits 0xc054_014d_c5dd_38c6) (bits 0x4010_16ab_1ddf_de7d)
    ∷ pair (bits 0xbfe2_a4e0_476f_0480) (bits 0x400e_91b0_a1e9_7443)
    ∷ pair (bits 0x404a_2fcd_d0a3_faf8) (bits 0x4009_c9c6_8d17_c41e)
    ∷ pair (bits 0x4062_ec91_be50_a523) (bits 0x4006_7804_d15b_976b)
    ∷ []

pub by_their_bits : take 4 (pairs_in (solved (0 ∷ 20 ∷ 35 ∷ 69 ∷ []) (pos 2200 ∷ pos 1400 ∷ pos 1800 ∷ pos 5300 ∷ []) Free Free)) ≡ wanted
unfolding add sub mul div neg of_bits of_int ne Equations.gap Equations.no_gap Equations.equations system Refusal.solved Refusal.eliminated
    end_of knot_between right_gap left_gap knot_at run_to turned back_to back_from passes solved
by_their_bits = refl
