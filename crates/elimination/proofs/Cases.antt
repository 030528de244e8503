-- Number 8 at one knot, by computation: "determinant zero or not finite, or an entry of H, P .. not finite". Assumes nothing.
use Prim.Native.Nat.{ℕ}
use mathlib.Core.Path.{◌≡◌, refl}
use mathlib.Core.Bool.{Bool, true, false}
use mathlib.Core.List.{[], ◌∷◌, map}
use lib.Ieee.{Float, nan, inf, binary64, of_bits, neg, ne, add, sub, mul, div}
use Rattle.rows.specs.declared.Pair.{Pair}
use Rattle.rows.specs.declared.Block.{Block}
use Rattle.elimination.specs.declared.State.{State}
use Rattle.rows.specs.Floats.{f0, f1}
use Rattle.rows.specs.Equations.{pair, block, zeros}
use Rattle.elimination.specs.Elimination.{system, zero_pair, zero_state}
use Rattle.elimination.specs.Refusal.{judged, solved, eliminated, number_of_step}

-- ---- the tests by themselves

-- beside a sound H and P
abbrev by_determinant : Float → ℕ
by_determinant d = number_of_step (judged d zero_state)

-- 0, −0, the infinities, NaN; 1
determinants : map by_determinant (f0 ∷ neg f0 ∷ inf false ∷ inf true ∷ nan ∷ f1 ∷ []) ≡ 8 ∷ 8 ∷ 8 ∷ 8 ∷ 8 ∷ 0 ∷ []
unfolding of_bits neg ne
determinants = refl

-- beside a sound determinant
abbrev by_state : State → ℕ
by_state x = number_of_step (judged f1 x)

-- each entry of P, and of H
entries : map by_state
    (record { h = zeros; p = pair nan f0 } ∷ record { h = zeros; p = pair f0 (inf true) }
    ∷ record { h = block nan f0 f0 f0; p = zero_pair } ∷ record { h = block f0 (inf false) f0 f0; p = zero_pair }
    ∷ record { h = block f0 f0 nan f0; p = zero_pair } ∷ record { h = block f0 f0 f0 (inf true); p = zero_pair } ∷ [])
    ≡ 8 ∷ 8 ∷ 8 ∷ 8 ∷ 8 ∷ 8 ∷ []
unfolding of_bits ne
entries = refl

-- ---- a knot

-- the first knot, with these matrices A and R and this k
abbrev first : Block → Block → Pair → Bool → ℕ
first a r k last = number_of_step (eliminated (record { a = a; l = zeros; r = r; k = k }) zero_state true last)

abbrev unit : Block
unit = block f1 f0 f0 f1

-- 2^600: its square is beyond every float
abbrev huge : Float
huge = of_bits binary64 0x6570_0000_0000_0000

-- a determinant of 0; one that is not finite, though P and H are; a k that is no number; an R that is not finite: "H .. (not at the last knot)"; none of these
knots : first zeros zeros zero_pair true ∷ first (block huge f0 f0 huge) zeros (pair f1 f1) false ∷ first unit zeros (pair f0 nan) false
    ∷ first unit (block f0 f0 f0 (inf false)) zero_pair false ∷ first unit (block f0 f0 f0 (inf false)) zero_pair true ∷ first unit unit (pair f1 f1) false ∷ []
    ≡ 8 ∷ 8 ∷ 8 ∷ 8 ∷ 0 ∷ 0 ∷ []
unfolding of_bits ne add sub mul div system solved eliminated
knots = refl
