-- Document 01's listing of Table 3, whole, and the line of a refusal; the same with the faults of a log behind one of its knots, none of them and 60. Computed from the definitions; assumes nothing.
use Prim.Native.Nat.{ℕ}
use Prim.Native.String.{String}
use mathlib.Core.Path.{◌≡◌, refl}
use mathlib.Core.List.{List, [], ◌∷◌, ◌++◌}
use native.Mathlib.Omega.{arith}
use Rattle.std.specs.Prelude.{Option, Some, ◌≢◌}
use lib.IntN.{ℤ, pos, negsuc}
use Rattle.decimal.specs.Decimal.{spelled, digits, signed, field}
use Rattle.listing.specs.Text.{four_fields, knot_line, counted_line, no_log, listed_line, ok_line, refused_line, lines, line_of, listing}

abbrev minutes : List ℕ
minutes = 0 ∷ 8 ∷ 16 ∷ 24 ∷ 32 ∷ []

abbrev ordinates : List ℤ
ordinates = pos 500 ∷ pos 0 ∷ pos 500 ∷ pos 0 ∷ pos 500 ∷ []

abbrev slopes : List ℤ
slopes = negsuc 819199 ∷ pos 230400 ∷ pos 0 ∷ negsuc 230399 ∷ pos 819200 ∷ []

abbrev curvatures : List ℤ
curvatures = pos 147200 ∷ pos 83200 ∷ negsuc 108799 ∷ pos 83200 ∷ pos 147200 ∷ []

abbrev printed : String → List ℕ
printed second =
    spelled "0 500 -819200 147200\n" ++ spelled second ++ spelled "16 500 0 -108800\n" ++ spelled "24 0 -230400 83200\n"
    ++ spelled "32 500 819200 147200\n" ++ spelled "ok 5\n"

-- its second knot is a log's, with so many faults
abbrev of_a_log : Option ℕ → List ℕ
of_a_log faults = listing 0 0 minutes ordinates slopes curvatures (no_log ∷ faults ∷ no_log ∷ [])

pub table_3 :
    (listing 0 0 minutes ordinates slopes curvatures [] ≡ printed "8 0 230400 83200\n")
    × (listing 10 2 minutes ordinates slopes curvatures [] ≡ spelled "refused 10 at 2\n") × (listing 1 0 [] [] [] [] [] ≡ spelled "refused 1 at 0\n")
    × (of_a_log no_log ≡ printed "8 0 230400 83200\n") × (of_a_log (Some 0) ≡ printed "8 0 230400 83200 0\n") × (of_a_log (Some 30) ≡ printed "8 0 230400 83200 30\n")
    × (of_a_log (Some 60) ≡ printed "8 0 230400 83200 60\n")
unfolding spelled digits signed field four_fields knot_line counted_line listed_line ok_line refused_line lines line_of listing
table_3 = (refl, refl, refl, refl, refl, refl, refl)

-- no count of faults is the mark
pub above_every_count : (n : ℕ) → Some n ≢ no_log
above_every_count n e = let z : ◌≡◌ {A = ℕ} 0 1 = cc in absurd (omega arith)
