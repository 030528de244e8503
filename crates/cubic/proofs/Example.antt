-- Document 001's example times ten, so that all is whole: the last two columns of its Table 2, over a₇ = 40,545.
-- Worked out apart, in fractions. The document misprints "−1(2.0)" for −1(−2.0) in its sum for the first
-- unknown, whose value it has right, and the last digits of its last column at j = 2 and j = 3, cut where the
-- others are rounded.
-- Assumes nothing.
use mathlib.Core.Path.{◌≡◌, refl}
use mathlib.Core.List.{List, [], ◌∷◌, map}
use Prim.Native.Nat.{ℕ}
use lib.IntN.{ℤ, pos}
use Rattle.whole.specs.Whole.{minus}
use Rattle.cubic.specs.Cubic.{a, scale, δ², sum, unknown}

abbrev pub example : List ℤ
example = pos 2440 ∷ pos 2210 ∷ pos 2080 ∷ pos 2080 ∷ pos 2115 ∷ pos 2160 ∷ pos 2190 ∷ pos 2210 ∷ pos 2215 ∷ pos 2200 ∷ []

over_40545 : scale example ≡ 40_545
unfolding a scale
over_40545 = refl

differences : map (δ² example) (0 ∷ 1 ∷ 2 ∷ 3 ∷ 4 ∷ 5 ∷ 6 ∷ 7 ∷ []) ≡ pos 100 ∷ pos 130 ∷ pos 35 ∷ pos 10 ∷ minus 15 ∷ minus 10 ∷ minus 15 ∷ minus 20 ∷ []
unfolding δ²
differences = refl

table_2 :
    map (unknown example) (0 ∷ 1 ∷ 2 ∷ 3 ∷ 4 ∷ 5 ∷ 6 ∷ 7 ∷ 8 ∷ 9 ∷ [])
    ≡ pos 0 ∷ pos 732450 ∷ pos 1124700 ∷ pos 39600 ∷ pos 135975 ∷ minus 178050 ∷ minus 31950 ∷ minus 99600 ∷ minus 177825 ∷ pos 0 ∷ []
unfolding a scale δ² sum unknown
table_2 = refl
