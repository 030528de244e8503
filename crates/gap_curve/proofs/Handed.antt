-- The numbers that the functions of a knot's shares are handed, as they have them and as a curve hands them on, and
-- the intervals that they keep: in these no operation on them passes 64 bits but the last products, which the limits
-- bound. Assumes nothing.
use mathlib.Core.List.{List, [], ◌∷◌}
use Prim.Native.Nat.{◌^◌}
use lib.IntN.{ℤ, pos}
use mir.Syntax.{w64}
use Rattle.whole.proofs.Linear.{abs_fits}
use Rattle.whole.proofs.Solve.{E, ◌:-◌, ◌:*◌, v0, v1, v2, v3, v4}
use Rattle.whole.proofs.Interval.{Iv, ±, ◌to◌, ∈_abs}
use Rattle.whole.proofs.Machine.{Src, held, In, Ok, ok}
use Rattle.gaps.specs.Limits.{widest, InGap}
use Rattle.gaps.proofs.Minutes.{minute_in}
use Rattle.weights.specs.declared.Quantity.TheVariants.{Value}
use Rattle.gap_curve.specs.declared.Side.{Side}
use Rattle.gap_curve.specs.GapCurve.{by_powers, height, shares}
use Rattle.gap_curve.specs.Limits.{Fair}
use Rattle.gap_curve.proofs.Coded.{height_e, share_e}

-- ---- P's numbers, behind two others

abbrev pub numbers : (a b : ℤ) → Side → List Src
numbers a b p = held a ∷ held b ∷ held p.level ∷ held p.rise ∷ held p.bend ∷ []

abbrev pub tops : ℤ → List Iv
tops least = least to pos widest ∷ pos 0 to pos widest ∷ ± (2 ^ 50) ∷ ± (2 ^ 47) ∷ ± (2 ^ 44) ∷ []

-- ---- the minutes from both knots before them

module _ {level rise bend t s : ℤ} (f : Fair (by_powers level rise bend) t s) where
  pub within : In w64 (numbers t s (by_powers level rise bend)) (tops (pos 0))
  within = record { each = (record { low = f.from; high = f.narrow }, (record { low = f.from'; high = f.narrow' }, (∈_abs f.level, (∈_abs f.rise, (∈_abs f.bend, tt))))) }

  -- s³ P(t)
  pub value_fits : Ok w64 (numbers t s (by_powers level rise bend)) (share_e Value v2 v3 v4 v0 v1)
  unfolding height shares
  value_fits = record { left = ok within (v1 :* v1 :* v1) tt; right = ok within (height_e v2 v3 v4 v0) tt; fits = abs_fits f.value }

-- ---- the gap and the minute before them

pub on_gap : {h t t' s : ℤ} {p : Side} → InGap h t → Fair p t' s → In w64 (numbers h t p) (tops (pos 1))
on_gap g f = let m = (minute_in g).each in record { each = (m.0, (m.1.0, (∈_abs f.level, (∈_abs f.rise, (∈_abs f.bend, tt))))) }

-- what is handed on, from the left knot and from the right one
abbrev pub leftwards : List E
leftwards = v2 ∷ v3 ∷ v4 ∷ v1 ∷ (v0 :- v1) ∷ []

abbrev pub rightwards : List E
rightwards = v2 ∷ v3 ∷ v4 ∷ (v0 :- v1) ∷ v1 ∷ []
