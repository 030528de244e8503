-- A kind's limits, which the test of this crate passes, keep the arithmetic of each gap of its cards within the machine's widths: what the functions here ask,
-- from what 4, 5, 6 and 9 leave. Document 01's limits pass; so do gaps of two hours with curvatures held to 65,536 beside gaps over 60.
-- Assumes nothing.
use mathlib.Core.Path.{◌≡◌}
use mathlib.Core.Logic.{◌⊎◌, inl, inr}
use Prim.Native.Nat.{ℕ, zero, suc, ◌≤◌}
use native.Mathlib.Nat.{le_refl, le_trans}
use native.Mathlib.Omega.{arith}
use lib.Dec.{T, leb→le}
use lib.IntN.{pos}
use Rattle.whole.proofs.Order.{linear}
use Rattle.whole.proofs.Solve.{both_l, both_r}
use Rattle.curve.specs.Kind.{Kind, quintic}
use Rattle.gaps.specs.declared.Knot.{Knot}
use Rattle.gaps.specs.Limits.{InGap, Keeps, limits, upto}
use Rattle.gaps.proofs.Kept.{decide, upto_at, two_hours}
use Rattle.parts.specs.Limits.{most, quantity_fits, gap_fits, Tame, narrows, readable}
use Rattle.parts.proofs.Numerators.{gap_of}

pub quintic_readable : T (readable quintic)
unfolding quintic readable upto narrows limits gap_fits quantity_fits most
quintic_readable = tt

two_hours_readable : T (readable (two_hours 65_536))
unfolding two_hours quintic readable upto narrows limits gap_fits quantity_fits most
two_hours_readable = tt

-- ---- from the test to each gap

module _ (K : Kind) (t : T (readable K)) where
  fits : (h : ℕ) → h ≤ K.widest_gap → T (gap_fits (limits K h) h)
  unfolding readable
  fits h p = upto_at (λ h. gap_fits (limits K h) h) K.widest_gap (both_l (upto (λ h. gap_fits (limits K h) h) K.widest_gap) (upto (narrows K) K.widest_gap) t) h p

  narrow : (h : ℕ) → h ≤ K.widest_gap → K.curvatures (suc h) ≤ K.curvatures h
  unfolding readable narrows
  narrow h p = leb→le _ _ (upto_at (narrows K) K.widest_gap (both_r (upto (λ h. gap_fits (limits K h) h) K.widest_gap) (upto (narrows K) K.widest_gap) t) h p)

  -- no wider gap of the kind has a wider limit
  pub lower : (g g' : ℕ) → g ≤ g' → g' ≤ K.widest_gap → K.curvatures g' ≤ K.curvatures g
  lower zero zero p q = le_refl (K.curvatures 0)
  lower (suc g) zero p q = absurd (omega arith)
  lower g (suc g') p q = go (decide g' g p) (λ r. lower g g' r (omega arith))
    where
      go : (g ≤ g') ⊎ (g ≡ suc g') → (g ≤ g' → K.curvatures g' ≤ K.curvatures g) → K.curvatures (suc g') ≤ K.curvatures g
      go (inl r) f = le_trans (narrow g' (omega arith)) (f r)
      go (inr e) f = rw e (le_refl (K.curvatures (suc g')))

  pub in_gap : (h t : ℕ) → 1 ≤ h → h ≤ K.widest_gap → t ≤ h → InGap (pos h) (pos t)
  in_gap h t w p q = let n = (gap_of (limits K h) h (fits h p)).narrow in record { wide = omega linear; narrow = omega linear; from = omega linear; to = omega linear }

  pub tame : (h : ℕ) (a b : Knot) → h ≤ K.widest_gap → Keeps (limits K h) a → Keeps (limits K h) b → Tame (pos h) a b
  tame h a b p k l = record { limits = limits K h; fits = fits h p; left = k; right = l }
