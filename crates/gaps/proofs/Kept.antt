-- A knot keeps within its limits in the mirror; what a test of all gaps says of each; and a kind of card with gaps of two hours, for the tests to be tried on.
-- Assumes nothing.
use mathlib.Core.Path.{◌≡◌, sym, subst}
use mathlib.Core.Logic.{◌⊎◌, inl, inr, ⊎_elim}
use mathlib.Core.Bool.{Bool, cond}
use Prim.Native.Nat.{ℕ, zero, suc, ◌+◌, ◌≤◌, ◌^◌}
use native.Mathlib.Omega.{arith}
use lib.Dec.{T, ltb}
use lib.IntN.{pos, nat_abs}
use lib.Signed.{◌≤ℤ◌, ◌<ℤ◌}
use Rattle.whole.proofs.Order.{linear, ≤ℤ_or, abs_neg}
use Rattle.whole.proofs.Solve.{both_l, both_r}
use Rattle.curve.specs.Kind.{Kind, quintic}
use Rattle.gaps.specs.declared.Knot.{Knot}
use Rattle.gaps.specs.Knots.{mirror}
use Rattle.gaps.specs.Limits.{widest, Limits, Keeps, far, limits, upto}

pub mirror_keeps : {L : Limits} {k : Knot} → Keeps L k → Keeps L (mirror k)
unfolding mirror
mirror_keeps p = record { ordinate = p.ordinate; slope = rw abs_neg p.slope; curvature = p.curvature }

pub far_keeps : {L : Limits} {k : Knot} → L.ordinates + L.slopes + L.curvatures ≤ 2 ^ 31 → Keeps L k → Keeps far k
far_keeps s p = record { ordinate = omega (arith, p.ordinate); slope = omega (arith, p.slope); curvature = omega (arith, p.curvature) }

pub keeps : (K : Kind) (gap : ℕ) (k : Knot) → nat_abs k.ordinate ≤ K.ordinates → nat_abs k.slope ≤ K.slopes → nat_abs k.curvature ≤ K.curvatures gap → Keeps (limits K gap) k
unfolding limits
keeps K gap k y m c = record { ordinate = y; slope = m; curvature = c }

-- ---- from a test to each gap

pub decide : (n k : ℕ) → k ≤ suc n → (k ≤ n) ⊎ (k ≡ suc n)
decide n k p = ⊎_elim (λ (q : pos k ≤ℤ pos n). inl (omega linear)) (λ (q : pos n <ℤ pos k). inr (omega linear)) (≤ℤ_or (pos k) (pos n))

pub upto_at : (f : ℕ → Bool) (n : ℕ) → T (upto f n) → (k : ℕ) → k ≤ n → T (f k)
unfolding upto
upto_at f zero t zero p = t
upto_at f zero t (suc k) p = absurd (omega arith)
upto_at f (suc n) t k p = go (decide n k p) (both_l (f (suc n)) (upto f n) t) (upto_at f n (both_r (f (suc n)) (upto f n) t))
  where
    go : (k ≤ n) ⊎ (k ≡ suc n) → T (f (suc n)) → ((k : ℕ) → k ≤ n → T (f k)) → T (f k)
    go (inl q) t r = r k q
    go (inr e) t r = subst (λ z. T (f z)) (sym e) t

-- ---- two hours

-- document 01's limits but for gaps of two hours, and for the curvature's limit beside a gap over one hour
unfoldable pub two_hours : ℕ → Kind
unfolding quintic
two_hours beside-wide =
    record {
      head = quintic.head;
      fewest_knots = quintic.fewest_knots;
      most_knots = quintic.most_knots;
      widest_gap = widest;
      ordinates = quintic.ordinates;
      slopes = quintic.slopes;
      curvatures = λ gap. cond (ltb 60 gap) beside-wide (quintic.curvatures gap);
      no_code = quintic.no_code;
      asks = quintic.asks;
      allowance = quintic.allowance;
      slopes_given = quintic.slopes_given;
    }
