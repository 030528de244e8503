-- What is rounded of the numerators is document 01's reading; and a reading by a gap is one by its knots' minutes.
-- Assumes nothing.
use mathlib.Core.Path.{◌≡◌, ◌∙◌, ap, ap₂}
use mathlib.Core.List.{[], ◌∷◌}
use Prim.Native.Nat.{ℕ, ◌-◌, ◌*◌, ◌<◌, ◌^◌}
use native.Mathlib.Nat.{sub-zero, one-le-pow}
use native.Mathlib.Omega.{arith}
use lib.IntN.{ℤ, pos, nat_abs}
use Rattle.whole.specs.Whole.{◌·◌, nearest}
use Rattle.whole.proofs.Order.{linear, abs_is}
use Rattle.whole.proofs.Solve.{◌:*◌, #, ring}
use Rattle.whole.proofs.Rounding.{nearest_same}
use Rattle.curve.specs.Formula.{worth, ∂^}
use Rattle.curve.specs.Card
use Rattle.curve.specs.Card.{gap}
use Rattle.curve.specs.Reading.{between, denominator, reads}
use Rattle.curve.proofs.Written.{curve}
use Rattle.gaps.specs.declared.Knot.{Knot}
use Rattle.gaps.specs.Knots.{placed, numbers}
use Rattle.gaps.specs.Limits.{InGap}
use Rattle.weights.specs.declared.Quantity.{Quantity}
use Rattle.weights.specs.declared.Quantity.TheVariants.{Value, Slope, Curvature}
use Rattle.weights.specs.Weights.{derivative}
use Rattle.parts.specs.Parts.{drawn, under}
use Rattle.parts.proofs.Numerators.{natural}
use Rattle.reading.specs.Shown.{shown}

-- 4096·N/(8192·h⁵) and N/(2·h⁵) round alike
lowest : (n : ℤ) (d : ℕ) → 0 < d → nearest (4096 · n) (8192 * d) ≡ nearest n (2 * d)
lowest n d p = nearest_same (4096 · n) (8192 * d) n (2 * d) (omega arith) (omega arith) (ring (n ∷ pos d ∷ []) (λ n d. (# 4096 :* n :* (# 2 :* d), n :* (# 8192 :* d))) tt)

abbrev pub rounds : Quantity → ℤ → ℤ → Knot → Knot → ℤ
rounds q h t a b = nearest (worth (∂^ (derivative q) (drawn h a b)) t) (under q * nat_abs h ^ 5)

pub reading_is : {h t : ℤ} (a b : Knot) → InGap h t
    → shown (reads (placed 0 a) (placed (nat_abs h) b) (nat_abs t)) ≡ record { value = rounds Value h t a b; slope = rounds Slope h t a b; curvature = rounds Curvature h t a b }
unfolding shown reads denominator gap drawn ∂^
reading_is {h} {t} a b g = λ i.
    record {
      value = ap₂ (λ u n. nearest (worth (drawn h a b) u) (8192 * n ^ 5)) minute (sub-zero (nat_abs h)) i;
      slope = derived 1 i;
      curvature = derived 2 i;
    }
  where
    minute : pos (nat_abs t) ≡ t
    minute = natural t g.from

    derived : (k : ℕ) → nearest (4096 · worth (∂^ k (drawn h a b)) (pos (nat_abs t))) (8192 * (nat_abs h - 0) ^ 5) ≡ nearest (worth (∂^ k (drawn h a b)) t) (2 * nat_abs h ^ 5)
    derived k =
        ap₂ (λ u n. nearest (4096 · worth (∂^ k (drawn h a b)) u) (8192 * n ^ 5)) minute (sub-zero (nat_abs h))
        ∙ lowest (worth (∂^ k (drawn h a b)) t) (nat_abs h ^ 5) (one-le-pow 5 (nat_abs h) (omega (linear, g.wide, abs_is h)))

-- what is read of two knots is read by their gap
pub reads_by_gap : (a b : Card.Knot) (t : ℕ) → reads (placed 0 (numbers a)) (placed (gap a b) (numbers b)) t ≡ reads a b t
unfolding reads denominator between gap
reads_by_gap a b t =
    ap
    (λ n.
    let f = curve (pos n) a.y b.y a.m b.m a.M b.M in
    record {
      value = nearest (worth f (pos t)) (8192 * n ^ 5);
      slope = nearest (4096 · worth (∂^ 1 f) (pos t)) (8192 * n ^ 5);
      curvature = nearest (4096 · worth (∂^ 2 f) (pos t)) (8192 * n ^ 5);
    })
    (sub-zero (gap a b))
