-- At its ends the exact curve of a gap has the knots' ordinates, slopes and curvatures: so the gaps on both sides of a knot agree there.
-- Assumes nothing.
use mathlib.Core.Path.{◌≡◌, ap, ◌∙◌}
use mathlib.Core.List.{List, [], ◌∷◌}
use Prim.Native.Nat.{ℕ, ◌*◌, ◌^◌, ◌<◌}
use native.Mathlib.Nat.{one-le-pow}
use native.Mathlib.Omega.{arith}
use lib.IntN.{ℤ, pos, ◌*ℤ◌}
use Rattle.whole.proofs.Solve.{◌:*◌, #, ring}
use Rattle.whole.specs.Whole.{◌·◌, nearest}
use Rattle.curve.specs.Formula.{power, worth, ∂, ∂^}
use Rattle.curve.specs.Curve.{N}
use Rattle.curve.specs.Card.{Knot, gap}
use Rattle.curve.specs.Reading.{between, denominator, reads}
use Rattle.curve.specs.Demand.{numbers}
use Rattle.curve.proofs.Written.{power_e, worth_e, curve}
use Rattle.curve.proofs.Derivatives.{scaled}
use Rattle.whole.proofs.Rounding.{nearest_exact}

-- at t the curve of the gap from a to b stands as at the knot k
pub record Stands (a b : Knot) (t : ℤ) (k : Knot) : Type 0 where
  pub value : worth (between a b) t ≡ k.y *ℤ pos (8192 * gap a b ^ 5)
  pub slope : 4096 · worth (∂^ 1 (between a b)) t ≡ k.m *ℤ pos (8192 * gap a b ^ 5)
  pub curvature : 4096 · worth (∂^ 2 (between a b)) t ≡ k.M *ℤ pos (8192 * gap a b ^ 5)

module _ (a b : Knot) where
  abbrev all : List ℤ
  all = pos (gap a b) ∷ a.y ∷ b.y ∷ a.m ∷ b.m ∷ a.M ∷ b.M ∷ []

  pub at_left : Stands a b (pos 0) a
  unfolding between N worth ∂ ∂^ power
  at_left =
      record {
        value = ring all (λ h y y' m m' M M'. (worth_e (curve h y y' m m' M M') (# 0), y :* (# 8192 :* power_e h 5))) tt ∙ ap (λ z. a.y *ℤ z) (scaled (gap a b));
        slope = ring all (λ h y y' m m' M M'. (# 4096 :* worth_e (∂^ 1 (curve h y y' m m' M M')) (# 0), m :* (# 8192 :* power_e h 5))) tt ∙ ap (λ z. a.m *ℤ z) (scaled (gap a b));
        curvature = ring all (λ h y y' m m' M M'. (# 4096 :* worth_e (∂^ 2 (curve h y y' m m' M M')) (# 0), M :* (# 8192 :* power_e h 5))) tt ∙ ap (λ z. a.M *ℤ z) (scaled (gap a b));
      }

  pub at_right : Stands a b (pos (gap a b)) b
  unfolding between N worth ∂ ∂^ power
  at_right =
      record {
        value = ring all (λ h y y' m m' M M'. (worth_e (curve h y y' m m' M M') h, y' :* (# 8192 :* power_e h 5))) tt ∙ ap (λ z. b.y *ℤ z) (scaled (gap a b));
        slope = ring all (λ h y y' m m' M M'. (# 4096 :* worth_e (∂^ 1 (curve h y y' m m' M M')) h, m' :* (# 8192 :* power_e h 5))) tt ∙ ap (λ z. b.m *ℤ z) (scaled (gap a b));
        curvature = ring all (λ h y y' m m' M M'. (# 4096 :* worth_e (∂^ 2 (curve h y y' m m' M M')) h, M' :* (# 8192 :* power_e h 5))) tt ∙ ap (λ z. b.M *ℤ z) (scaled (gap a b));
      }

-- so that a reading at a knot, from either gap, is the knot's own numbers
module _ (a b : Knot) (wide : 0 < gap a b) where
  below : 0 < 8192 * gap a b ^ 5
  below = omega (arith, one-le-pow 5 (gap a b) wide)

  reads_knot : (t : ℕ) (k : Knot) → Stands a b (pos t) k → reads a b t ≡ numbers k
  unfolding reads denominator numbers
  reads_knot t k s = λ i.
      record {
        value = (ap (λ z. nearest z (8192 * gap a b ^ 5)) s.value ∙ nearest_exact k.y (8192 * gap a b ^ 5) below) i;
        slope = (ap (λ z. nearest z (8192 * gap a b ^ 5)) s.slope ∙ nearest_exact k.m (8192 * gap a b ^ 5) below) i;
        curvature = (ap (λ z. nearest z (8192 * gap a b ^ 5)) s.curvature ∙ nearest_exact k.M (8192 * gap a b ^ 5) below) i;
      }

  pub reads_left : reads a b 0 ≡ numbers a
  reads_left = reads_knot 0 a (at_left a b)

  pub reads_right : reads a b (gap a b) ≡ numbers b
  reads_right = reads_knot (gap a b) b (at_right a b)
