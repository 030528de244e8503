-- A number that 7 passes is a fraction: so the numbers given for an end are fractions, and a solution has the ones where it has the others.
-- Assumes nothing.
use mathlib.Core.Path.{◌≡◌, refl, ap, ◌∙◌, subst}
use mathlib.Core.Bool.{Bool, true, false}
use mathlib.Core.List.{[], ◌∷◌}
use Prim.Native.Nat.{ℕ, ◌*◌, ◌<◌}
use lib.IntN.{ℤ, pos, ◌*ℤ◌}
use lib.Dec.{T, lit<}
use lib.Ieee.{Float, nan, inf, fin, up, down}
use lib.Ieee.Fits.{down_pos}
use Rattle.whole.specs.Whole.{◌·◌, nearest}
use Rattle.whole.proofs.Solve.{◌:*◌, :neg, #, ring}
use Rattle.whole.proofs.Rounding.{nearest_same}
use Rattle.curve.specs.Kind.{quintic}
use Rattle.curve.specs.Card.{Card}
use Rattle.curve.specs.Exact.{Exact}
use Rattle.curve.proofs.Accepted.{or_false}
use Rattle.exists.specs.Ended.{Fraction, Is, Given, Has}
use Rattle.rows.specs.declared.End.{End}
use Rattle.rows.specs.declared.End.TheVariants.{Free, Both, Curvature}
use Rattle.units.specs.Units.{signed, units_of}
use Rattle.rows.specs.Equations.{code}
use Rattle.ends.specs.Ends.{unfit, unfit_end}
use Rattle.exact_fit.specs.Given.{Equals, HasGiven}

-- ---- a number

nothing : Fraction
nothing = record { part = pos 0; over = 1; positive = lit< tt }

fraction : Float → Fraction
fraction (fin sign m e) = record { part = signed sign (m * up e); over = down e; positive = down_pos e }
fraction (inf sign) = nothing
fraction nan = nothing

equals : {z : ℤ} {q : ℕ} (x : Float) → unfit x ≡ false → Is (fraction x) z q → Equals z q x
unfolding Equals fraction
equals (fin sign m e) fit is = is.same
equals (inf sign) fit is = absurd (subst T fit tt)
equals nan fit is = absurd (subst T fit tt)

is : {z : ℤ} {q : ℕ} (x : Float) → Equals z q x → Is (fraction x) z q
unfolding Equals fraction
is (fin sign m e) equal = record { same = equal }
is (inf sign) equal = absurd equal
is nan equal = absurd equal

-- `Equals` reads a float as the fit does: in card units the fraction is what the fit makes of the float
pub in_card_units : (z : ℤ) (q : ℕ) → 0 < q → (x : Float) → Equals z q x → nearest (4096 · z) q ≡ units_of x
unfolding Equals units_of
in_card_units z q q>0 (fin sign m e) equal =
    nearest_same (4096 · z) q (signed sign (m * up e * 4096)) (down e) q>0 (down_pos e)
    (ring (z ∷ pos (down e) ∷ []) (λ z d. (# 4096 :* z :* d, # 4096 :* (d :* z))) tt
    ∙ ap (λ x. 4096 · x) equal
    ∙ ring (pos q ∷ signed sign (m * up e) ∷ []) (λ q x. (# 4096 :* (q :* x), x :* # 4096 :* q)) tt
    ∙ ap (λ x. x *ℤ pos q) (times sign (m * up e)))
  where
    times : (sign : Bool) (n : ℕ) → signed sign n *ℤ pos 4096 ≡ signed sign (n * 4096)
    times true n = ring (pos n ∷ []) (λ n. (:neg n :* # 4096, :neg (n :* # 4096))) tt
    times false n = refl
in_card_units z q q>0 (inf sign) equal = absurd equal
in_card_units z q q>0 nan equal = absurd equal

-- ---- an end's numbers

pub given_by : End → Given
given_by Free = record { slope = nothing; curvature = nothing }
given_by (Both slope curvature) = record { slope = fraction slope; curvature = fraction curvature }
given_by (Curvature curvature) = record { slope = nothing; curvature = fraction curvature }

module _ {card : Card} (e : Exact quintic card) (i : ℕ) where
  pub has_end : (end : End) → unfit_end end ≡ false → Has e (code end) i (given_by end) → HasGiven e i end
  unfolding HasGiven Has given_by
  has_end Free fit has = tt
  has_end (Both slope curvature) fit has =
      let both = or_false (unfit slope) (unfit curvature) fit in (equals slope both.0 has.0, equals curvature both.1 has.1)
  has_end (Curvature curvature) fit has = equals curvature fit has

  pub has_fractions : (end : End) → HasGiven e i end → Has e (code end) i (given_by end)
  unfolding HasGiven Has given_by
  has_fractions Free has = tt
  has_fractions (Both slope curvature) has = (is slope has.0, is curvature has.1)
  has_fractions (Curvature curvature) has = is curvature has
