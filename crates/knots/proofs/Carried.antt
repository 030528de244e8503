-- The kinds that the code carries are the definitions' `quintic` and `sloped`, and every kind that it can
-- carry has the same limits. Assumes nothing.
use mathlib.Core.Path.{◌≡◌, refl, ap, ◌∙◌}
use mathlib.Core.Bool.{Bool}
use Prim.Native.Nat.{ℕ}
use lib.IntN.{ℤ}
use Rattle.curve.specs.Formula.{Formula}
use Rattle.curve.specs.Curve.{Order, third, fourth, allowance}
use Rattle.curve.specs.Kind.{Spot, quintic, quintic_asks, sloped, sloped_asks, sloped_allowance}
use Rattle.curve.specs.Steps.{stands, slope_beyond, curvature_beyond, in_range}
use Rattle.knots.specs.declared.Kind.{Kind as Carried}
use Rattle.knots.specs.Kinds.{quintic_card, sloped_card, kind_of}

-- a kind that asks and allows the same at every place is the kind that the code carries
alike : (k : Carried) {asks : Spot → Order → Bool} {allowance : Order → (ℕ → Formula ℤ) → Formula ℤ}
    → ((s : Spot) (o : Order) → (kind_of k).asks s o ≡ asks s o) → ((o : Order) (g : ℕ → Formula ℤ) → (kind_of k).allowance o g ≡ allowance o g)
    → kind_of k ≡
    record {
      head = k.head;
      fewest_knots = quintic.fewest_knots;
      most_knots = quintic.most_knots;
      widest_gap = quintic.widest_gap;
      ordinates = quintic.ordinates;
      slopes = quintic.slopes;
      curvatures = quintic.curvatures;
      no_code = (kind_of k).no_code;
      asks = asks;
      allowance = allowance;
      slopes_given = (kind_of k).slopes_given;
    }
alike k a b =
    λ i.
    record {
      head = k.head;
      fewest_knots = quintic.fewest_knots;
      most_knots = quintic.most_knots;
      widest_gap = quintic.widest_gap;
      ordinates = quintic.ordinates;
      slopes = quintic.slopes;
      curvatures = quintic.curvatures;
      no_code = (kind_of k).no_code;
      asks = λ s o. a s o i;
      allowance = λ o g. b o g i;
      slopes_given = (kind_of k).slopes_given;
    }

pub quintic_is : kind_of quintic_card ≡ quintic
unfolding quintic allowance
quintic_is = alike quintic_card asks_same allowance_same
  where
    asks_same : (s : Spot) (o : Order) → (kind_of quintic_card).asks s o ≡ quintic_asks s o
    asks_same s third = refl
    asks_same s fourth = refl

    allowance_same : (o : Order) (g : ℕ → Formula ℤ) → (kind_of quintic_card).allowance o g ≡ allowance o g
    allowance_same third g = refl
    allowance_same fourth g = refl

pub sloped_is : kind_of sloped_card ≡ sloped
unfolding quintic sloped sloped_asks sloped_allowance
sloped_is = alike sloped_card asks_same allowance_same
  where
    asks_same : (s : Spot) (o : Order) → (kind_of sloped_card).asks s o ≡ sloped_asks s o
    asks_same s third = refl
    asks_same s fourth = refl

    allowance_same : (o : Order) (g : ℕ → Formula ℤ) → (kind_of sloped_card).allowance o g ≡ sloped_allowance o g
    allowance_same third g = refl
    allowance_same fourth g = refl

pub carried : {k : Carried} → k ≡ quintic_card → kind_of k ≡ quintic
carried e = ap kind_of e ∙ quintic_is

-- ---- steps that read only limits are the same for every kind

module _ (k : Carried) where
  pub stands_same : stands (kind_of k) ≡ stands quintic
  unfolding stands
  stands_same = refl

  pub in_range_same : in_range (kind_of k) ≡ in_range quintic
  unfolding in_range slope_beyond curvature_beyond
  in_range_same = refl
