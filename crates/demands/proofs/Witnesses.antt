-- Cards within half a unit of an exact solution, by computation: that of Table 3's knots which starts at
-- rest, P7's, and Table 3's with its slopes given. Table 3's own is in `curve/proofs/Witness`.
-- Assumes nothing.
use mathlib.Core.Path.{◌≡◌, refl, sym, subst}
use mathlib.Core.Logic.{⊎_elim}
use mathlib.Core.List.{List, [], ◌∷◌}
use Prim.Native.Nat.{ℕ, zero, suc, ◌<◌}
use native.Mathlib.Nat.{eq-or-lt_of_le}
use native.Mathlib.Omega.{arith}
use lib.IntN.{ℤ, pos}
use lib.Dec.{T, lit<, lit≤}
use lib.ListN.{get_or}
use Rattle.whole.specs.Whole.{◌·◌, minus}
use Rattle.curve.specs.Formula.{power, worth, amount}
use Rattle.curve.specs.Curve.{Order, third, fourth, degree, equation, equals}
use Rattle.curve.specs.Card.{Card, knots, knot, back, on, gap, spot}
use Rattle.curve.specs.Kind.{Kind, quintic_asks, quintic, sloped_asks, sloped}
use Rattle.curve.specs.Jump.{inverse, clear, over}
use Rattle.curve.specs.Exact.{Meets, Exact, Near, Half}
use Rattle.curve.proofs.Cases.{table_3, p1, line}
use Rattle.fit.proofs.Table3.{at_rest}
use Rattle.demands.specs.Demands.{HalfAUnit}

-- one for each number below n
abbrev Each : (ℕ → Type 0) → ℕ → Type 0
Each P zero = Unit {0}
Each P (suc n) = Each P n × P n

below : (P : ℕ → Type 0) (n : ℕ) → Each P n → (i : ℕ) → i < n → P i
below P zero e i h = absurd (omega arith)
below P (suc n) e i h = ⊎_elim (λ q. subst P (sym q) e.1) (λ l. below P n e.0 i l) (eq-or-lt_of_le {n = i} {m = n} (omega arith))

-- slopes and curvatures over a common denominator
module _ (K : Kind) (card : Card) (q : ℕ) (slopes curvatures : List ℤ) where
  abbrev s : ℕ → ℤ
  s i = get_or slopes i (pos 0)

  abbrev c : ℕ → ℤ
  c i = get_or curvatures i (pos 0)

  -- what is to be computed at a knot
  abbrev At : ℕ → Type 0
  At i =
      (T (K.asks (spot card i) third) → Meets card q s c i third) × (T (K.asks (spot card i) fourth) → Meets card q s c i fourth)
      × Half q (s i) (knot card i).m × Half q (c i) (knot card i).M

  -- and where the slopes are given
  abbrev Own : ℕ → Type 0
  Own i = 4096 · s i ≡ q · (knot card i).m

  near_exact : 0 < q → (T K.slopes_given → Each Own (knots card)) → Each At (knots card) → HalfAUnit K card
  near_exact positive own e =
      record {
        exact = record { q = q; positive = positive; s = s; c = c; meets = meets; own = λ t i h. below Own (knots card) (own t) i h };
        near = record { slopes = λ i h. (below At (knots card) e i h).2; curvatures = λ i h. (below At (knots card) e i h).3 };
      }
    where
      meets : (i : ℕ) → i < knots card → (o : Order) → T (K.asks (spot card i) o) → Meets card q s c i o
      meets i h third t = (below At (knots card) e i h).0 t
      meets i h fourth t = (below At (knots card) e i h).1 t

-- with slope and curvature given at the left neither equation is asked there
pub rest_is_near : HalfAUnit quintic (at_rest 1)
unfolding at_rest p1 table_3 Meets Half power worth amount degree equation equals quintic_asks quintic knots knot back on gap spot inverse clear over
rest_is_near =
    near_exact quintic (at_rest 1) 1_931_524 (pos 0 ∷ minus 69_121_250 ∷ pos 82_340_000 ∷ minus 157_318_750 ∷ pos 453_000_000 ∷ [])
    (pos 0 ∷ pos 75_844_375 ∷ minus 66_195_000 ∷ pos 42_389_375 ∷ pos 87_590_000 ∷ []) (lit< tt) (λ t. absurd t)
    (((((tt, (λ t. absurd t, λ t. absurd t, lit≤ tt, lit≤ tt)), (λ t. refl, λ t. refl, lit≤ tt, lit≤ tt)), (λ t. refl, λ t. refl, lit≤ tt, lit≤ tt)), (λ t. refl, λ t. refl, lit≤ tt, lit≤ tt)), (λ t. refl, λ t. refl, lit≤ tt, lit≤ tt))

-- slopes of a half, no curvatures
pub line_is_near : HalfAUnit quintic line
unfolding line Meets Half power worth amount degree equation equals quintic_asks quintic knots knot back on gap spot inverse clear over
line_is_near =
    near_exact quintic line 2 (pos 1 ∷ pos 1 ∷ pos 1 ∷ []) (pos 0 ∷ pos 0 ∷ pos 0 ∷ []) (lit< tt) (λ t. absurd t)
    (((tt, (λ t. refl, λ t. refl, lit≤ tt, lit≤ tt)), (λ t. refl, λ t. refl, lit≤ tt, lit≤ tt)), (λ t. refl, λ t. refl, lit≤ tt, lit≤ tt))

-- sixteenths; the slopes are whole on the card, and only the third derivative's equation is asked
pub sloped_is_near : HalfAUnit sloped p1
unfolding p1 table_3 Meets Half power worth amount degree equation equals quintic_asks quintic sloped_asks sloped knots knot back on gap spot inverse clear over
sloped_is_near =
    near_exact sloped p1 16 (minus 3_200 ∷ pos 900 ∷ pos 0 ∷ minus 900 ∷ pos 3_200 ∷ []) (pos 575 ∷ pos 325 ∷ minus 425 ∷ pos 325 ∷ pos 575 ∷ []) (lit< tt)
    (λ t. (((((tt, refl), refl), refl), refl), refl))
    (((((tt, (λ t. refl, λ t. absurd t, lit≤ tt, lit≤ tt)), (λ t. refl, λ t. absurd t, lit≤ tt, lit≤ tt)), (λ t. refl, λ t. absurd t, lit≤ tt, lit≤ tt)), (λ t. refl, λ t. absurd t, lit≤ tt, lit≤ tt)), (λ t. refl, λ t. absurd t, lit≤ tt, lit≤ tt))
