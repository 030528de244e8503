-- Table 3's card is its own exact solution, so that the claim about exact solutions is of something; and the fourth-derivative
-- rows at its ends hold too. By computation.
use mathlib.Core.Path.{refl}
use mathlib.Core.List.{List, [], ◌∷◌}
use Prim.Native.Nat.{ℕ, zero, suc, ◌<◌}
use native.Mathlib.Omega.{arith}
use lib.IntN.{ℤ, pos}
use lib.Dec.{lit<, lit≤}
use lib.ListN.{get_or}
use Rattle.whole.specs.Whole.{minus}
use Rattle.curve.specs.Formula.{power, worth, amount}
use Rattle.curve.specs.Curve.{Order, third, fourth, degree, equation, equals}
use Rattle.curve.specs.Card.{Card, knots, knot, back, on, gap}
use Rattle.curve.specs.Kind.{quintic}
use Rattle.curve.specs.Jump.{inverse, clear, over}
use Rattle.curve.specs.Exact.{Meets, Exact, Near, Half}
use Rattle.curve.proofs.Cases.{table_3}

-- sixteenths
slopes : List ℤ
slopes = minus 3200 ∷ pos 900 ∷ pos 0 ∷ minus 900 ∷ pos 3200 ∷ []

curvatures : List ℤ
curvatures = pos 575 ∷ pos 325 ∷ minus 425 ∷ pos 325 ∷ pos 575 ∷ []

abbrev card : Card
card = table_3 (minus 108_800)

abbrev s : ℕ → ℤ
s i = get_or slopes i (pos 0)

abbrev c : ℕ → ℤ
c i = get_or curvatures i (pos 0)

below_5 : (P : ℕ → Type 0) → P 0 → P 1 → P 2 → P 3 → P 4 → (i : ℕ) → i < 5 → P i
below_5 P a b c d e zero h = a
below_5 P a b c d e (suc zero) h = b
below_5 P a b c d e (suc (suc zero)) h = c
below_5 P a b c d e (suc (suc (suc zero))) h = d
below_5 P a b c d e (suc (suc (suc (suc zero)))) h = e
below_5 P a b c d e (suc (suc (suc (suc (suc i))))) h = absurd (omega arith)

meets : (o : Order) (i : ℕ) → i < 5 → Meets card 16 s c i o
unfolding Meets slopes curvatures table_3 power worth amount degree equation equals knots knot back on gap inverse clear over
meets third = below_5 (λ i. Meets card 16 s c i third) refl refl refl refl refl
meets fourth = below_5 (λ i. Meets card 16 s c i fourth) refl refl refl refl refl

pub table_3_exact : Exact quintic card
unfolding table_3 knots quintic
table_3_exact = record { q = 16; positive = lit< tt; s = s; c = c; meets = λ i h o t. meets o i h; own = λ t i h. absurd t }

pub table_3_near : Near table_3_exact
unfolding table_3_exact slopes curvatures table_3 knots knot Half
table_3_near =
    record {
      slopes = below_5 (λ i. Half 16 (s i) (knot card i).m) (lit≤ tt) (lit≤ tt) (lit≤ tt) (lit≤ tt) (lit≤ tt);
      curvatures = below_5 (λ i. Half 16 (c i) (knot card i).M) (lit≤ tt) (lit≤ tt) (lit≤ tt) (lit≤ tt) (lit≤ tt);
    }
