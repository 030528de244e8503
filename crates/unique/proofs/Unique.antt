-- Document 01, "The equations": "With n ≥ 3 the exact solution is unique for each mix of ends."
-- Assumes nothing.
use mathlib.Core.Path.{◌≡◌, refl, sym, ap, ◌∙◌, subst}
use mathlib.Core.Bool.{Bool, true, false, cond}
use Prim.Native.Nat.{ℕ, zero, suc, ◌-◌, ◌*◌, ◌≤◌, ◌<◌}
use native.Mathlib.Omega.{arith}
use lib.IntN.{ℤ, pos, ◌-ℤ◌, ◌*ℤ◌, *ℤ-zero, zero-*ℤ, +ℤ_invr}
use lib.Dec.{T, eqb}
use borrow.Author.Tests.{eqb-true}
use Rattle.whole.specs.Whole.{◌·◌}
use Rattle.whole.proofs.Ring.{same_of_sub}
use Rattle.curve.specs.Curve.{Order, third, fourth, degree}
use Rattle.curve.specs.Kind.{inner, end, quintic, quintic_asks}
use Rattle.curve.specs.Card.{Card, knots, knot, gap, back, on, spot}
use Rattle.curve.specs.Jump.{inverse, clear, over}
use Rattle.curve.specs.Exact.{Meets, Exact}
use Rattle.curve.proofs.Accepted.{Good, rising}
use Rattle.unique.proofs.Linear.{differ}
use Rattle.unique.proofs.Zero.{row_at, all_zero}

-- at least three knots, and each minute above the one before
pub record Rising (card : Card) : Type 0 where
  pub three : 3 ≤ knots card
  pub rises : (i : ℕ) → suc i < knots card → (knot card i).x < (knot card (suc i)).x

-- as every accepted card has
pub good_rises : {card : Card} → Good quintic card → Rising card
unfolding quintic
good_rises g = record { three = g.few; rises = λ i l. rising g i (suc i) (omega arith) l }

module _ {card : Card} (e f : Exact quintic card) where
  -- what stands for an order's row where it is replaced: "s = given", "c = given"
  abbrev number : Order → Exact quintic card → ℕ → ℤ
  number fourth x = x.s
  number third x = x.c

  -- the two are one fraction at a place
  abbrev Same : Order → ℕ → Type 0
  Same o i = f.q · number o e i ≡ e.q · number o f i

  abbrev pub SameSlope : ℕ → Type 0
  SameSlope i = f.q · e.s i ≡ e.q · f.s i

  abbrev pub SameCurvature : ℕ → Type 0
  SameCurvature i = f.q · e.c i ≡ e.q · f.c i

  -- the two agree on what an end's code gives: "code 0, free", "code 1, slope and curvature given", "code 2, curvature alone given";
  -- any other code, which no accepted card has, asks for no equation, and so is read as 1
  unfoldable pub SameGiven : (code i : ℕ) → Type 0
  SameGiven zero i = Unit {0}
  SameGiven (suc zero) i = SameSlope i × SameCurvature i
  SameGiven (suc (suc zero)) i = SameCurvature i
  SameGiven (suc (suc (suc code))) i = SameSlope i × SameCurvature i

  given : (code i : ℕ) (o : Order) → quintic_asks (end code) o ≡ false → SameGiven code i → Same o i
  unfolding quintic_asks SameGiven
  given zero i third replaced g = absurd (subst T replaced tt)
  given zero i fourth replaced g = absurd (subst T replaced tt)
  given (suc zero) i third replaced g = g.1
  given (suc zero) i fourth replaced g = g.0
  given (suc (suc zero)) i third replaced g = g
  given (suc (suc zero)) i fourth replaced g = absurd (subst T replaced tt)
  given (suc (suc (suc code))) i third replaced g = g.1
  given (suc (suc (suc code))) i fourth replaced g = g.0

  -- what e is off f, times both denominators
  off : Order → ℕ → ℤ
  off o i = f.q · number o e i -ℤ e.q · number o f i

  module _ (left : SameGiven card.left 0) (right : SameGiven card.right (knots card - 1)) where
    -- where a row is replaced, it is by one number
    one_number : (o : Order) (i : ℕ) → i < knots card → quintic.asks (spot card i) o ≡ false → Same o i
    unfolding spot quintic quintic_asks
    one_number o i l = go (eqb i 0) refl (eqb (suc i) (knots card)) refl
      where
        final : suc i ≡ knots card → knots card - 1 ≡ i
        final m = omega arith

        go : (a : Bool) → eqb i 0 ≡ a → (b : Bool) → eqb (suc i) (knots card) ≡ b → quintic_asks (cond a (end card.left) (cond b (end card.right) inner)) o ≡ false → Same o i
        go true at b m replaced = subst (λ k. Same o k) (sym (eqb-true i 0 at)) (given card.left 0 o replaced left)
        go false at true m replaced = subst (λ k. Same o k) (final (eqb-true (suc i) (knots card) m)) (given card.right (knots card - 1) o replaced right)
        go false at false m replaced = absurd (subst T replaced tt)

    -- the difference meets the equations of zero ordinates, or is zero where a row is replaced
    product : (o : Order) (i : ℕ) → i < knots card → off o i *ℤ row_at card (off fourth) (off third) (back i) i (on card i) o ≡ pos 0
    unfolding off over Meets
    product o i l = go (quintic.asks (spot card i) o) refl
      where
        a : ℕ
        a = back i

        b : ℕ
        b = on card i

        h : ℕ
        h = gap (knot card i) (knot card b)

        k : ℕ
        k = gap (knot card a) (knot card i)

        row : ℤ
        row = row_at card (off fourth) (off third) a i b o

        go : (ask : Bool) → quintic.asks (spot card i) o ≡ ask → off o i *ℤ row ≡ pos 0
        go true ask = ap (λ z. off o i *ℤ z) meets ∙ *ℤ-zero (off o i)
          where
            asked : T (quintic.asks (spot card i) o)
            asked = subst T (sym ask) tt

            meets : row ≡ pos 0
            meets =
                differ (λ j. pos (inverse h (degree o) j * clear k (degree o))) (λ j. pos (inverse k (degree o) j * clear h (degree o)))
                (knot card a).y (knot card i).y (knot card b).y e.q f.q
                (e.s a) (e.c a) (e.s i) (e.c i) (e.s b) (e.c b) (f.s a) (f.c a) (f.s i) (f.c i) (f.s b) (f.c b)
                o (e.meets i l o asked) (f.meets i l o asked)
        go false ask = ap (λ z. z *ℤ row) (ap (λ z. z -ℤ e.q · number o f i) (one_number o i l ask) ∙ +ℤ_invr (e.q · number o f i)) ∙ zero-*ℤ row

-- "With n ≥ 3 the exact solution is unique for each mix of ends": on a card of at least three knots whose minutes rise, two exact solutions
-- that have the same given numbers at the ends have the same slope and the same curvature at each knot.
pub exact_unique : (card : Card) → Rising card → (e f : Exact quintic card) → SameGiven e f card.left 0 → SameGiven e f card.right (knots card - 1) →
    (i : ℕ) → i < knots card → SameSlope e f i × SameCurvature e f i
unfolding off
exact_unique card r e f left right i l = (same_of_sub none.0, same_of_sub none.1)
  where
    none : (off e f fourth i ≡ pos 0) × (off e f third i ≡ pos 0)
    none = all_zero card (off e f fourth) (off e f third) r.three r.rises (product e f left right fourth) (product e f left right third) i l
