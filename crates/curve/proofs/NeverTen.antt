-- No card within half a unit of an exact solution is refused with 10, for each kind whose allowance is
-- enough; document 01's is, and order 8's. Assumes nothing.
use mathlib.Core.Path.{◌≡◌, refl}
use mathlib.Core.Logic.{◌≢◌}
use mathlib.Core.Bool.{Bool, true, false, not, ◌&&◌, cond}
use Prim.Native.Nat.{ℕ, ◌+◌, ◌*◌, ◌≤◌, ◌<◌}
use native.Mathlib.Omega.{arith}
use lib.IntN.{ℤ, pos, nat_abs, ◌+ℤ◌, +ℤ_invr}
use lib.Dec.{T, lit<}
use lib.Signed.{le_z, ◌≤ℤ◌}
use Rattle.whole.proofs.Ring.{add_is, mul_is}
use Rattle.whole.proofs.Order.{linear, abs_mul}
use Rattle.whole.specs.Whole.{◌·◌}
use Rattle.answer.specs.Answer.{accepted, refuse, number}
use Rattle.curve.specs.Formula.{num, worth, amount}
use Rattle.curve.specs.Curve.{Order, third, fourth, degree, allowance}
use Rattle.curve.specs.Kind.{Kind, Spot, quintic, sloped, sloped_asks, sloped_allowance}
use Rattle.curve.specs.Card.{Card, Knot, knots, knot, back, on, gap, spot, joint}
use Rattle.curve.specs.Jump.{inverse, clear, over, rise, jump, allowed, jumps}
use Rattle.curve.specs.Steps.{lengths, counted, codes, stands, in_range, smooth}
use Rattle.curve.specs.Orders.{numbers_sound, sound, verdict}
use Rattle.answer.proofs.Never.{never_number, never_then, never_each, given_never, never_other as other}
use Rattle.curve.specs.Exact.{Meets, Exact, Near, Half}
use Rattle.curve.proofs.NearExact.{slack, near_jump, off}

-- 1 where the slopes are solved for
abbrev solved : Kind → ℕ
solved K = cond K.slopes_given 0 1

-- twice the allowance covers what half a unit in each number can do
pub record Enough (K : Kind) : Type 0 where
  pub enough : (s : Spot) (o : Order) → T (K.asks s o) → (G : ℕ → ℕ) → pos (slack (solved K) o G) ≤ℤ (2 · amount (K.allowance o (λ i. num (pos (G i)))))

pub quintic_enough : Enough quintic
unfolding quintic allowance amount worth
quintic_enough = record { enough = λ s o t G. here o G }
  where
    here : (o : Order) (G : ℕ → ℕ) → pos (slack (solved quintic) o G) ≤ℤ (2 · amount (quintic.allowance o (λ i. num (pos (G i)))))
    here third G = omega linear
    here fourth G = omega linear

pub sloped_enough : Enough sloped
unfolding sloped sloped_asks sloped_allowance amount worth
sloped_enough = record { enough = λ s o t G. here s o t G }
  where
    here : (s : Spot) (o : Order) → T (sloped.asks s o) → (G : ℕ → ℕ) → pos (slack (solved sloped) o G) ≤ℤ (2 · amount (sloped.allowance o (λ i. num (pos (G i)))))
    here s third t G = omega linear
    here s fourth t G = absurd t

asked : (b x : Bool) → (T b → T x) → b && not x ≡ false
asked true true f = refl
asked true false f = absurd (f tt)
asked false x f = refl

module _ (K : Kind) (E : Enough K) (card : Card) (e : Exact K card) (near : Near e) where
  curvature_off : (i : ℕ) → i < knots card → nat_abs (off e.q (e.c i) (knot card i).M) ≤ e.q
  unfolding Half
  curvature_off i h = rw abs_mul (near.curvatures i h)

  slope_off : (i : ℕ) → i < knots card → nat_abs (off e.q (e.s i) (knot card i).m) ≤ solved K * e.q
  unfolding Half
  slope_off i h = go K.slopes_given (λ t. e.own t i h)
    where
      go : (b : Bool) → (T b → 4096 · e.s i ≡ e.q · (knot card i).m) → nat_abs (off e.q (e.s i) (knot card i).m) ≤ cond b 0 1 * e.q
      go true f = rw (f tt, +ℤ_invr (e.q · (knot card i).m)) (omega arith)
      go false f = rw abs_mul (omega (arith, near.slopes i h))

  small : (o : Order) (i : ℕ) → i < knots card → T (K.asks (spot card i) o) →
      let a : Knot = knot card (back i) in
      let b : Knot = knot card i in
      let f : Knot = knot card (on card i) in
      T (le_z (pos (nat_abs (jump o a b f))) (allowed K o a b f))
  unfolding Meets jump allowed over rise amount worth back on
  small o i h t = within.le
    where
      a : Knot
      a = knot card (back i)

      b : Knot
      b = knot card i

      f : Knot
      f = knot card (on card i)

      G : ℕ → ℕ
      G j = inverse (gap b f) (degree o) j * clear (gap a b) (degree o)

      P : ℕ → ℕ
      P j = inverse (gap a b) (degree o) j * clear (gap b f) (degree o)

      right : ℤ
      right = amount (K.allowance o (λ j. num (pos (G j))))

      left : ℤ
      left = amount (K.allowance o (λ j. num (pos (P j))))

      ours : pos (slack (solved K) o G) ≤ℤ (2 · right)
      ours = E.enough (spot card i) o t G

      theirs : pos (slack (solved K) o P) ≤ℤ (2 · left)
      theirs = E.enough (spot card i) o t P

      there : 2 * nat_abs (jump o a b f) ≤ slack (solved K) o G + slack (solved K) o P
      there =
          near_jump e.q (solved K) e.positive G P a.y b.y f.y
          (e.s (back i)) (e.c (back i)) (e.s i) (e.c i) (e.s (on card i)) (e.c (on card i)) a.m a.M b.m b.M f.m f.M
          (slope_off (back i) (omega arith)) (curvature_off (back i) (omega arith)) (slope_off i h) (curvature_off i h)
          (slope_off (on card i) (omega arith)) (curvature_off (on card i) (omega arith)) o (e.meets i h o t)

      within : pos (nat_abs (jump o a b f)) ≤ℤ (right +ℤ left)
      within = omega (linear, there, ours, theirs, add_is right left, mul_is (pos 2) right, mul_is (pos 2) left)

  pub smooth_there : (i : ℕ) → i < knots card → smooth K card i ≡ accepted
  unfolding smooth refuse joint jumps
  smooth_there i h =
      rw (asked (K.asks (spot card i) third) _ (small third i h), asked (K.asks (spot card i) fourth) _ (small fourth i h))

-- no other step of the order refuses with 10
pub never_10 : (K : Kind) → Enough K → (card : Card) (e : Exact K card) → Near e → number (verdict K card) ≢ 10
unfolding verdict sound numbers_sound lengths counted codes stands in_range
never_10 K E card e near =
    never_number (verdict K card) (lit< tt)
    (never_then (other 3 0 _ tt)
    (never_then (never_then (other 1 0 _ tt) (other 2 0 _ tt))
    (never_then (never_then (other 15 0 _ tt) (other 15 1 _ tt))
    (never_then (never_each 10 (stands K card.minutes card.ordinates) 0 (knots card) (λ j l. never_then (other 4 j _ tt) (never_then (other 5 j _ tt) (other 6 j _ tt))))
    (never_then (never_each 10 (in_range K card) 0 (knots card) (λ j l. other 9 j _ tt))
    (never_each 10 (smooth K card) 0 (knots card) (λ j l. rw (smooth_there K E card e near j (omega arith)) given_never)))))))
