-- What is named of a card that is refused with 10: the lowest knot with a jump over its allowance, the third
-- first, with that jump and that allowance. Assumes nothing.
use Prim.Native.Nat.{ℕ}
use mathlib.Core.Path.{◌≡◌, refl, sym, subst}
use mathlib.Core.Bool.{Bool, true, false, ◌&&◌, ◌||◌}
use native.Mathlib.Omega.{arith}
use lib.Dec.{T}
use lib.IntN.{pos, nat_abs}
use lib.Signed.{◌≤ℤ◌}
use borrow.Author.Tests.{not-true, not-false}
use Rattle.whole.proofs.Order.{linear, le_z_true, le_z_false}
use Rattle.answer.specs.Answer.{refused}
use Rattle.curve.specs.Curve.{Order, third, fourth, degree}
use Rattle.curve.specs.Kind.{Kind}
use Rattle.curve.specs.Card.{Card, Joint, joint}
use Rattle.curve.specs.Jump.{jump, allowed, jumps}
use Rattle.curve.specs.Orders.{sound, verdict}
use Rattle.curve.proofs.Accepted.{true_and_false}
use Rattle.opened.proofs.Jumping.{jumped_inside, jumped_first, jumped_there, ten_of_lists}
use Rattle.explain.specs.Explain.{jump_at, because, reason}
use Rattle.reasons.specs.Reasons.{Over, Because}
use Rattle.reasons.proofs.Told.{reason_one_of}

both_true : (a b : Bool) → a && b ≡ true → (a ≡ true) × (b ≡ true)
both_true true b e = (refl, e)
both_true false b e = absurd (subst T (sym e) tt)

or_true : (a b : Bool) → a ≡ false → a || b ≡ true → b ≡ true
or_true true b t e = absurd (subst T t tt)
or_true false b t e = e

module _ (K : Kind) (j : Joint) (o : Order) where
  jumps_over : jumps K j o ≡ true → Over K j o
  unfolding jumps
  jumps_over e = let b = both_true (K.asks j.spot o) _ e in record { asked = b.0; over = le_z_false (not-true _ b.1) }

  jumps_not_over : jumps K j o ≡ false → ¬ (Over K j o)
  unfolding jumps
  jumps_not_over e v =
      let within : pos (nat_abs (jump o j.before j.here j.after)) ≤ℤ allowed K o j.before j.here j.after = le_z_true (not-false _ (true_and_false (K.asks j.spot o) _ v.asked e)) in
      omega (linear, v.over)

module _ (K : Kind) (c : Card) (p : ℕ) where
  pub ten_because : sound K c ≡ refused 10 p → Because K c p (reason K c p)
  unfolding because jump_at degree
  ten_because e =
      reason_one_of K c p (Because K c p)
      (λ t. by third (jumps_over K (joint c p) third t) (λ z. absurd (omega arith)))
      (λ t. by fourth (jumps_over K (joint c p) fourth (or_true _ _ t (jumped_there K c e))) (λ z. jumps_not_over K (joint c p) third t))
    where
      by : (o : Order) → Over K (joint c p) o → (degree o ≡ 4 → ¬ (Over K (joint c p) third)) → Because K c p (because p (degree o) (jump_at K (joint c p) o))
      by o v first =
          record {
            number_10 = refl;
            place_p = refl;
            knot_p = refl;
            inside = jumped_inside K c e;
            lowest = jumped_first K c e;
            named = o;
            order_is = refl;
            asked = v.asked;
            exceeds = v.over;
            third_first = first;
            jump_is = refl;
            allowance_is = refl;
          }

  -- the same of the test of lists
  pub refused_because : verdict K c ≡ refused 10 p → Because K c p (reason K c p)
  refused_because e = ten_because (ten_of_lists K c e)
