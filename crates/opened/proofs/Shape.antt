-- The card's own verdict in the pieces that the code takes, and what each piece leaves once it has accepted.
-- Assumes nothing.
use Prim.Native.Nat.{ℕ, ◌≤◌}
use mathlib.Core.Path.{◌≡◌, sym, ◌∙◌, ap}
use mathlib.Core.List.{List}
use native.Mathlib.Omega.{arith}
use lib.Dec.{lit≤}
use lib.ListN.{length}
use borrow.Author.Tests.{ltb-false}
use Rattle.answer.specs.Answer.{accepted, ◌then◌}
use Rattle.answer.proofs.Steps.{then_assoc, first_accepts, next_accepts, refuse_accepts}
use Rattle.little_endian.specs.Numbers.{num_at}
use Rattle.record.proofs.Records.{standing}
use Rattle.curve.specs.Kind.{Kind, quintic}
use Rattle.curve.specs.Card.{knots}
use Rattle.curve.specs.Steps.{counted, codes}
use Rattle.curve.specs.Orders.{sound, card_order}
use Rattle.card_bytes.specs.Held.{start, count_at, card_of}
use Rattle.card_bytes.specs.Records.{head_due, records_due, card_verdict}
use Rattle.card_bytes.proofs.Standing.{knots_of, due_stands, whole, whole_size}
use Rattle.decode.specs.Decoded.{most}
use Rattle.opened.specs.Steps.{limited, behind_head, shaped}

-- the same steps, bracketed as the definitions have them
pub card_verdict_is : (K : Kind) (s : List ℕ) → (shaped K s then sound K (card_of s)) ≡ card_verdict K s
unfolding shaped behind_head limited card_verdict card_order card_of
card_verdict_is K s =
    let n = count_at s in
    let left = num_at 2 s 6 in
    let right = num_at 2 s 8 in
    then_assoc (head_due K.head s) (behind_head K s) _
    ∙ ap (λ v. head_due K.head s then v) (then_assoc (limited K n left right) (records_due s n) _ ∙ then_assoc (counted K n) (codes K left right) _)
    ∙ ap (λ n. head_due K.head s then (counted K n then (codes K left right then (records_due s n then sound K (card_of s))))) (sym (knots_of s))

-- ---- what an acceptance leaves

pub headed : (head : ℕ) (s : List ℕ) → head_due head s ≡ accepted → 10 ≤ length s
unfolding head_due
headed head s e = (standing s 0 head 6 (due_stands s 0 head 6 e)).whole

-- the arrays have a place for each knot that a kind allows
pub quintic_few : quintic.most_knots ≤ most
unfolding quintic
quintic_few = lit≤ tt

pub shape_some : (K : Kind) (s : List ℕ) → shaped K s ≡ accepted → K.fewest_knots ≤ knots (card_of s)
unfolding shaped behind_head limited counted
shape_some K s e =
    rw (knots_of s) (ltb-false (count_at s) K.fewest_knots (refuse_accepts 1 0 _ (first_accepts _ _ (first_accepts _ _ (first_accepts _ _ (next_accepts (head_due K.head s) _ e))))))

module _ (K : Kind) (few : K.most_knots ≤ most) (s : List ℕ) where
  pub shape_room : shaped K s ≡ accepted → (count_at s ≤ most) × (start (count_at s) ≤ length s)
  unfolding shaped behind_head limited counted
  shape_room e =
      let b = next_accepts (head_due K.head s) _ e in
      let n = ltb-false K.most_knots (count_at s) (refuse_accepts 2 0 _ (next_accepts _ _ (first_accepts _ _ (first_accepts _ _ b)))) in
      (omega arith, omega (arith, whole_size (whole (first_accepts _ _ e) (next_accepts _ _ b))))
