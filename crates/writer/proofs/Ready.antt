-- The writer's order in the pieces that the code takes, and what their acceptance leaves: lists of one
-- length, no longer than a card has knots, and room for its bytes. Assumes nothing.
use Prim.Native.Nat.{ℕ, ◌≤◌}
use mathlib.Core.Path.{◌≡◌, ap, ◌∙◌}
use native.Mathlib.Omega.{arith}
use mathlib.Core.List.{List}
use lib.Dec.{lit≤}
use lib.ListN.{length}
use lib.Seq.{sets}
use borrow.Author.Tests.{ltb-false}
use Rattle.answer.specs.Answer.{refused, Verdict, accepted, ◌then◌}
use Rattle.answer.proofs.Steps.{then_assoc, first_accepts, next_accepts, refuse_accepts}
use Rattle.answer.proofs.Lent.{after_refused, after_stored}
use Rattle.curve.specs.Kind.{Kind, quintic}
use Rattle.curve.specs.Card.{Card, knots}
use Rattle.curve.specs.Steps.{lengths, counted, codes, size, room}
use Rattle.curve.specs.Orders.{sound, verdict, write_order}
use Rattle.curve.proofs.Accepted.{same_lengths, good}
use Rattle.knots.specs.declared.Kind.{Kind as Carried}
use Rattle.knots.specs.Kinds.{kind_of}
use Rattle.lists.specs.Lists.{Long}
use Rattle.card_bytes.specs.Bytes.{bytes_of}
use Rattle.card_bytes.proofs.Sizes.{length_card}
use Rattle.decode.specs.Decoded.{most}
use Rattle.writer.specs.Promise.{written, Writes}

-- "3, 1, 2, 15"; `named` is 15
abbrev pub sizes_named : Kind → Card → Verdict → Verdict
sizes_named K c named = lengths (knots c) (length c.ordinates) (length c.slopes) (length c.curvatures) then counted K (knots c) then named

abbrev pub sizes : Kind → Card → Verdict
sizes K c = sizes_named K c (codes K c.left c.right)

pub sizes_then : (K : Kind) (c : Card) → (sizes K c then sound K c) ≡ verdict K c
unfolding verdict
sizes_then K c =
    let same = lengths (knots c) (length c.ordinates) (length c.slopes) (length c.curvatures) in
    then_assoc same _ _ ∙ ap (λ v. same then v) (then_assoc (counted K (knots c)) _ _)

-- every kind that the code carries has the same limit of count
few : (k : Carried) → (kind_of k).most_knots ≤ most
unfolding quintic
few k = lit≤ tt

pub long_lists : (k : Carried) (c : Card) → sizes (kind_of k) c ≡ accepted → Long c.minutes c.ordinates c.slopes c.curvatures
unfolding knots counted
long_lists k c e =
    let h = few k in
    let same = same_lengths _ _ _ _ (first_accepts _ _ e) in
    let many = ltb-false (kind_of k).most_knots _ (refuse_accepts 2 0 _ (next_accepts _ _ (first_accepts _ _ (next_accepts (lengths _ _ _ _) _ e)))) in
    record { few = omega arith; ordinates = same.0; slopes = same.1; curvatures = same.2 }

pub accepted_few : (k : Carried) (c : Card) → verdict (kind_of k) c ≡ accepted → knots c ≤ most
accepted_few k c e = let h = few k in let g = (good (kind_of k) c e).many in omega arith

pub record Ready (c : Card) (lent : ℕ) : Type 0 where
  pub few : length c.minutes ≤ most
  pub ordinates : length c.ordinates ≡ length c.minutes
  pub slopes : length c.slopes ≡ length c.minutes
  pub curvatures : length c.curvatures ≡ length c.minutes
  pub room : size (length c.minutes) ≤ lent

pub has_room : (K : Kind) (c : Card) (lent : ℕ) → write_order K c lent ≡ accepted → size (knots c) ≤ lent
unfolding write_order room
has_room K c lent e = ltb-false _ _ (refuse_accepts 26 0 _ (next_accepts (verdict K c) _ e))

pub ready_of : (k : Carried) (c : Card) (lent : ℕ) → write_order (kind_of k) c lent ≡ accepted → Ready c lent
unfolding write_order knots
ready_of k c lent e =
    let g = good (kind_of k) c (first_accepts _ _ e) in
    record {
      few = accepted_few k c (first_accepts _ _ e);
      ordinates = g.ys;
      slopes = g.ms;
      curvatures = g.Ms;
      room = has_room (kind_of k) c lent e;
    }

-- ---- what the buffer holds afterwards

module _ (K : Kind) (c : Card) (entry : List ℕ) where
  pub writes_refused : {n p : ℕ} → write_order K c (length entry) ≡ refused n p → Writes K c entry entry (record { number = n; place = p; bytes = 0 })
  unfolding written
  writes_refused e = record { answer = rw e; buffer = after_refused (bytes_of K c) entry e }

  pub writes_given : {exit : List ℕ} → write_order K c (length entry) ≡ accepted → exit ≡ sets entry 0 (bytes_of K c) → Writes K c entry exit (record { number = 0; place = 0; bytes = size (length c.minutes) })
  unfolding written knots
  writes_given e stored =
      let l : length (bytes_of K c) ≤ length entry = rw (length_card K c) (has_room K c (length entry) e) in
      record { answer = rw e; buffer = after_stored (bytes_of K c) entry e l stored }
