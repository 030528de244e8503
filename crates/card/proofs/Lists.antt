-- What the answers and the lent lists are, from what the code has: an opened card, the verdict, and the lists
-- that were given. Assumes nothing.
use Prim.Native.Nat.{ℕ, ◌≤◌}
use mathlib.Core.Path.{◌≡◌, refl, ◌∙◌, ap, ap₂}
use mathlib.Core.List.{List, ◌++◌}
use lib.ListN.{length, drop}
use borrow.Author.Tests.{ltb-false}
use Rattle.answer.specs.Answer.{refused, given, Verdict, accepted}
use Rattle.answer.specs.Judge.{verdict_of}
use Rattle.answer.proofs.Steps.{then_same, first_accepts, next_accepts, refuse_accepts}
use Rattle.answer.proofs.Lent.{after_refused, after_given}
use Rattle.curve.specs.Kind.{Kind}
use Rattle.curve.specs.Card.{Card, knots}
use Rattle.curve.specs.Steps.{lengths, room}
use Rattle.curve.specs.Orders.{lists_order}
use Rattle.curve.proofs.Accepted.{same_lengths}
use Rattle.card_bytes.specs.Held.{card_of}
use Rattle.card_bytes.specs.Records.{kind_by}
use Rattle.decode.specs.declared.Card.{Card as Decoded}
use Rattle.decode.specs.Decoded.{decoded, Holds}
use Rattle.opened.specs.declared.Opened.{Opened}
use Rattle.opened.specs.Steps.{OpenedByHead}
use Rattle.opened.proofs.Fronts.{knots_held, fronts}
use Rattle.opened.proofs.Opening.{accepted_holds}
use Rattle.card.specs.declared.Checked.{Checked}
use Rattle.card.specs.Answers.{own, checked}
use Rattle.card.specs.Promise.{Lists, into, Reads}

-- an answer to a verdict on one card is that to the same verdict on another of the same kind, if they are the
-- same where it accepts
pub checked_same : {r : Checked} {v : Verdict} (w : Verdict) {K L : Kind} {c d : Card} → r ≡ checked v L d → v ≡ w → L ≡ K → (w ≡ accepted → d ≡ c) → r ≡ checked w K c
unfolding checked
checked_same {r} {v} w {K} {L} {c} {d} p q e f = p ∙ ap₂ (λ u M. checked u M d) q e ∙ go w f
  where
    go : (w : Verdict) → (w ≡ accepted → d ≡ c) → checked w K d ≡ checked w K c
    go (refused n p) f = refl
    go (given u) f = ap (checked (given u) K) (f refl)

-- ---- the order of lent lists, by their lengths

module _ (xs ys ms Ms : ℕ) (s : List ℕ) where
  -- "3, the card's, 26", of what was opened
  pub opened_order : {o : Opened} → OpenedByHead o s → lists_order xs ys ms Ms (verdict_of o.verdict) o.card.knots ≡ lists_order xs ys ms Ms (own s) (knots (card_of s))
  unfolding lists_order
  opened_order o = then_same refl (λ e. then_same o.judged (λ a. ap (λ n. room n xs) (knots_held (accepted_holds o a))))

  -- what an acceptance leaves
  pub record Taken : Type 0 where
    pub own : own s ≡ accepted
    pub ordinates : ys ≡ xs
    pub slopes : ms ≡ xs
    pub curvatures : Ms ≡ xs
    pub room : knots (card_of s) ≤ xs

  pub order_takes : lists_order xs ys ms Ms (own s) (knots (card_of s)) ≡ accepted → Taken
  unfolding lists_order room
  order_takes e =
      let n = next_accepts (lengths _ _ _ _) _ e in
      let same = same_lengths xs ys ms Ms (first_accepts _ _ e) in
      record {
        own = first_accepts _ _ n;
        ordinates = same.0;
        slopes = same.1;
        curvatures = same.2;
        room = ltb-false _ _ (refuse_accepts 26 0 _ (next_accepts _ _ n));
      }

-- ---- four lent lists

module _ (l : Lists) (s : List ℕ) where
  pub into_is : {o : Opened} → OpenedByHead o s
      → lists_order (length l.minutes) (length l.ordinates) (length l.slopes) (length l.curvatures) (verdict_of o.verdict) o.card.knots ≡ into l s
  unfolding into
  into_is o = opened_order _ _ _ _ s o

  pub taken : into l s ≡ accepted → Taken (length l.minutes) (length l.ordinates) (length l.slopes) (length l.curvatures) s
  unfolding into
  taken e = order_takes _ _ _ _ s e

  -- ---- what the lists hold afterwards

  pub reads_refused : {r : Checked} {n p : ℕ} → r ≡ checked (into l s) (kind_by s) (card_of s) → into l s ≡ refused n p → Reads s l l r
  reads_refused a e = record { answer = a; minutes = after_refused _ _ e; ordinates = after_refused _ _ e; slopes = after_refused _ _ e; curvatures = after_refused _ _ e }

  -- a card's lists over the fronts of four
  abbrev Gives : Decoded → Lists → Type 0
  Gives d exit =
      (exit.minutes ≡ (decoded d).minutes ++ drop d.knots l.minutes)
      × ((exit.ordinates ≡ (decoded d).ordinates ++ drop d.knots l.ordinates)
      × ((exit.slopes ≡ (decoded d).slopes ++ drop d.knots l.slopes)
      × (exit.curvatures ≡ (decoded d).curvatures ++ drop d.knots l.curvatures)))

  pub reads_given : {exit : Lists} {r : Checked} {d : Decoded} → r ≡ checked (into l s) (kind_by s) (card_of s) → into l s ≡ accepted → Holds d s → Gives d exit → Reads s l exit r
  reads_given a e h g =
      let f = fronts h in
      let gives = rw h.is at g in
      record {
        answer = a;
        minutes = after_given _ _ e f.minutes gives.0;
        ordinates = after_given _ _ e f.ordinates gives.1.0;
        slopes = after_given _ _ e f.slopes gives.1.1.0;
        curvatures = after_given _ _ e f.curvatures gives.1.1.1;
      }
