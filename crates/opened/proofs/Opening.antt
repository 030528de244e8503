-- What bytes that were opened leave: the card that they hold wherever their records are in order, which can
-- be read where they are accepted or refused with 10, and one outcome. Assumes nothing.
use Prim.Native.Nat.{ℕ, ◌≤◌, ◌<◌}
use mathlib.Core.Path.{◌≡◌, sym, ap, subst, ◌∙◌}
use mathlib.Core.Bool.{Bool, true, false, cond}
use mathlib.Core.List.{List}
use Rattle.answer.specs.Answer.{refused, accepted}
use Rattle.answer.proofs.Steps.{first_accepts, next_accepts}
use Rattle.answer.proofs.Outcome.{one_outcome, one_judgement}
use Rattle.record.specs.Record.{is_at}
use Rattle.curve.specs.Kind.{Kind, quintic, sloped}
use Rattle.curve.specs.Card.{knots, knot, on, joint}
use Rattle.curve.specs.Steps.{stands, slope_beyond, curvature_beyond, in_range}
use Rattle.curve.specs.Orders.{verdict}
use Rattle.knots.specs.declared.Kind.{Kind as Carried}
use Rattle.knots.specs.Kinds.{quintic_card, sloped_card, kind_of}
use Rattle.knots.proofs.Carried.{quintic_is, sloped_is}
use Rattle.card_bytes.specs.Held.{card_of}
use Rattle.card_bytes.specs.Records.{kind_by, card_verdict}
use Rattle.card_bytes.proofs.RoundTrip.{accepted_card}
use Rattle.card_bytes.proofs.ByHead.{known_by, limits}
use Rattle.decode.specs.declared.Card.{Card as Decoded}
use Rattle.decode.specs.Decoded.{most, decoded, Full, Holds}
use Rattle.decode.proofs.Holding.{holds}
use Rattle.opened.specs.declared.Opened.{Opened}
use Rattle.opened.specs.Steps.{carried_by, shaped, laid_out, Opens, OpenedByHead}
use Rattle.opened.specs.Readable.{Readable}
use Rattle.opened.proofs.Shape.{card_verdict_is, quintic_few, shape_some, shape_room}
use Rattle.opened.proofs.Jumping.{Before10, sound_before_10, jumped_before_10, jumped_inside, ten_of_bytes}
use Rattle.opened.proofs.Fronts.{knots_held, long_fronts}

-- ---- the kind that a head names is one that the code carries

pub carried_kind : (s : List ℕ) → kind_of (carried_by s) ≡ kind_by s
unfolding carried_by kind_by
carried_kind s = go (is_at s 0 sloped.head 6)
  where
    go : (b : Bool) → kind_of (cond b sloped_card quintic_card) ≡ cond b sloped quintic
    go true = sloped_is
    go false = quintic_is

pub opens_by_head : {k : Carried} {o : Opened} (s : List ℕ) → k ≡ carried_by s → Opens k (kind_of k) o s → OpenedByHead o s
opens_by_head {o} s e opens = rw (← carried_kind s, ← e) opens

pub opened_kind : {o : Opened} {s : List ℕ} → OpenedByHead o s → kind_of o.kind ≡ kind_by s
opened_kind {s} opens = ap kind_of opens.kind ∙ carried_kind s

-- the arrays have a place for each of its knots
few_by : (s : List ℕ) → (kind_by s).most_knots ≤ most
few_by s = subst (λ n. n ≤ most) (sym (limits (known_by s)).most) quintic_few

-- ---- a card can be read where each step before 10 has accepted

pub readable : (k : Carried) {d : Decoded} → Full d → quintic.fewest_knots ≤ knots (decoded d) → Before10 (kind_of k) (decoded d) → Readable d
unfolding stands in_range slope_beyond curvature_beyond decoded knots joint knot on
readable k f n b = record { full = f; some = n; checked = record { long = long_fronts f; stand = b.stand; range = b.range } }

module _ {o : Opened} {s : List ℕ} (opens : OpenedByHead o s) where
  pub in_order_holds : shaped (kind_by s) s ≡ accepted → Holds o.card s
  unfolding laid_out
  in_order_holds e = holds s (shape_room (kind_by s) (few_by s) s e).0 (opens.card ∙ ap (λ v. laid_out v s) e)

  in_order_readable : shaped (kind_by s) s ≡ accepted → Before10 (kind_by s) (card_of s) → Readable o.card
  in_order_readable e b =
      let h = in_order_holds e in
      readable (carried_by s) h.full (subst (λ n. n ≤ knots (decoded o.card)) (limits (known_by s)).fewest (rw h.is (shape_some (kind_by s) s e)))
      (subst (λ K. Before10 K (decoded o.card)) (sym (carried_kind s)) (rw h.is b))

  module _ (accepts : card_verdict (kind_by s) s ≡ accepted) where
    in_order : shaped (kind_by s) s ≡ accepted
    in_order = first_accepts _ _ (card_verdict_is (kind_by s) s ∙ accepts)

    pub accepted_holds : Holds o.card s
    accepted_holds = in_order_holds in_order

    pub accepted_sound : verdict (kind_by s) (decoded o.card) ≡ accepted
    accepted_sound = ap (verdict (kind_by s)) accepted_holds.is ∙ accepted_card (kind_by s) s accepts

    pub accepted_readable : Readable o.card
    accepted_readable = in_order_readable in_order (sound_before_10 (kind_by s) (card_of s) (next_accepts _ _ (card_verdict_is (kind_by s) s ∙ accepts)))

  -- refused with 10, at a place of one of its knots
  pub jumped_readable : {p : ℕ} → card_verdict (kind_by s) s ≡ refused 10 p → Readable o.card × (p < o.card.knots) × Holds o.card s
  jumped_readable e =
      let ten = ten_of_bytes (kind_by s) s e in
      let h = in_order_holds ten.0 in
      (in_order_readable ten.0 (jumped_before_10 (kind_by s) (card_of s) ten.1), rw (knots_held h) (jumped_inside (kind_by s) (card_of s) ten.1), h)

pub one_opened : {k : Carried} {K : Kind} {s : List ℕ} {o p : Opened} → Opens k K o s → Opens k K p s → o ≡ p
one_opened {o} {p} x y = λ i. record { verdict = verdicts i; kind = kinds i; card = cards i }
  where
    verdicts : o.verdict ≡ p.verdict
    verdicts = one_judgement x.judged y.judged

    kinds : o.kind ≡ p.kind
    kinds = one_outcome x.kind y.kind

    cards : o.card ≡ p.card
    cards = one_outcome x.card y.card
