-- Which kind of card a head opens: document 01's or order 8's, whose limits are the same; what is written as
-- a card of one of them, and what is accepted as one, opens with its head; no byte behind the head has a say;
-- and the round trip and demand 3 by the kind that the head names. Assumes nothing.
use Prim.Native.Nat.{ℕ, ◌^◌, ◌≤◌, ◌<◌}
use mathlib.Core.Path.{◌≡◌, refl, sym, ap, ◌∙◌}
use mathlib.Core.Logic.{◌⊎◌, inl, inr}
use mathlib.Core.Bool.{Bool, true, false, cond}
use mathlib.Core.List.{List}
use lib.ListN.{length, take}
use native.Mathlib.Omega.{arith}
use lib.Dec.{eqb, lit<}
use Rattle.answer.specs.Answer.{accepted}
use Rattle.record.specs.Record.{is_at}
use Rattle.record.proofs.Records.{standing, of_kind}
use Rattle.record.proofs.Fronts.{record_in_front}
use Rattle.curve.specs.Kind.{Kind, quintic, sloped}
use Rattle.curve.specs.Card.{Card, knots}
use Rattle.curve.specs.Orders.{verdict}
use Rattle.curve.specs.Demand.{Demand3}
use Rattle.curve.proofs.Accepted.{Good, good}
use Rattle.card_bytes.specs.Bytes.{bytes_of}
use Rattle.card_bytes.specs.Held.{card_of}
use Rattle.card_bytes.specs.Records.{kind_by, card_verdict, Known}
use Rattle.card_bytes.proofs.Kept.{Numbers, head_stands}
use Rattle.card_bytes.proofs.RoundTrip.{read_written, accepted_whole, accepted_card, demand_3_of_bytes}

pub known_by : (s : List ℕ) → Known (kind_by s)
unfolding kind_by
known_by s = go (is_at s 0 sloped.head 6)
  where
    go : (b : Bool) → Known (cond b sloped quintic)
    go true = inr refl
    go false = inl refl

-- ---- its limits

pub record Limits (K : Kind) : Type 0 where
  pub head : K.head < 2 ^ 16
  pub fewest : K.fewest_knots ≡ quintic.fewest_knots
  pub most : K.most_knots ≡ quintic.most_knots

pub limits : {K : Kind} → Known K → Limits K
unfolding quintic sloped
limits (inl e) = rw e (record { head = lit< tt; fewest = refl; most = refl })
limits (inr e) = rw e (record { head = lit< tt; fewest = refl; most = refl })

-- ---- its head

module _ {K : Kind} (known : Known K) where
  pub headed_kind : (s : List ℕ) → is_at s 0 K.head 6 ≡ true → kind_by s ≡ K
  unfolding kind_by quintic sloped
  headed_kind s t = go known
    where
      go : Known K → kind_by s ≡ K
      go (inl e) =
          let h = standing s 0 1 6 (ap (λ K. is_at s 0 K.head 6) (sym e) ∙ t) in
          ap (λ b. cond b sloped quintic) (sym (of_kind s 0 6 6 h.whole h.has_length) ∙ ap (λ kind. eqb kind 6) h.has_kind) ∙ sym e
      go (inr e) = ap (λ b. cond b sloped quintic) (ap (λ K. is_at s 0 K.head 6) (sym e) ∙ t) ∙ sym e

  pub written_kind : (c : Card) → kind_by (bytes_of K c) ≡ K
  written_kind c = headed_kind (bytes_of K c) (head_stands K c (limits known).head).is

  pub accepted_kind : (s : List ℕ) → card_verdict K s ≡ accepted → kind_by s ≡ K
  accepted_kind s e = headed_kind s (accepted_whole K s e).headed

  -- what was written is read back as a card of its kind
  pub record ReadBack (c : Card) : Type 0 where
    pub card : card_of (bytes_of K c) ≡ c
    pub kind : kind_by (bytes_of K c) ≡ K
    pub accepts : card_verdict (kind_by (bytes_of K c)) (bytes_of K c) ≡ accepted

  pub read_back : (c : Card) → Numbers c → verdict K c ≡ accepted → ReadBack c
  unfolding quintic
  read_back c h e =
      let l = limits known in
      let r = read_written K c l.head (omega (arith, l.most)) h e in
      let k = written_kind c in
      record { card = r.card; kind = k; accepts = ap (λ L. card_verdict L (bytes_of K c)) k ∙ r.accepts }

-- ---- accepted bytes

module _ (s : List ℕ) (e : card_verdict (kind_by s) s ≡ accepted) where
  pub accepted_good : Good (kind_by s) (card_of s)
  accepted_good = good (kind_by s) (card_of s) (accepted_card (kind_by s) s e)

  -- as many knots as document 01 allows
  pub record Counted : Type 0 where
    pub some : quintic.fewest_knots ≤ knots (card_of s)
    pub many : knots (card_of s) ≤ quintic.most_knots

  pub accepted_count : Counted
  accepted_count =
      let l = limits (known_by s) in
      let g = accepted_good in
      record { some = omega (arith, l.fewest, g.few); many = omega (arith, l.most, g.many) }

  pub demand_3_by_head : Demand3 (kind_by s) (card_of s)
  unfolding quintic
  demand_3_by_head = demand_3_of_bytes (kind_by s) s e (omega (arith, (limits (known_by s)).fewest))

-- ---- what stands behind the head

pub kind_in_front : (n : ℕ) (s : List ℕ) → n ≤ length s → 10 ≤ n → kind_by (take n s) ≡ kind_by s
unfolding kind_by
kind_in_front n s room long = ap (λ b. cond b sloped quintic) (record_in_front n s 0 sloped.head 6 room long)
