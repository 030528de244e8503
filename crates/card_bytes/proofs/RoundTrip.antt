-- The round trip of a card's bytes (document 01, "Card bytes" and the orders of "Numbers of refusal"), for
-- every kind of card: what was written is read back and judged as the lists are; and accepted bytes are those
-- that the writer makes of the card that they hold.
-- Assumes nothing.
use Prim.Native.Nat.{ℕ, ◌^◌, ◌≤◌, ◌<◌}
use mathlib.Core.Path.{◌≡◌, refl, ◌∙◌}
use mathlib.Core.List.{List}
use native.Mathlib.Omega.{arith}
use lib.ListN.{length}
use borrow.Author.Tests.{eq-eqb}
use Rattle.answer.specs.Answer.{accepted, ◌then◌}
use Rattle.answer.proofs.Steps.{first_accepts, next_accepts, both_accept, accepts_refuse}
use Rattle.front.proofs.Listed.{length_listed}
use Rattle.little_endian.specs.Numbers.{Bytes}
use Rattle.curve.specs.Kind.{Kind}
use Rattle.curve.specs.Card.{Card, knots}
use Rattle.curve.specs.Steps.{lengths, counted, size}
use Rattle.curve.specs.Orders.{verdict, card_order, reading_order, reading}
use Rattle.curve.specs.Demand.{Demand3}
use Rattle.curve.proofs.Accepted.{good}
use Rattle.curve.proofs.Demand3.{demand_3}
use Rattle.card_bytes.specs.Bytes.{bytes_of}
use Rattle.card_bytes.specs.Held.{minute_at, ordinate_at, slope_at, curvature_at, count_at, card_of}
use Rattle.card_bytes.specs.Records.{head_due, card_verdict}
use Rattle.card_bytes.proofs.Standing.{knots_of, Whole, whole, whole_headed, whole_recorded, whole_size}
use Rattle.card_bytes.proofs.Made.{made}
use Rattle.card_bytes.proofs.Kept.{Numbers, Lent, kept}

-- lists of one length pass 3
same_lengths : {n ys ms Ms : ℕ} → ys ≡ n → ms ≡ n → Ms ≡ n → lengths n ys ms Ms ≡ accepted
unfolding lengths
same_lengths {n} y m M = accepts_refuse 3 0 (rw (y, m, M, eq-eqb n n refl))

module _ (K : Kind) where
  -- ---- what was written

  -- its check is the check of the lists
  pub judged_alike : (c : Card) → K.head < 2 ^ 16 → Lent c → card_verdict K (bytes_of K c) ≡ verdict K c
  unfolding card_verdict card_order verdict ◌then◌
  judged_alike c small h =
      let k = kept K c small h in
      rw (k.card, whole_headed k.whole, whole_recorded k.whole, same_lengths h.ordinates h.slopes h.curvatures)

  -- lists of numbers of their types that are accepted have one length
  lent : (c : Card) → K.most_knots < 2 ^ 16 → Numbers c → verdict K c ≡ accepted → Lent c
  lent c few h e =
      let g = good K c e in
      record { numbers = h; count = omega (arith, g.many); ordinates = g.ys; slopes = g.ms; curvatures = g.Ms }

  pub record Returned (c : Card) : Type 0 where
    pub card : card_of (bytes_of K c) ≡ c
    pub accepts : card_verdict K (bytes_of K c) ≡ accepted

  pub read_written : (c : Card) → K.head < 2 ^ 16 → K.most_knots < 2 ^ 16 → Numbers c → verdict K c ≡ accepted → Returned c
  read_written c small few h e =
      let l = lent c few h e in
      record { card = (kept K c small l).card; accepts = judged_alike c small l ∙ e }

  -- ---- accepted bytes

  module _ (s : List ℕ) (e : card_verdict K s ≡ accepted) where
    pub accepted_whole : Whole K.head s (count_at s)
    unfolding card_verdict card_order
    accepted_whole = whole (first_accepts _ _ e) (rw (knots_of s) at (first_accepts _ _ (next_accepts _ _ (next_accepts _ _ (next_accepts _ _ e)))))

    pub accepted_card : verdict K (card_of s) ≡ accepted
    unfolding card_verdict card_order verdict knots card_of
    accepted_card =
        let n = count_at s in
        let e1 = next_accepts (head_due K.head s) _ e in
        let e2 = next_accepts (counted K _) _ e1 in
        let x = length_listed (minute_at s) n in
        both_accept
        (rw x (same_lengths (length_listed (ordinate_at s) n) (length_listed (slope_at s) n) (length_listed (curvature_at s) n)))
        (both_accept (first_accepts _ _ e1) (both_accept (first_accepts _ _ e2) (next_accepts _ _ (next_accepts _ _ e2))))

    -- the writer makes them again of the card that they hold
    pub written_again : Bytes s → s ≡ bytes_of K (card_of s)
    written_again b = made s b K accepted_whole

    pub accepted_size : length s ≡ size (knots (card_of s))
    accepted_size = rw (knots_of s) (whole_size accepted_whole)

    -- ---- demand 3 of the bytes

    pub demand_3_of_bytes : 2 ≤ K.fewest_knots → Demand3 K (card_of s)
    demand_3_of_bytes some = demand_3 K (card_of s) some accepted_card

    pub reads_its_card : (minute : ℕ) → reading_order (card_verdict K s) (card_of s) minute ≡ reading K (card_of s) minute
    unfolding reading reading_order ◌then◌
    reads_its_card minute = rw (e, accepted_card)
