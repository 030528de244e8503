-- The steps of the card's order in the pieces that the code takes, and what it has of a card's bytes once
-- they are opened. Document 01, "Numbers of refusal": "Card: head 14; 1, 2; 15; the other records 14; per
-- knot 4, 5, 6; 9; 10." Assumes nothing.
use Rattle.std.specs.Prelude.{ℕ, ◌≡◌, cond, List}
use Rattle.answer.specs.Answer.{refused, given, Verdict, ◌then◌}
use Rattle.answer.specs.Judge.{verdict_of}
use Rattle.little_endian.specs.Numbers.{num_at}
use Rattle.record.specs.Record.{is_at}
use Rattle.curve.specs.Kind.{Kind, sloped}
use Rattle.curve.specs.Steps.{counted, codes}
use Rattle.knots.specs.declared.Kind.{Kind as Carried}
use Rattle.knots.specs.Kinds.{quintic_card, sloped_card}
use Rattle.card_bytes.specs.Held.{count_at}
use Rattle.card_bytes.specs.Records.{head_due, records_due, kind_by, card_verdict}
use Rattle.decode.specs.declared.Card.{Card as Decoded}
use Rattle.decode.specs.Decoded.{held, none}
use Rattle.opened.specs.declared.Opened.{Opened}

-- "1, 2; 15"
unfoldable pub limited : Kind → (n left right : ℕ) → Verdict
limited K n left right = counted K n then codes K left right

-- "1, 2; 15; the other records 14", by the numbers of the head
unfoldable pub behind_head : Kind → List ℕ → Verdict
behind_head K s = limited K (count_at s) (num_at 2 s 6) (num_at 2 s 8) then records_due s (count_at s)

-- "head 14" before them
unfoldable pub shaped : Kind → List ℕ → Verdict
shaped K s = head_due K.head s then behind_head K s

-- the card that bytes hold, where their records are in order; zeros where they are not
unfoldable pub laid_out : Verdict → List ℕ → Decoded
laid_out (refused n p) s = none
laid_out (given u) s = held s

-- the kind of card that a head names, as the code carries it
unfoldable pub carried_by : List ℕ → Carried
carried_by s = cond (is_at s 0 sloped.head 6) sloped_card quintic_card

-- bytes that were opened as a kind that the code carries: judged, and decoded wherever their records are in
-- order
pub record Opens (k : Carried) (K : Kind) (o : Opened) (s : List ℕ) : Type 0 where
  pub kind : o.kind ≡ k
  pub judged : verdict_of o.verdict ≡ card_verdict K s
  pub card : o.card ≡ laid_out (shaped K s) s

abbrev pub OpenedByHead : Opened → List ℕ → Type 0
OpenedByHead o s = Opens (carried_by s) (kind_by s) o s
