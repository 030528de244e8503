-- Document 01, "Numbers of refusal": 14 at a card's records, which kind of card a head opens, and the order
-- of a card's bytes. Assumes nothing.
use Rattle.std.specs.Prelude.{ℕ, ◌≡◌, ◌⊎◌, not, cond, List, ltb, length}
use Rattle.answer.specs.Answer.{Verdict, ◌then◌, refuse, each}
use Rattle.record.specs.Record.{is_at}
use Rattle.curve.specs.Kind.{Kind, quintic, sloped}
use Rattle.curve.specs.Card.{knots}
use Rattle.curve.specs.Steps.{size}
use Rattle.curve.specs.Orders.{card_order}
use Rattle.card_bytes.specs.Held.{start, card_of}

-- "record cut short, wrong kind or length": one that is missing is 14 where it should start
unfoldable pub due : List ℕ → ℕ → ℕ → ℕ → Verdict
due s at kind long = refuse 14 at (not (is_at s at kind long))

unfoldable pub head_due : ℕ → List ℕ → Verdict
head_due head s = due s 0 head 6

unfoldable pub knot_due : List ℕ → ℕ → Verdict
knot_due s i = due s (start i) 2 12

-- "bytes after the end", at the first of them
unfoldable pub end_due : List ℕ → ℕ → Verdict
end_due s n =
    due s (start n) 3 0
    then refuse 14 (size n) (ltb (size n) (length s))

-- "the other records 14"
unfoldable pub records_due : List ℕ → ℕ → Verdict
records_due s n =
    each (knot_due s) 0 n
    then end_due s n

-- the kind of card that bytes open with: order 8's where its head stands; else document 01's, whose head is
-- then due
unfoldable pub kind_by : List ℕ → Kind
kind_by s = cond (is_at s 0 sloped.head 6) sloped quintic

-- the kinds of card that there are
abbrev pub Known : Kind → Type 0
Known K = (K ≡ quintic) ⊎ (K ≡ sloped)

-- "Card: head 14; 1, 2; 15; the other records 14; per knot 4, 5, 6; 9; 10."
unfoldable pub card_verdict : Kind → List ℕ → Verdict
card_verdict K s = card_order K (head_due K.head s) (records_due s (knots (card_of s))) (card_of s)
