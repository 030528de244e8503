-- What the card's functions answer: document 01, "Numbers of refusal", the orders of the card and of the
-- reading, for either kind of card. "A refusal returns zeros beside number and place". Assumes nothing.
use Rattle.std.specs.Prelude.{ℕ, List}
use Rattle.answer.specs.Answer.{refused, given, Verdict}
use Rattle.curve.specs.Kind.{Kind}
use Rattle.curve.specs.Card.{Card, knots}
use Rattle.card_bytes.specs.Held.{card_of}
use Rattle.card_bytes.specs.Records.{kind_by, card_verdict}
use Rattle.lists.specs.declared.CardReading.{CardReading}
use Rattle.lists.specs.Lists.{answer_at}
use Rattle.card.specs.declared.Checked.{Checked}

-- the card's own verdict, as the kind of card that its head names
abbrev pub own : List ℕ → Verdict
own s = card_verdict (kind_by s) s

-- the number of knots, the codes and the kind of a card that is accepted
unfoldable pub checked : Verdict → Kind → Card → Checked
checked (refused n p) K c = record { number = n; place = p; knots = 0; left = 0; right = 0; kind = 0 }
checked (given u) K c = record { number = 0; place = 0; knots = knots c; left = c.left; right = c.right; kind = K.head }

-- "Reading: the card's, then 11."
unfoldable pub read_off : List ℕ → ℕ → CardReading
read_off s minute = answer_at (own s) (card_of s) minute
