-- What the lister prints for the bytes of its input: document 01, "Two programs".
-- Assumes nothing.
use Rattle.std.specs.Prelude.{ℕ, List, []}
use Rattle.answer.specs.Answer.{Verdict, refused, given}
use Rattle.curve.specs.Card.{Card}
use Rattle.card_bytes.specs.Held.{card_of}
use Rattle.card.specs.Answers.{own}
use Rattle.listing.specs.Text.{listing}

-- a card holds no faults: no line of it has any
unfoldable pub card_listing : Verdict → Card → List ℕ
card_listing (refused number place) c = listing number place [] [] [] [] []
card_listing (given u) c = listing 0 0 c.minutes c.ordinates c.slopes c.curvatures []

-- the card's own verdict, and the card that the bytes hold
unfoldable pub printed : List ℕ → List ℕ
printed s = card_listing (own s) (card_of s)
