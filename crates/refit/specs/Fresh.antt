-- The fresh fit of a card: its own knots fitted anew, between ends of its own codes or by its own slopes, and
-- the order of its refusals. Document 01, "The curve and its card", "Numbers of refusal"; document 02, order
-- 8. Assumes nothing.
use Rattle.std.specs.Prelude.{ℕ, ◌-◌, cond, List}
use Rattle.answer.specs.Answer.{Answer, ◌then◌}
use Rattle.curve.specs.Kind.{Kind}
use Rattle.curve.specs.Card.{Card, knots, knot}
use Rattle.curve.specs.Orders.{lists_order}
use Rattle.lines.specs.Lines.{hundredths}
use Rattle.fit.specs.Fit.{fit_codes}
use Rattle.slope_fit.specs.SlopesFit.{slopes_fit}
use Rattle.card_bytes.specs.Held.{card_of}
use Rattle.card_bytes.specs.Records.{kind_by}
use Rattle.card.specs.Answers.{own}

-- each end has the card's code, and is given the card's own numbers there, in hundredths per minute (squared)
unfoldable pub fresh_between : Card → Answer Card
fresh_between c =
    let first = knot c 0 in
    let last = knot c (knots c - 1) in
    fit_codes c.minutes c.ordinates (knots c) (knots c) c.left (hundredths first.m) (hundredths first.M) c.right (hundredths last.m) (hundredths last.M)

-- where a kind's slopes are given, its curvatures alone, by the card's own slopes
unfoldable pub fresh : Kind → Card → Answer Card
fresh K c = cond K.slopes_given (slopes_fit c.minutes c.ordinates c.slopes (knots c)) (fresh_between c)

-- "Card into lent lists: 3, the card's, 26", of two lists; then the fit's own. Of their lengths and the card's bytes
unfoldable pub refit : (ms Ms : ℕ) → List ℕ → Answer Card
refit ms Ms s = lists_order ms ms ms Ms (own s) (knots (card_of s)) then fresh (kind_by s) (card_of s)
