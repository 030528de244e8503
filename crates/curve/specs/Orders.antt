-- Document 01, "Numbers of refusal", its last paragraph: the orders, each a chain of the same steps. The log's is with the mean.
-- Assumes nothing.
use Rattle.std.specs.Prelude.{ℕ, length}
use Rattle.answer.specs.Answer.{Answer, given, Verdict, ◌then◌, each}
use Rattle.curve.specs.Kind.{Kind}
use Rattle.curve.specs.Card.{Card, knots}
use Rattle.curve.specs.Steps.{lengths, counted, codes, stands, in_range, smooth, outside, size, room}
use Rattle.curve.specs.Reading.{Reading, reads_at}

-- "9; 10"
unfoldable pub numbers_sound : Kind → Card → Verdict
numbers_sound K c =
    each (in_range K c) 0 (knots c)
    then each (smooth K c) 0 (knots c)

-- "per knot 4, 5, 6; 9; 10"
unfoldable pub sound : Kind → Card → Verdict
sound K c =
    each (stands K c.minutes c.ordinates) 0 (knots c)
    then numbers_sound K c

-- the test of a card in lists: 3, 1, 2, 15; per knot 4, 5, 6; 9; 10
unfoldable pub verdict : Kind → Card → Verdict
verdict K c =
    lengths (knots c) (length c.ordinates) (length c.slopes) (length c.curvatures)
    then counted K (knots c)
    then codes K c.left c.right
    then sound K c

-- "Fit: 3, 1, 2, and 15 where ends come as code numbers; then per knot 4, 5, 6; then 7 left, right; 8 forward
-- then back; 9; 10." ms and Ms are the lengths of the lists lent for slopes and curvatures; `named` is 15,
-- `numbers` is of those that come with the knots: 7 of the ends', or 9 of the slopes (order 8: "9 for the
-- given slopes before 8"); `passes` is 8; c is the card that the passes give.
unfoldable pub fit_order : Kind → (ms Ms : ℕ) → (named numbers passes : Verdict) → Card → Verdict
fit_order K ms Ms named numbers passes c =
    lengths (knots c) (length c.ordinates) ms Ms
    then counted K (knots c)
    then named
    then each (stands K c.minutes c.ordinates) 0 (knots c)
    then numbers
    then passes
    then numbers_sound K c

-- "Card: head 14; 1, 2; 15; the other records 14; per knot 4, 5, 6; 9; 10." c is the card that the bytes hold.
unfoldable pub card_order : Kind → (head records : Verdict) → Card → Verdict
card_order K head records c =
    head
    then counted K (knots c)
    then codes K c.left c.right
    then records
    then sound K c

-- "Card into lent lists: 3, the card's, 26." Four lengths of lent lists, the card's own verdict and its number of knots.
unfoldable pub lists_order : (xs ys ms Ms : ℕ) → Verdict → ℕ → Verdict
lists_order xs ys ms Ms own n = lengths xs ys ms Ms then own then room n xs

-- "Writer: 3, 1, 2, 15; per knot 4, 5, 6; 9; 10; 26."
unfoldable pub write_order : Kind → Card → ℕ → Verdict
write_order K c lent = verdict K c then room (size (knots c)) lent

-- "Reading: the card's, then 11."
unfoldable pub reading_order : Verdict → Card → ℕ → Answer Reading
reading_order own c minute = own then outside c.minutes minute then given (reads_at c minute)

unfoldable pub reading : Kind → Card → ℕ → Answer Reading
reading K c minute = reading_order (verdict K c) c minute
