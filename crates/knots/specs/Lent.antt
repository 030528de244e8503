-- The card that lent lists hold. Document 01, "The curve and its card".
-- Assumes nothing.
use Rattle.std.specs.Prelude.{ℕ, List, ℤ}
use Rattle.curve.specs.Card.{Card}
use Rattle.knots.specs.declared.Lent.{Lent}

abbrev pub lent : (xs : List ℕ) (ys ms Ms : List ℤ) (left right : ℕ) → Card
lent xs ys ms Ms left right = record { minutes = xs; ordinates = ys; slopes = ms; curvatures = Ms; left = left; right = right }

-- the same of the code's struct
abbrev pub card_lent : Lent → Card
card_lent l = lent l.minutes.now l.ordinates.now l.slopes.now l.curvatures.now l.left l.right
