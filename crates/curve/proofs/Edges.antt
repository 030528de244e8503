-- Document 01, "Numbers of refusal": 9, 11, 15 and 26 at their limits, each with its place, by computation of
-- the definitions. 7 is computed with the ends of a fit. Assumes nothing.
use mathlib.Core.Path.{◌≡◌, refl}
use mathlib.Core.List.{[], ◌∷◌}
use lib.IntN.{ℤ, pos}
use Rattle.whole.specs.Whole.{minus, beyond}
use Rattle.answer.specs.Answer.{Verdict, refused, accepted, ◌then◌, refuse, each}
use Rattle.curve.specs.Kind.{quintic}
use Rattle.curve.specs.Card.{Card, knots, knot, back, on, gap, spot, joint}
use Rattle.curve.specs.Steps.{slope_beyond, curvature_beyond, lengths, codes, in_range, outside, size, room}
use Rattle.curve.specs.Orders.{lists_order}

-- a slope and a curvature at place 1
abbrev ranged : ℤ → ℤ → Verdict
ranged m M = each (in_range quintic card) 0 3
  where
    card : Card
    card = record { minutes = 0 ∷ 1 ∷ 2 ∷ []; ordinates = pos 0 ∷ pos 0 ∷ pos 0 ∷ []; slopes = pos 0 ∷ m ∷ pos 0 ∷ []; curvatures = pos 0 ∷ M ∷ pos 0 ∷ []; left = 0; right = 0 }

pub nine :
    ranged (pos 1_048_576) (minus 1_048_576) ∷ ranged (minus 1_048_576) (pos 1_048_576) ∷ ranged (pos 1_048_577) (pos 0) ∷ ranged (minus 1_048_577) (pos 0) ∷ ranged (pos 0) (pos 1_048_577)
    ∷ ranged (pos 0) (minus 1_048_577) ∷ []
    ≡ accepted ∷ accepted ∷ refused 9 1 ∷ refused 9 1 ∷ refused 9 1 ∷ refused 9 1 ∷ []
unfolding quintic each in_range slope_beyond curvature_beyond beyond joint spot knots knot back on gap refuse ◌then◌
nine = refl

-- of a card from minute 5 to 12: the minute before, both ends, the minute behind
pub eleven : outside (5 ∷ 8 ∷ 12 ∷ []) 4 ∷ outside (5 ∷ 8 ∷ 12 ∷ []) 5 ∷ outside (5 ∷ 8 ∷ 12 ∷ []) 12 ∷ outside (5 ∷ 8 ∷ 12 ∷ []) 13 ∷ []
    ≡ refused 11 0 ∷ accepted ∷ accepted ∷ refused 11 0 ∷ []
unfolding outside refuse
eleven = refl

-- "0 left, 1 right": the left one first
pub fifteen : codes quintic 2 2 ∷ codes quintic 3 2 ∷ codes quintic 2 3 ∷ codes quintic 3 3 ∷ [] ≡ accepted ∷ refused 15 0 ∷ refused 15 1 ∷ refused 15 0 ∷ []
unfolding codes quintic refuse ◌then◌
fifteen = refl

-- "writer's buffer under 14 + 16n bytes, or reader's lists under n places": of five knots
pub twenty_six : room (size 5) 94 ∷ room (size 5) 93 ∷ lists_order 5 5 5 5 accepted 5 ∷ lists_order 4 4 4 4 accepted 5 ∷ [] ≡ accepted ∷ refused 26 0 ∷ accepted ∷ refused 26 0 ∷ []
unfolding room lists_order lengths refuse ◌then◌
twenty_six = refl
