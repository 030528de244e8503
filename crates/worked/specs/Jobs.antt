-- A fit's elimination, its tests and its card by its job: document 01's, between two ends; or document 02's order 8, by
-- the slopes given. Assumes nothing.
use Rattle.std.specs.Prelude.{ℕ, List, length, take, ℤ, Result, Ok, Err}
use Rattle.answer.specs.Answer.{Answer, refused, given, ◌then◌}
use Rattle.answer.specs.Judge.{number_of}
use Rattle.answer.specs.declared.Refusal.{Refusal}
use Rattle.curve.specs.Kind.{Kind, quintic, sloped}
use Rattle.curve.specs.Card.{Card}
use Rattle.curve.specs.Orders.{numbers_sound}
use Rattle.knots.specs.Lent.{lent}
use Rattle.rows.specs.Equations.{code}
use Rattle.passes.specs.declared.Job.{Job}
use Rattle.passes.specs.declared.Job.TheVariants.{Ends, Slopes}
use Rattle.passes.specs.Jobs.{step_by, turn_by}
use Rattle.passes.specs.Passes.{Solved, pairs_in, verdict_in, passes}
use Rattle.front.specs.Front.{listed}
use Rattle.numbers.specs.declared.Numbers.{Numbers}
use Rattle.numbers.specs.Numbers.{slope_at, curvature_at, scaled}

-- a card, where 9 and 10 accept it
unfoldable pub tested : Kind → Card → Answer Card
tested K c = numbers_sound K c then given c

abbrev pub kind_by : Job → Kind
kind_by (Ends left right) = quintic
kind_by Slopes = sloped

module _ (xs : List ℕ) (ys ms : List ℤ) where
  unfoldable pub solved_by : Job → Solved
  solved_by job = passes (step_by xs ys ms job) (turn_by job) (length xs)

  -- the card of these slopes and curvatures; of the slopes given, and both codes 0
  abbrev pub card_by : Job → List ℤ → List ℤ → Card
  card_by (Ends left right) slopes curvatures = lent xs ys slopes curvatures (code left) (code right)
  card_by Slopes slopes curvatures = lent xs ys ms curvatures 0 0

  -- 8; 9; 10
  unfoldable pub worked : Job → Answer Card
  worked job =
      let pairs = pairs_in (solved_by job) in
      verdict_in (solved_by job) then tested (kind_by job) (card_by job (listed (slope_at pairs) (length xs)) (listed (curvature_at pairs) (length xs)))

  -- the numbers that are handed on, whole: each knot's slope and curvature out of the two passes, by either job, and zeros behind the knots
  unfoldable pub numbers_by : Job → Numbers
  numbers_by job = scaled (pairs_in (solved_by job)) (length xs)

  -- the card that the first of these numbers are
  abbrev pub card_with : Job → Numbers → Card
  card_with job x = card_by job (take (length xs) x.slopes) (take (length xs) x.curvatures)

  -- of the code's numbers
  abbrev pub handed : Job → Result Numbers Refusal → Answer Card
  handed job (Ok x) = given (card_with job x)
  handed job (Err e) = refused (number_of e.reason) e.place
