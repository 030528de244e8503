-- The exact solution behind a fit: of every sheet that the fit's steps 3, 1, 2, 4, 5, 6 accept, between any two ends that 7 accepts. Document 01, "The
-- equations": "With n ≥ 3 the exact solution is unique for each mix of ends"; "The jump test": "numbers within half a unit of one always pass".
-- Assumes nothing.
use Rattle.std.specs.Prelude.{◌≡◌, ◌≢◌, List, [], ℕ, ◌-◌, ◌<◌, ℤ, length}
use Rattle.answer.specs.Answer.{Verdict, ◌then◌, each, number}
use Rattle.curve.specs.Kind.{quintic}
use Rattle.curve.specs.Card.{Card}
use Rattle.curve.specs.Steps.{lengths, counted, in_range}
use Rattle.curve.specs.Orders.{verdict}
use Rattle.curve.specs.Exact.{Exact}
use Rattle.knots.specs.Lent.{lent}
use Rattle.exists.specs.Rounded.{rounded}
use Rattle.exists.specs.Same.{Same}
use Rattle.rows.specs.declared.End.{End}
use Rattle.rows.specs.Equations.{code}
use Rattle.fit.specs.Fit.{standing}
use Rattle.exact_fit.specs.Given.{HasGiven}

module _ (minutes : List ℕ) (ordinates : List ℤ) (left right : End) where
  abbrev n : ℕ
  n = length minutes

  -- the fit's order before it eliminates, into lists of n places: 3, 1, 2; per knot 4, 5, 6; 7 left, right
  unfoldable pub before_8 : Verdict
  before_8 = lengths n (length ordinates) n n then counted quintic n then standing minutes ordinates left right

  -- the sheet with its ends' codes: no slope and no curvature stands on it yet
  abbrev pub sheet : Card
  sheet = lent minutes ordinates [] [] (code left) (code right)

  -- "a set of fractions that meets both equations at inner knots and, at an end, those its code does not replace", with exactly the given numbers there
  pub record Solution : Type 0 where
    pub exact : Exact quintic sheet
    pub at_left : HasGiven exact 0 left
    pub at_right : HasGiven exact (n - 1) right

  -- there is one, and no other; rounded to card units it is a card that is refused with 9 or accepted, never with 10
  pub record OneSolution : Type 0 where
    pub solution : Solution
    pub only : (other : Solution) (i : ℕ) → i < n → Same solution.exact other.exact i
    pub only_9 : verdict quintic (rounded solution.exact) ≡ each (in_range quintic (rounded solution.exact)) 0 n
    pub never_10 : number (verdict quintic (rounded solution.exact)) ≢ 10
