-- Document 01's fit: the card that the elimination gives, "The elimination, rounded once per operation", and the order in which it is tested,
-- "Numbers of refusal". Assumes nothing.
use Rattle.std.specs.Prelude.{ℕ, List, length, ℤ, Float}
use Rattle.answer.specs.Answer.{Answer, given, Verdict, accepted, ◌then◌, each}
use Rattle.curve.specs.Kind.{quintic}
use Rattle.curve.specs.Card.{Card}
use Rattle.curve.specs.Steps.{codes, stands}
use Rattle.curve.specs.Orders.{fit_order}
use Rattle.knots.specs.Lent.{lent}
use Rattle.rows.specs.declared.End.{End}
use Rattle.rows.specs.declared.End.TheVariants.{Free, Both}
use Rattle.rows.specs.Floats.{f0}
use Rattle.rows.specs.Equations.{code}
use Rattle.elimination.specs.Elimination.{backward}
use Rattle.passes.specs.Sheet.{knot_at}
use Rattle.front.specs.Front.{listed}
use Rattle.passes.specs.Passes.{Solved, pairs_in, verdict_in, passes}
use Rattle.ends.specs.Ends.{end_by, ends}
use Rattle.numbers.specs.Numbers.{slope_at, curvature_at}
unfoldable pub use Rattle.worked.specs.Jobs.{tested}

module _ (xs : List ℕ) (ys : List ℤ) (left right : End) where
  -- per knot 4, 5, 6; 7
  unfoldable pub standing : Verdict
  standing = each (stands quintic xs ys) 0 (length xs) then ends (length xs) left right

  -- the elimination of the knots, forward then back
  unfoldable pub solved : Solved
  solved = passes (knot_at xs ys left right) backward (length xs)

  -- 8
  unfoldable pub eliminated : Verdict
  eliminated = verdict_in solved

  -- the card that it gives
  unfoldable pub card_of : Card
  card_of = lent xs ys (listed (slope_at (pairs_in solved)) (length xs)) (listed (curvature_at (pairs_in solved)) (length xs)) (code left) (code right)

  -- into lists of ms and Ms places; `named` is 15
  unfoldable pub fit_of : (ms Ms : ℕ) → (named : Verdict) → Answer Card
  fit_of ms Ms named = fit_order quintic ms Ms named (ends (length xs) left right) eliminated card_of then given card_of

-- "a fit without ends has slope 0 and curvature 0 given at the left, and stays free at the right" (document 02, order 6)
abbrev pub default_left : End
default_left = Both f0 f0

abbrev pub default_right : End
default_right = Free

module _ (xs : List ℕ) (ys : List ℤ) (ms Ms : ℕ) where
  -- between ends that are named by their kind
  abbrev pub fit_between : End → End → Answer Card
  fit_between left right = fit_of xs ys left right ms Ms accepted

  -- "15 where ends come as code numbers"
  abbrev pub fit_codes : (left : ℕ) → (slope curvature : Float) → (right : ℕ) → (slope' curvature' : Float) → Answer Card
  fit_codes left slope curvature right slope' curvature' = fit_of xs ys (end_by left slope curvature) (end_by right slope' curvature') ms Ms (codes quintic left right)

  -- asked without ends
  abbrev pub fit : Answer Card
  fit = fit_between default_left default_right
