-- What a fit leaves its caller: number and place, and both lent lists at exit. "On acceptance only the n places are written"; a refusal "writes to no
-- lent list" (document 01, "Numbers of refusal"). Assumes nothing.
use Rattle.std.specs.Prelude.{ℕ, ◌≤◌, ◌<◌, ◌≡◌, List, length, ℤ}
use Rattle.answer.specs.Answer.{Answer, refused, given, number, place}
use Rattle.answer.specs.Judge.{Judged, verdict_of}
use Rattle.curve.specs.Card.{Card}
use Rattle.passes.specs.Sheet.{most}
use Rattle.fit.specs.declared.Fitted.{Fitted}

abbrev pub answered : Answer Card → Fitted
answered fit = record { number = number fit; place = place fit }

-- the same of what the code judges
abbrev pub fitted_of : Judged → Fitted
fitted_of judged = record { number = number (verdict_of judged); place = place (verdict_of judged) }

-- a list that was lent for the slopes, and one that was lent for the curvatures, at exit
abbrev pub slopes_after : Answer Card → List ℤ → List ℤ
slopes_after (refused n p) slopes = slopes
slopes_after (given card) slopes = card.slopes

abbrev pub curvatures_after : Answer Card → List ℤ → List ℤ
curvatures_after (refused n p) curvatures = curvatures
curvatures_after (given card) curvatures = card.curvatures

-- ms and Ms are the lent lists at entry, ms' and Ms' at exit
pub record Fits (fit : Answer Card) (ms Ms ms' Ms' : List ℤ) (r : Fitted) : Type 0 where
  pub answer : r ≡ answered fit
  pub slopes : ms' ≡ slopes_after fit ms
  pub curvatures : Ms' ≡ curvatures_after fit Ms

-- ---- inside

-- what 3 and 2 have shown
pub record Alike (xs : List ℕ) (ys ms Ms : List ℤ) : Type 0 where
  pub some : 0 < length xs
  pub many : length xs ≤ most
  pub ordinates : length ys ≡ length xs
  pub slopes : length ms ≡ length xs
  pub curvatures : length Ms ≡ length xs
