-- What mending leaves its caller: number, place and count, and each lent list at exit. "A refusal returns zeros beside number and place, and writes to no lent list" (document 01, "Numbers of
-- refusal"); "if that fit is refused, sheet and list stay untouched" (document 02, order 1). Assumes nothing.
use Rattle.std.specs.Prelude.{ℕ, ◌≡◌, List, [], ◌++◌, ℤ, pos, length, get_or, drop, Result, Ok, Err}
use Rattle.answer.specs.Answer.{Answer, refused, given, number, place}
use Rattle.answer.specs.Judge.{number_of}
use Rattle.answer.specs.declared.Refusal.{Refusal}
use Rattle.curve.specs.Card.{Card}
use Rattle.front.specs.Front.{listed}
use Rattle.fit.specs.Promise.{slopes_after, curvatures_after}
use Rattle.holes.specs.Needs.{most}
use Rattle.mend.specs.declared.Change.{Change}
use Rattle.mend.specs.declared.Plan.{Plan}
use Rattle.mend.specs.declared.Mended.{Mended}

-- the changes that are made: none where it is refused
abbrev pub made : Answer Card → List Change → List Change
made (refused n p) cs = []
made (given card) cs = cs

abbrev pub answered : Answer Card → List Change → Mended
answered mend cs = record { number = number mend; place = place mend; count = length (made mend cs) }

-- the sheet, and the list of changes, at exit
abbrev pub ordinates_after : Answer Card → List ℤ → List ℤ
ordinates_after (refused n p) ys = ys
ordinates_after (given card) ys = card.ordinates

abbrev pub list_after : Answer Card → (cs list : List Change) → List Change
list_after mend cs list = made mend cs ++ drop (length (made mend cs)) list

-- the changes that are to be made; ordinates, slopes, curvatures and the list of changes at entry and at exit
pub record Mends (mend : Answer Card) (cs : List Change) (ys ms Ms : List ℤ) (list : List Change) (ys' ms' Ms' : List ℤ) (list' : List Change) (r : Mended) : Type 0 where
  pub answer : r ≡ answered mend cs
  pub ordinates : ys' ≡ ordinates_after mend ys
  pub slopes : ms' ≡ slopes_after mend ms
  pub curvatures : Ms' ≡ curvatures_after mend Ms
  pub changes : list' ≡ list_after mend cs list

-- ---- the same with the changes by value

abbrev pub no_change : Change
no_change = record { place = 0; old = pos 0; new = pos 0 }

-- the changes in an array, zeros behind them
unfoldable pub column : List Change → List Change
column cs = listed (λ j. get_or cs j no_change) most

abbrev pub plan_of : (number place : ℕ) → List Change → Plan
plan_of number place cs = record { number = number; place = place; count = length cs; changes = column cs }

-- of what the code answers inside
abbrev pub plan_in : Result Plan Refusal → Plan
plan_in (Ok plan) = plan
plan_in (Err e) = plan_of (number_of e.reason) e.place []

pub record Plans (mend : Answer Card) (cs : List Change) (ys ms Ms ys' ms' Ms' : List ℤ) (p : Plan) : Type 0 where
  pub plan : p ≡ plan_of (number mend) (place mend) (made mend cs)
  pub ordinates : ys' ≡ ordinates_after mend ys
  pub slopes : ms' ≡ slopes_after mend ms
  pub curvatures : Ms' ≡ curvatures_after mend Ms

-- ---- inside

-- the change that a plan has at a place
abbrev pub planned : Plan → ℕ → Change
planned p j = get_or p.changes j no_change

-- what a plan says without its changes
abbrev pub told : Plan → Mended
told p = record { number = p.number; place = p.place; count = p.count }
