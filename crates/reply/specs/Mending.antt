-- What the text of a sheet with holes, with the logs that it names, is answered with: the reply to the mended knots, the changes, and the lines of the knots. Document 02, orders 1 and 4.
-- Assumes nothing.
use Rattle.std.specs.Prelude.{ℕ, ◌≡◌, true, cond, List, [], eqb, ℤ, pos, length, take, replicate, Result, Ok, Err}
use Rattle.answer.specs.Answer.{number, place}
use Rattle.curve.specs.Kind.{quintic}
use Rattle.knots.specs.Lent.{lent}
use Rattle.fit.specs.Promise.{slopes_after, curvatures_after}
use Rattle.holes.specs.Hole.{mended}
use Rattle.holes.specs.Needs.{most as places}
use Rattle.mend.specs.declared.Plan.{Plan}
use Rattle.mend.specs.Order.{mend}
use Rattle.mend.specs.Changes.{changes}
use Rattle.mend.specs.Promise.{made, ordinates_after, plan_of}
use Rattle.text.specs.declared.Blame.{Blame}
use Rattle.text.specs.declared.Sheet.{Sheet}
use Rattle.text.specs.Sheet.{most, sheet}
use Rattle.gather.specs.declared.Gathered.{Gathered}
use Rattle.reply.specs.Knots.{gathered}
use Rattle.reply.specs.Reply.{Reply, reply_of, ToKnots, text_reply, Answers}
use Rattle.reply.specs.declared.Mending.{Mending}

-- the places for changes: one for each hole, since no card has more knots
abbrev pub room : ℕ
room = places

-- to these knots mended, between free ends
abbrev pub mend_reply : ToKnots
mend_reply xs ys ms Ms faults lines card =
    let f = mend xs ys (length ms) (length Ms) room in
    reply_of quintic (number f) (place f) (lent xs (ordinates_after f ys) (slopes_after f ms) (curvatures_after f Ms) 0 0) faults lines card

abbrev pub mending_reply : (text logs card : List ℕ) → Reply
mending_reply = text_reply true (λ a. mend_reply)

-- the changes of these knots
abbrev pub knots_plan : (xs : List ℕ) (ys ms Ms : List ℤ) → Plan
knots_plan xs ys ms Ms = let f = mend xs ys (length ms) (length Ms) room in plan_of (number f) (place f) (made f (changes ys (mended xs ys)))

-- none where they are refused as they are gathered
unfoldable pub gathered_plan : Gathered → Plan
gathered_plan g =
    let n = g.knots in
    let zeros = take n (replicate most (pos 0)) in
    cond (eqb g.number 0) (knots_plan (take n g.minutes) (take n g.ordinates) zeros zeros) (plan_of g.number g.place [])

-- none in a text that is no sheet
unfoldable pub sheet_plan : Result Sheet Blame → (logs : List ℕ) → Plan
sheet_plan (Err b) logs = plan_of 0 0 []
sheet_plan (Ok a) logs = gathered_plan (gathered a logs)

abbrev pub text_plan : (text logs : List ℕ) → Plan
text_plan s logs = sheet_plan (sheet true s) logs

-- of each knot its line; zeros where the text is no sheet
unfoldable pub lines_of : Result Sheet Blame → List ℕ
lines_of (Err b) = replicate most 0
lines_of (Ok a) = a.lines

-- the reply was given, and these are the changes and the lines beside it
pub record Mends (p : Reply) (plan : Plan) (ls to to' card' : List ℕ) (r : Mending) : Type 0 where
  pub answers : Answers p to to' card' r.answered
  pub changes : r.plan ≡ plan
  pub lines : r.lines ≡ ls
