-- `reply::told` meets its contract, by the number. Assumes nothing.
use mathlib.Core.Path.{◌≡◌, refl, ap}
use native.Mathlib.Omega.{arith}
use Rattle.reply.specs.Reply.{listing_of}
use Rattle.listing.proofs.Plain.{same_faults}
use Rattle.reply.proofs.Replies.{answers_as, refuses, replies_refused, replies_done}
use borrow.Author.Rules.{rules}
use Rattle.reply.proofs.told.Goals as goal
use Rattle.reply.proofs.told.Goals.{Else-number-ne0, Then-number-ne0}

pub returns-then-number-ne0 : goal.returns-then-number-ne0
returns-then-number-ne0 c =
    let q = (goal.at.returns-then-number-ne0 c).Then-number-ne0 in
    answers_as (replies_refused _ _ _ _ _ _ _ q.if-number-ne0.true) (refuses _ c.refuse_knots.ensures _)

pub returns : goal.returns
unfolding listing_of
returns c =
    let w = c.write-written.ensures in
    let q = (goal.at.returns c).Else-number-ne0 in
    let z : q.args.number ≡ 0 = omega (arith, q.if-number-ne0.false) in
    let a = q.args in
    let l = c.list-length.ensures in
    let e = same_faults 0 0 a.minutes.now a.ordinates.now a.slopes.now a.curvatures.now l.0 a.faults.now (λ z i h. (let told = ((l.1 z).1 i h).0 in search rules)) in
    answers_as (replies_done _ _ _ _ _ _ _ z) (record { said = rw e at l.2; status = refl; card = w.buffer; size = ap (λ r. r.bytes) w.answer })
