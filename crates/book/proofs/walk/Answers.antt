-- `walk` meets its contract: a turn of the walk, and its ends. Assumes nothing.
use mathlib.Core.Path.{◌≡◌, refl, ap, ◌∙◌}
use native.Mathlib.Omega.{arith}
use Rattle.answer.specs.Answer.{◌then◌}
use Rattle.answer.specs.Judge.{verdict_of}
use Rattle.book.specs.Steps.{nothing_met, past, closed}
use Rattle.book.proofs.Standing.{holding, Told, told_close, told_wrong, told_room}
use Rattle.book.proofs.Walks.{exits_walked, going_starts, going_wrong, going_closed, going_on}
use Rattle.book.proofs.walk.Goals as goal
use Rattle.book.proofs.walk.Goals.{In-Room}

-- the record at which the walk stands is a room's
here : (c : In-Room) → Told c.args.book.now c.loop-here.slot.bytes c.in-Room.here c.in-Room.next
here c = told_room _ _ c.in-Room.ensures

pub loop-here-init : goal.loop-here-init
loop-here-init c =
    let d = c.default-slot.ensures in
    let e : c.default-slot.result ≡ nothing_met = λ i. record { bytes = d.0 i; at = d.1.0 i; size = d.1.1 i } in
    rw e (going_starts _ _)

pub returns-in-Wrong : goal.returns-in-Wrong
returns-in-Wrong c = let w = told_wrong _ _ c.in-Wrong.ensures in going_wrong _ _ c.loop-here.invariant w.0 w.1

pub returns-in-Close : goal.returns-in-Close
unfolding closed ◌then◌
returns-in-Close c = rw c.in_ok-rising-in-Close.was at (going_closed _ _ c.loop-here.invariant (told_close _ _ c.in-Close.ensures))

pub returns-in_err-rising-in-Close : goal.returns-in_err-rising-in-Close
unfolding closed ◌then◌
returns-in_err-rising-in-Close c =
    exits_walked _ _ c.from_residual.ensures.1
    ∙ rw c.in_err-rising-in-Close.was at (going_closed _ _ c.loop-here.invariant (told_close _ _ c.in-Close.ensures))

pub past-slot-requires : goal.past-slot-requires
past-slot-requires c = let t = here (goal.at.past-slot-requires c).In-Room in omega (arith, t.end)

pub loop-here-smaller : goal.loop-here-smaller
unfolding past
loop-here-smaller c =
    let t = here (goal.at.loop-here-smaller c).In-Room in
    let h = holding _ _ t.is in
    let e : c.past-slot.result.bytes ≡ c.in-Room.next = ap (λ m. m.bytes) c.past-slot.ensures in
    omega (arith, h.inside, t.end)

pub loop-here-preserved : goal.loop-here-preserved
loop-here-preserved c =
    let k = (goal.at.loop-here-preserved c).In-Room in
    let v = c.first-rising.ensures ∙ ap (λ w. verdict_of k.loop-here.rising then w) c.refuse-falls.ensures in
    rw (v, c.past-slot.ensures) (going_on _ _ k.loop-here.invariant (here k))
