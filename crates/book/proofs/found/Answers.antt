-- `found` meets its contract, by the walk's answer and the card's own. Assumes nothing.
use Prim.Native.Nat.{◌+◌, ◌-◌}
use mathlib.Core.Path.{◌≡◌, sym, ap, ◌∙◌}
use native.Mathlib.Omega.{arith}
use lib.ListN.{length, take, drop}
use Rattle.card.specs.Answers.{own}
use Rattle.answer.specs.Judge.{verdict_of}
use Rattle.answer.proofs.Chain.{step_refuses}
use Rattle.book.proofs.Runs.{Stands}
use Rattle.book.proofs.Answers.{walk_refused, Walks, walk_sound, exits_found, book_refused, spot_refused, room_absent, Found, room_there, spot_found}
use Rattle.book.proofs.found.Goals as goal
use Rattle.book.proofs.found.Goals.{In_ok-slot, In_ok-refuse, After-own}

pub returns-in_err-slot : goal.returns-in_err-slot
returns-in_err-slot c = exits_found _ _ c.from_residual.ensures.1 ∙ spot_refused _ _ (book_refused _ _ (walk_refused _ _ (sym c.in_err-slot.ensures)))

-- the book is sound
walks : (c : In_ok-slot) → (let a = c.args in Walks a.room a.book.now c.in_ok-slot.slot)
walks c = walk_sound _ _ (sym c.in_ok-slot.ensures)

pub returns-in_err-refuse : goal.returns-in_err-refuse
returns-in_err-refuse c =
    exits_found _ _ c.from_residual-in_err-refuse.ensures.1 ∙ spot_refused _ _ (room_absent (walks (goal.at.returns-in_err-refuse c).In_ok-slot) c.in_err-refuse.ensures)

-- and the room is there
there : (c : In_ok-refuse) → Found (walks (goal.at.In_ok-refuse c).In_ok-slot)
there c = room_there (walks (goal.at.In_ok-refuse c).In_ok-slot) c.in_ok-refuse.ensures

stands : (c : In_ok-refuse) → (let m = c.in_ok-slot.slot in Stands c.args.book.now m.at m.size (there c).card)
stands c = (there c).stands

-- what its card is judged
judged : (c : After-own) → verdict_of c.own.result ≡ own (there (goal.at.After-own c).In_ok-refuse).card
judged c =
    let m = c.in_ok-slot.slot in
    let k = stands (goal.at.After-own c).In_ok-refuse in
    let n : m.at + m.size - (m.at + 6) ≡ length (there (goal.at.After-own c).In_ok-refuse).card = omega (arith, k.bytes) in
    let s = c.args.book.now in
    c.own.ensures ∙ ap own (ap (λ i. take i (drop (m.at + 6) s)) n ∙ k.part)

pub overflow_add-start : goal.overflow_add-start
overflow_add-start c = let k = stands (goal.at.overflow_add-start c).In_ok-refuse in omega (arith, k.bytes, k.within)

pub overflow_add-end : goal.overflow_add-end
overflow_add-end c = let k = stands (goal.at.overflow_add-end c).In_ok-refuse in omega (arith, k.bytes, k.within)

pub slice_bounds-own-count : goal.slice_bounds-own-count
slice_bounds-own-count c = let k = stands (goal.at.slice_bounds-own-count c).In_ok-refuse in omega (arith, k.bytes)

pub slice_bounds-own-start : goal.slice_bounds-own-start
slice_bounds-own-start c = let k = stands (goal.at.slice_bounds-own-start c).In_ok-refuse in omega (arith, k.bytes)

pub slice_bounds-own-end : goal.slice_bounds-own-end
slice_bounds-own-end c = let k = stands (goal.at.slice_bounds-own-end c).In_ok-refuse in omega (arith, k.bytes, k.inside)

pub returns-in_err-own : goal.returns-in_err-own
returns-in_err-own c =
    let k = (goal.at.returns-in_err-own c).After-own in
    exits_found _ _ c.from_residual-in_err-own.ensures.1
    ∙ spot_refused _ _ ((there (goal.at.After-own k).In_ok-refuse).answer ∙ sym (step_refuses _ (judged k) c.in_err-own.was))

pub overflow_cast-result : goal.overflow_cast-result
overflow_cast-result c = omega (arith, (stands (goal.at.overflow_cast-result c).In_ok-refuse).within)

pub overflow_sub-result : goal.overflow_sub-result
overflow_sub-result c = omega (arith, (stands (goal.at.overflow_sub-result c).In_ok-refuse).bytes)

pub overflow_cast-result-2 : goal.overflow_cast-result-2
overflow_cast-result-2 c = let k = stands (goal.at.overflow_cast-result-2 c).In_ok-refuse in omega (arith, k.bytes, k.within)

pub returns : goal.returns
returns c =
    let f = there (goal.at.returns c).In_ok-refuse in
    let t = stands (goal.at.returns c).In_ok-refuse in
    spot_found (walks (goal.at.returns c).In_ok-slot) f (sym (judged (goal.at.returns c).After-own) ∙ ap verdict_of c.in_ok-own.was) (omega arith) (omega (arith, t.bytes))
