-- `taken` meets its contract: the book's refusal, 20, else what stands behind the room moves up. Assumes nothing.
use mathlib.Core.Path.{sym, ◌∙◌}
use native.Mathlib.Omega.{arith}
use Rattle.little_endian.specs.Numbers.{Bytes}
use Rattle.book.proofs.Answers.{walk_refused, Walks, walk_sound, exits_used}
use Rattle.book_put.proofs.Answers.{puts_refused, puts_given, slot_inside}
use Rattle.book_remove.proofs.Answers.{remove_refused, room_absent, is_out, new_size, new_bytes}
use Rattle.book_remove.proofs.taken.Goals as goal
use Rattle.book_remove.proofs.taken.Goals.{In_ok-slot, In_ok-refuse, After-slice_known-1}

pub returns-in_err-slot : goal.returns-in_err-slot
returns-in_err-slot c =
    puts_refused (remove_refused _ _ (walk_refused _ _ (sym c.in_err-slot.ensures))) (exits_used _ _ c.from_residual.ensures.1)

walks : (c : In_ok-slot) → (let a = c.args in Walks a.room a.buffer.now c.in_ok-slot.slot)
walks c = walk_sound _ _ (sym c.in_ok-slot.ensures)

pub returns-in_err-refuse : goal.returns-in_err-refuse
returns-in_err-refuse c =
    puts_refused (room_absent (walks (goal.at.returns-in_err-refuse c).In_ok-slot) c.in_err-refuse.ensures) (exits_used _ _ c.from_residual-in_err-refuse.ensures.1)

bytes : (c : After-slice_known-1) → Bytes c.args.buffer.now
unfolding Bytes
bytes c i = omega (arith, c.slice_known-1.given i)

pub overflow_add-from : goal.overflow_add-from
overflow_add-from c = let w = walks (goal.at.overflow_add-from c).In_ok-slot in omega (arith, slot_inside w, w.within)

pub overflow_sub-slot : goal.overflow_sub-slot
overflow_sub-slot c = omega (arith, slot_inside (walks (goal.at.overflow_sub-slot c).In_ok-slot))

pub slide-requires : goal.slide-requires
slide-requires c =
    let w = walks (goal.at.slide-requires c).In_ok-slot in
    let x = slot_inside w in
    let i = w.inside in
    (omega arith, omega arith)

pub overflow_sub-result : goal.overflow_sub-result
overflow_sub-result c = omega (arith, slot_inside (walks (goal.at.overflow_sub-result c).In_ok-slot))

pub overflow_cast-result : goal.overflow_cast-result
overflow_cast-result c = omega (arith, (walks (goal.at.overflow_cast-result c).In_ok-slot).within)

pub returns : goal.returns
returns c =
    let w = walks (goal.at.returns c).In_ok-slot in
    let k = (goal.at.returns c).In_ok-refuse in
    let h = k.in_ok-refuse.ensures in
    puts_given (is_out w h) (new_size w h) (c.slide.ensures ∙ new_bytes w h (bytes (goal.at.returns c).After-slice_known-1))
