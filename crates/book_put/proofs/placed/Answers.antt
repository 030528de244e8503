-- `placed` meets its contract: the book's refusal, the card's own, 21. Assumes nothing.
use mathlib.Core.Path.{refl, sym, ◌∙◌}
use Rattle.answer.proofs.Chain.{step_refuses, step_passes}
use Rattle.book.proofs.Answers.{walk_refused, Walks, walk_sound, exits_used}
use Rattle.book_put.proofs.Answers.{puts_refused, put_refused, put_of, made_of}
use Rattle.book_put.proofs.placed.Goals as goal
use Rattle.book_put.proofs.placed.Goals.{In_ok-slot}

pub returns-in_err-slot : goal.returns-in_err-slot
returns-in_err-slot c =
    puts_refused (put_refused _ _ _ (walk_refused _ _ (sym c.in_err-slot.ensures))) (exits_used _ _ c.from_residual.ensures.1)

walks : (c : In_ok-slot) → (let a = c.args in Walks a.room a.buffer.now c.in_ok-slot.slot)
walks c = walk_sound _ _ (sym c.in_ok-slot.ensures)

pub returns-in_err-own : goal.returns-in_err-own
returns-in_err-own c =
    let w = walks (goal.at.returns-in_err-own c).In_ok-slot in
    puts_refused (put_of w _ (sym (step_refuses _ c.own.ensures c.in_err-own.was))) (exits_used _ _ c.from_residual-in_err-own.ensures.1)

pub returns : goal.returns
returns c =
    let w = walks (goal.at.returns c).In_ok-slot in
    let e = put_of w _ (sym (step_passes _ c.own.ensures c.in_ok-own.was refl)) ∙ sym (made_of w _ refl) in
    rw e c.put_at.ensures
