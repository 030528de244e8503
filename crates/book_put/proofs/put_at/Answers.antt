-- `put_at` meets its contract: 21 by the size of the new book, else the new book is written. Assumes nothing.
use mathlib.Core.Path.{refl, ◌∙◌}
use native.Mathlib.Omega.{arith}
use Rattle.little_endian.specs.Numbers.{Bytes}
use Rattle.book.proofs.Answers.{Walks, walk_sound}
use Rattle.book_put.proofs.Answers.{puts_refused, puts_given, over_the_limit, over_the_buffer, fits, made_of, slot_inside, new_size, new_least, new_bytes}
use Rattle.book_put.proofs.put_at.Goals as goal
use Rattle.book_put.proofs.put_at.Goals.{Start, Else-card-gt-MOST, then-bytes-gt-MOST-via-then-bytes-gt-MOST, then-bytes-gt-MOST-via-else-bytes-gt-MOST+then-buffer-bytes}

walks : (c : Start) → Walks c.args.room c.args.buffer.now c.args.slot
walks c = walk_sound _ _ c.requires

bytes : (c : Else-card-gt-MOST) → Bytes c.args.buffer.now
unfolding Bytes
bytes c i = omega (arith, c.type_inv.buffer i)

pub returns-then-card-gt-MOST : goal.returns-then-card-gt-MOST
returns-then-card-gt-MOST c =
    let k = (goal.at.returns-then-card-gt-MOST c).Start in
    let w = walks k in
    puts_refused (made_of w _ (over_the_limit _ _ _ (omega (arith, new_least w k.args.card.now)))) refl

pub overflow_sub-bytes : goal.overflow_sub-bytes
overflow_sub-bytes c = omega (arith, slot_inside (walks (goal.at.overflow_sub-bytes c).Start))

pub overflow_add-bytes-2 : goal.overflow_add-bytes-2
overflow_add-bytes-2 c = omega (arith, (walks (goal.at.overflow_add-bytes-2 c).Start).within)

pub returns-then-bytes-gt-MOST : goal.returns-then-bytes-gt-MOST
returns-then-bytes-gt-MOST c =
    let k = (goal.at.returns-then-bytes-gt-MOST c).Start in
    let w = walks k in
    let n = new_size w k.args.card.now in
    elim c.then-bytes-gt-MOST.branch [
      | then-bytes-gt-MOST-via-then-bytes-gt-MOST v ↦ puts_refused (made_of w _ (over_the_limit _ _ _ (omega arith))) refl
      | then-bytes-gt-MOST-via-else-bytes-gt-MOST+then-buffer-bytes v ↦ puts_refused (made_of w _ (over_the_buffer _ _ _ (omega arith))) refl
    ]

pub splice-requires : goal.splice-requires
splice-requires c =
    let k = (goal.at.splice-requires c).Start in
    let w = walks k in
    let x = slot_inside w in
    let i = w.inside in
    (omega arith, omega arith, omega arith, omega arith)

pub returns : goal.returns
returns c =
    let k = (goal.at.returns c).Start in
    let w = walks k in
    let n = new_size w k.args.card.now in
    puts_given (made_of w _ (fits _ _ _ (omega arith) (omega arith))) n (c.splice.ensures ∙ new_bytes w _ (bytes (goal.at.returns c).Else-card-gt-MOST))
