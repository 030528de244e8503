-- What a removal answers and leaves, by the slot that the walk over the book found. Document 02, order 11.
-- Assumes nothing.
use Prim.Native.Nat.{ℕ, ◌+◌, ◌-◌}
use mathlib.Core.Path.{◌≡◌, sym, ◌∙◌}
use mathlib.Core.List.{List, ◌++◌}
use native.Mathlib.Omega.{arith}
use lib.ListN.{drop}
use lib.Seq.{paste}
use lib.Dec.{eqb}
use borrow.Author.Tests.{eq-eqb, eqb-true, eqb-false}
use Rattle.answer.specs.Answer.{Answer, refused, given, accepted, refuse}
use Rattle.answer.proofs.Never.{refuse_true}
use Rattle.answer.proofs.Steps.{refuse_accepts}
use Rattle.little_endian.specs.Numbers.{Bytes}
use Rattle.book.specs.Book.{book_bytes, size, ◌giving◌, book}
use Rattle.book.specs.Lookup.{held}
use Rattle.book.specs.declared.Slot.{Slot}
use Rattle.book.proofs.Rooms.{nothing_there}
use Rattle.book.proofs.Runs.{There, is_there}
use Rattle.book.proofs.Answers.{Walks, same_refusal}
use Rattle.book_remove.specs.Remove.{without, remove}
use Rattle.book_remove.proofs.Taking.{size_out}
use Rattle.book_remove.proofs.Closing.{out_buffer}

pub remove_refused : (r : ℕ) (s : List ℕ) {n p : ℕ} → book s ≡ refused n p → remove r s ≡ refused n p
unfolding remove ◌giving◌
remove_refused r s e = rw e

module _ {r : ℕ} {s : List ℕ} {m : Slot} (w : Walks r s m) where
  held_next : {a : Answer (List ℕ)} → held r w.es ≡ a → remove r s ≡ (a giving λ c. given (without r w.es))
  unfolding remove ◌giving◌
  held_next e = rw (w.is, e)

  pub room_absent : {n p : ℕ} → refused n p ≡ refuse 20 0 (eqb m.size 0) → remove r s ≡ refused n p
  unfolding ◌giving◌ refuse
  room_absent e =
      let z : m.size ≡ 0 = eqb-true m.size 0 (refuse_true 20 0 _ (sym e)).0 in
      held_next (nothing_there r w.sound.up (sym w.size ∙ z)) ∙ same_refusal (sym (rw (eq-eqb m.size 0 z) at e))

  module _ (passes : accepted ≡ refuse 20 0 (eqb m.size 0)) where
    h : m.size ≡ 0 → ⊥
    h = eqb-false m.size 0 (refuse_accepts 20 0 _ (sym passes))

    found : There s r 0 w.es
    found = is_there r w.sound.run (λ z. h (w.size ∙ z))

    pub is_out : remove r s ≡ given (without r w.es)
    unfolding ◌giving◌
    is_out = held_next found.is

    pub new_size : m.bytes - m.size ≡ size (without r w.es)
    new_size = omega (arith, size_out r w.sound.up found.is, found.stands.bytes, w.size, w.bytes)

    pub new_bytes : Bytes s → paste s m.at (drop (m.at + m.size) s) (m.bytes - (m.at + m.size)) ≡ book_bytes (without r w.es) ++ drop (size (without r w.es)) s
    new_bytes b = cc (out_buffer w.sound r found.is found.stands.bytes b, w.at, w.size, w.bytes)
