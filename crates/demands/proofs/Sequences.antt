-- What the page says of calls on a book one after the other: what was put in is found, what was taken out is gone, the freed bytes are used, a room put in and taken out leaves the same
-- book, and the history law. Document 02, orders 3 and 11. Assumes nothing.
use Prim.Native.Nat.{ℕ, ◌≤◌}
use mathlib.Core.Path.{◌≡◌, refl, sym, ap, ap₂, subst, ◌∙◌}
use mathlib.Core.Bool.{◌&&◌, cond}
use mathlib.Core.List.{List, []}
use lib.Dec.{eqb}
use lib.ListN.{length, take}
use borrow.Author.Tests.{eq-eqb, ne_eqb}
use Rattle.answer.specs.Answer.{Answer, refused, given, accepted, number, ◌then◌}
use Rattle.answer.proofs.Steps.{not_both}
use Rattle.card.specs.Answers.{own}
use Rattle.book.specs.Book.{Entry, ◌giving◌, book}
use Rattle.book.specs.Lookup.{in_use, look_up}
use Rattle.book.proofs.Runs.{gives}
use Rattle.book_put.specs.Put.{entry, put_in, put, after}
use Rattle.bookkeeping.specs.Card.{card_in}
use Rattle.bookkeeping.proofs.Kept.{put_is_found}
use Rattle.book_remove.specs.Remove.{remove}
use Rattle.history.specs.InUse.{then_in_use, full}
use Rattle.history.specs.History.{Deeds, putting, removing, accepts}
use Rattle.history.specs.History as History
use Rattle.history.proofs.InUse.{full_by_bytes_in_use}
use Rattle.history.proofs.Removed.{removed_is_gone, next_fits, out_again, restored}
use Rattle.history.proofs.History as Law
use Rattle.demands.specs.Calls.{ABookPut, put_book, put_book', put_room, put_card, ABookRemove, out_book, out_book', out_room, AChange, by_put, by_removal, change_answer, the_change}
use Rattle.demands.specs.Changes.{Changes, none, more, last_card}
use Rattle.demands.specs.Demands.{Says}
use Rattle.demands.proofs.Changing.{promise, typed, change_answers}

-- what an accepted call gives
gave : (c : AChange) → (change_answer c).number ≡ 0 → (es : List Entry) × (the_change c ≡ given es)
gave c z = let g = (change_answers c).0.accepts z in (g.what, g.is)

-- ---- one call, then a search

pub is_found : (p : ABookPut) → p.answer.number ≡ 0 → look_up (put_room p) (put_book' p) ≡ given (put_card p)
is_found p z =
    let t = typed (by_put p) in
    subst (λ s. look_up (put_room p) s ≡ given (put_card p)) (sym (promise (by_put p)).buffer) (put_is_found (put_room p) (put_card p) (put_book p) t.0 t.1 (gave (by_put p) z).1)

pub is_gone : (c : ABookRemove) → c.answer.number ≡ 0 → look_up (out_room c) (out_book' c) ≡ refused 20 0
is_gone c z =
    subst (λ s. look_up (out_room c) s ≡ refused 20 0) (sym (promise (by_removal c)).buffer) (removed_is_gone (out_room c) (out_book c) (typed (by_removal c)).0 (gave (by_removal c) z).1)

-- ---- 21, and the bytes that a removal frees

number_then : {A : Type 0} (v : Answer Unit) (a : A) → number (v then given a) ≡ number v
unfolding number ◌then◌
number_then (refused n p) a = refl
number_then (given u) a = refl

pub by_bytes_in_use : (p : ABookPut) (rooms : List Entry) → book (put_book p) ≡ given rooms → own (put_card p) ≡ accepted
    → p.answer.number ≡ number (full (then_in_use (put_room p) (put_card p) rooms) (length (put_book p)))
by_bytes_in_use p rooms is o =
    (change_answers (by_put p)).0.number ∙ ap number (full_by_bytes_in_use (put_room p) (put_card p) (put_book p) is o)
    ∙ number_then (full (then_in_use (put_room p) (put_card p) rooms) (length (put_book p))) (put_in (entry (put_room p) (put_card p)) rooms)

pub freed_is_used : (c : ABookRemove) (p : ABookPut) {old : List ℕ} → c.answer.number ≡ 0 → card_in (out_room c) (out_book c) ≡ given old
    → put_book p ≡ out_book' c → own (put_card p) ≡ accepted → length (put_card p) ≤ length old → p.answer.number ≡ 0
freed_is_used c p {old} z has same o l =
    let e = (gave (by_removal c) z).1 in
    let g = gives (book (out_book c)) _ has in
    let b = (typed (by_removal c)).0 in
    let k = next_fits (out_room c) (out_book c) b g.gave e g.follows (put_room p) (put_card p) o l in
    let s : put_book p ≡ after (remove (out_room c) (out_book c)) (out_book c) = same ∙ (promise (by_removal c)).buffer in
    (change_answers (by_put p)).0.accepted (record { what = _; is = ap (put (put_room p) (put_card p)) s ∙ k })

-- ---- a room put in and taken out again

pub put_and_out : (p : ABookPut) (c : ABookRemove) → p.answer.number ≡ 0 → card_in (put_room p) (put_book p) ≡ refused 20 0
    → out_book c ≡ put_book' p → out_room c ≡ put_room p
    → (c.answer.number ≡ 0) × (book (out_book' c) ≡ book (put_book p)) × (c.answer.bytes ≡ (in_use (book (put_book p))).bytes)
    × (take c.answer.bytes (out_book' c) ≡ take c.answer.bytes (put_book p))
unfolding put
put_and_out p c z absent same room =
    let r = put_room p in
    let s = put_book p in
    let t = typed (by_put p) in
    let e = (gave (by_put p) z).1 in
    let again : the_change (by_removal c) ≡ book s = ap₂ remove room (same ∙ (promise (by_put p)).buffer) ∙ out_again r (put_card p) s t.0 t.1 absent e in
    let k = restored r (put_card p) s t.0 t.1 absent e in
    let left : out_book' c ≡ after (remove r (after (put r (put_card p) s) s)) (after (put r (put_card p) s) s) =
    (promise (by_removal c)).buffer ∙ ap₂ (λ q x. after (remove q x) x) room (same ∙ (promise (by_put p)).buffer) in
    let bytes : c.answer.bytes ≡ (in_use (book s)).bytes = ap (λ u. u.bytes) ((promise (by_removal c)).answer ∙ ap in_use again) in
    let g = gives (book s) _ e in (
      (change_answers (by_removal c)).0.accepted (record { what = g.what; is = again ∙ g.gave }),
      ap book left ∙ k.rooms,
      bytes,
      subst (λ n. take n (out_book' c) ≡ take n (put_book p)) (sym bytes) (ap (take (in_use (book s)).bytes) left ∙ k.bytes),
    )

-- ---- the history

-- a number is 0 exactly where the order accepts
told : {A : Type 0} (a : Answer A) {n p : ℕ} → Says a n p → eqb n 0 ≡ accepts a
unfolding accepts
told (refused m q) {n} s = ne_eqb n 0 (λ z. not_both (s.accepts z).is)
told (given x) {n} s = eq-eqb n 0 (s.accepted (record { what = x; is = refl }))

-- the calls, as the deeds that they are
deeds : {from to : List ℕ} → Changes from to → Deeds from to
deeds none = History.none
deeds (more (by_put p) e cs) =
    putting (put_room p) (put_card p) (typed (by_put p)).1 ((promise (by_put p)).buffer ∙ ap (λ s. after (put (put_room p) (put_card p) s) s) e) (deeds cs)
deeds (more (by_removal c) e cs) = removing (out_room c) ((promise (by_removal c)).buffer ∙ ap (λ s. after (remove (out_room c) s) s) e) (deeds cs)

same_last : {from to : List ℕ} (q : ℕ) (cs : Changes from to) → last_card q cs ≡ History.last_card q (deeds cs)
unfolding last_card History.last_card deeds
same_last q none = refl
same_last q (more (by_put p) e cs) =
    ap₂ (λ b v. cond (b && eqb (put_room p) q) (given (put_card p)) v) (told _ (change_answers (by_put p)).0 ∙ ap (λ s. accepts (put (put_room p) (put_card p) s)) e) (same_last q cs)
same_last q (more (by_removal c) e cs) =
    ap₂ (λ b v. cond (b && eqb (out_room c) q) (refused 20 0) v) (told _ (change_answers (by_removal c)).0 ∙ ap (λ s. accepts (remove (out_room c) s)) e) (same_last q cs)

pub history : {from to : List ℕ} → book from ≡ given [] → (cs : Changes from to) (q : ℕ) → look_up q to ≡ last_card q cs
history e cs q = Law.history q e (deeds cs) ∙ sym (same_last q cs)
