-- What a walk's answer says of a book, and what testing it and looking up a room answer then. Document 02, order 3.
-- Assumes nothing.
use Prim.Native.Nat.{ℕ, ◌+◌, ◌≤◌}
use mathlib.Core.Path.{◌≡◌, refl, ap, sym, ◌∙◌, subst}
use mathlib.Core.List.{List}
use native.Mathlib.Omega.{arith}
use lib.ListN.{length, take, drop}
use Rattle.answer.specs.Answer.{Answer, refused, given, accepted, ◌then◌, refuse}
use Rattle.answer.proofs.Steps.{not_both, given_same, first_accepts, next_accepts, both_accept, refuse_accepts}
use Rattle.card.specs.Answers.{own}
use Rattle.book.specs.Book.{Entry, size, most, ◌giving◌, book}
use Rattle.book.specs.Lookup.{in_use, used_of, held, look_up, part, before, rooms, spot_at, spot_of, spot}
use Rattle.book.specs.Steps.{there, slot, walked_of, walked}
use lib.Dec.{eqb}
use borrow.Author.Tests.{eq-eqb, eqb-true, eqb-false}
use Rattle.std.specs.Prelude.{Result, Ok, Err, IsErrAnd}
use Rattle.std.proofs.lemmas.Result.{err_from_is_err_and}
use Rattle.answer.proofs.Never.{refuse_true}
use Rattle.answer.specs.declared.Refusal.{Refusal}
use Rattle.answer.proofs.Outcome.{one_judgement}
use Rattle.answer.specs.Judge.{Judged, number_of}
use Rattle.book.specs.declared.Slot.{Slot}
use Rattle.book.specs.declared.Spot.{Spot}
use Rattle.book.specs.declared.Used.{Used}
use Rattle.book.proofs.Rooms.{nothing_there}
use Rattle.book.proofs.Runs.{gives, Sound, sound, run_inside, Stands, stands_so, is_there}

-- a refusal is one whatever it refuses
pub same_refusal : {A B : Type 0} {n p m q : ℕ} → ◌≡◌ {A = Answer A} (refused n p) (refused m q) → ◌≡◌ {A = Answer B} (refused n p) (refused m q)
same_refusal e = cc

-- ---- the walk

-- a slot, or a number and a place, belong to one answer only, so that a promise of them leaves one outcome
pub one_walked : (a b : Result Slot Refusal) → walked_of a ≡ walked_of b → a ≡ b
one_walked (Ok m) (Ok n) e = ap Ok (given_same e)
one_walked (Ok m) (Err r) e = cc
one_walked (Err r) (Ok m) e = cc
one_walked (Err r) (Err q) e = ap slots (one_judgement {a = Err r} {b = Err q} (same_refusal e) refl)
  where
    slots : Judged → Result Slot Refusal
    slots (Ok u) = Ok (record { bytes = 0; at = 0; size = 0 })
    slots (Err e) = Err e

-- it refuses where the book is refused
pub walk_refused : (r : ℕ) (s : List ℕ) {n p : ℕ} → walked r s ≡ refused n p → book s ≡ refused n p
unfolding walked ◌giving◌
walk_refused r s {n} {p} e = go (book s) e
  where
    go : (a : Answer (List Entry)) → (a giving λ es. given (slot r es)) ≡ refused n p → a ≡ refused n p
    go (refused m q) e = cc
    go (given es) e = absurd (not_both (sym e))

-- and gives the slot of a sound book
pub record Walks (r : ℕ) (s : List ℕ) (m : Slot) : Type 0 where
  pub es : List Entry
  pub is : book s ≡ given es
  pub sound : Sound s es
  pub bytes : m.bytes ≡ size es
  pub at : m.at ≡ before r es
  pub size : m.size ≡ there r es
  pub inside : m.bytes ≤ length s
  pub within : m.bytes ≤ most

pub walk_sound : (r : ℕ) (s : List ℕ) {m : Slot} → walked r s ≡ given m → Walks r s m
unfolding walked
walk_sound r s {m} e =
    let g = gives (book s) _ e in
    let q : slot r g.what ≡ m = given_same g.follows in
    let b : m.bytes ≡ size g.what = sym (ap (λ x. x.bytes) q) in
    let o = sound g.gave in
    let k = run_inside s o.run in
    record {
      es = g.what;
      is = g.gave;
      sound = o;
      bytes = b;
      at = sym (ap (λ x. x.at) q);
      size = sym (ap (λ x. x.size) q);
      inside = omega (arith, k.0);
      within = omega (arith, k.1);
    }

-- ---- the book's own test

pub told_refused : (s : List ℕ) {n p : ℕ} → book s ≡ refused n p → in_use (refused n p) ≡ in_use (book s)
told_refused s e = ap in_use (sym e)

pub told_bytes : {r : ℕ} {s : List ℕ} {m : Slot} → Walks r s m → ◌≡◌ {A = Used} (record { number = 0; place = 0; bytes = m.bytes }) (in_use (book s))
unfolding in_use
told_bytes w = ap (λ b. record { number = 0; place = 0; bytes = b }) w.bytes ∙ ap in_use (sym w.is)

-- ---- looking up

-- what a `?` returns
pub exits_found : (r : Result Spot Refusal) (e : Refusal) → IsErrAnd r (λ d. d ≡ e) → spot_of r ≡ spot_at 0 (refused (number_of e.reason) e.place)
exits_found r e h = let p = err_from_is_err_and r h in rw (p.1, p.2)

pub exits_used : (r : Result Used Refusal) (e : Refusal) → IsErrAnd r (λ d. d ≡ e) → used_of r ≡ in_use (refused (number_of e.reason) e.place)
exits_used r e h = let p = err_from_is_err_and r h in rw (p.1, p.2)

-- a refusal has no start
pub spot_refused : (r : ℕ) (s : List ℕ) {n p : ℕ} → look_up r s ≡ refused n p → spot_at 0 (refused n p) ≡ spot r s
unfolding spot_at spot
spot_refused r s e = rw e

pub book_refused : (r : ℕ) (s : List ℕ) {n p : ℕ} → book s ≡ refused n p → look_up r s ≡ refused n p
unfolding look_up ◌giving◌
book_refused r s e = rw e

module _ {r : ℕ} {s : List ℕ} {m : Slot} (w : Walks r s m) where
  held_next : {a : Answer (List ℕ)} → held r w.es ≡ a → look_up r s ≡ (a giving λ c. own c then given c)
  unfolding look_up ◌giving◌
  held_next e = rw (w.is, e)

  pub room_absent : {n p : ℕ} → refused n p ≡ refuse 20 0 (eqb m.size 0) → look_up r s ≡ refused n p
  unfolding ◌giving◌ refuse
  room_absent e =
      let z : m.size ≡ 0 = eqb-true m.size 0 (refuse_true 20 0 _ (sym e)).0 in
      held_next (nothing_there r w.sound.up (sym w.size ∙ z)) ∙ same_refusal (sym (rw (eq-eqb m.size 0 z) at e))

  -- the card that the slot holds
  pub record Found : Type 0 where
    pub card : List ℕ
    pub stands : Stands s m.at m.size card
    pub answer : look_up r s ≡ (own card then given card)

  pub room_there : accepted ≡ refuse 20 0 (eqb m.size 0) → Found
  unfolding ◌giving◌
  room_there e =
      let h = eqb-false m.size 0 (refuse_accepts 20 0 _ (sym e)) in
      let t = is_there r w.sound.run (λ z. h (w.size ∙ z)) in
      record { card = t.card; stands = stands_so (omega (arith, w.at)) w.size t.stands; answer = held_next t.is }

  pub spot_found : (f : Found) {at n : ℕ} → own f.card ≡ accepted → at ≡ m.at + 6 → n ≡ length f.card
      → ◌≡◌ {A = Spot} (record { number = 0; place = 0; start = at; length = n }) (spot r s)
  unfolding spot spot_at rooms
  spot_found f e p q = rw (f.answer ∙ both_accept e refl, w.is, p, q, w.at)

-- ---- a card that is found

pub record LookedUp (r : ℕ) (s c : List ℕ) : Type 0 where
  pub es : List Entry
  pub is : book s ≡ given es
  pub here : held r es ≡ given c
  pub passes : own c ≡ accepted

pub looked_up : (r : ℕ) (s : List ℕ) {c : List ℕ} → look_up r s ≡ given c → LookedUp r s c
unfolding look_up
looked_up r s {c} e =
    let g = gives (book s) _ e in
    let h = gives (held r g.what) _ g.follows in
    let q : h.what ≡ c = given_same (next_accepts (own h.what) _ h.follows) in
    record { es = g.what; is = g.gave; here = h.gave ∙ ap given q; passes = ap own (sym q) ∙ first_accepts (own h.what) _ h.follows }

-- it stands behind the records before it, and six bytes of its own
pub found_stands : {r : ℕ} {s c : List ℕ} (l : LookedUp r s c) → Stands s (before r l.es) (there r l.es) c
found_stands {r} {s} {c} l =
    let o = sound l.is in
    let t = is_there r o.run (λ z. not_both (sym (nothing_there r o.up z) ∙ l.here)) in
    let q : t.card ≡ c = given_same (sym t.is ∙ l.here) in
    subst (Stands s (before r l.es) (there r l.es)) q (stands_so (omega arith) refl t.stands)

-- ---- the part that is handed back

pub record Handed (s : List ℕ) (p : Spot) (c : List ℕ) : Type 0 where
  pub inside : p.start + p.length ≤ length s
  pub is : take p.length (drop p.start s) ≡ c

pub handed : (r : ℕ) (s : List ℕ) → Handed s (spot r s) (part (look_up r s))
unfolding spot spot_at part rooms
handed r s = go (look_up r s) refl
  where
    start : ℕ
    start = before r (rooms (book s)) + 6

    go : (a : Answer (List ℕ)) → look_up r s ≡ a → Handed s (spot_at start a) (part a)
    go (refused n p) e = record { inside = omega arith; is = refl }
    go (given c) e =
        let l = looked_up r s e in
        let k = found_stands l in
        let n : rooms (book s) ≡ l.es = ap rooms l.is in
        rw n (record { inside = omega (arith, k.inside); is = k.part })
