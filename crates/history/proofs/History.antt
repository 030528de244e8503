-- The history law: whatever was put in and taken out, refused or not, each room has its last accepted card not since removed. Document 02,
-- order 11. Assumes nothing of the buffer but that it starts with a book of no room.
use Prim.Native.Nat.{ℕ, ◌<◌, ◌^◌}
use mathlib.Core.Path.{◌≡◌, refl, ap, sym, ◌∙◌}
use mathlib.Core.Logic.{◌≢◌}
use mathlib.Core.Bool.{Bool, true, false, ◌&&◌, cond}
use mathlib.Core.List.{List, []}
use lib.Dec.{eqb}
use borrow.Author.Tests.{eqb-true, eqb-false}
use Rattle.answer.specs.Answer.{Answer, refused, given, accepted, ◌then◌}
use Rattle.answer.proofs.Steps.{both_accept}
use Rattle.card.specs.Answers.{own}
use Rattle.book.specs.Book.{Entry, ◌giving◌, book}
use Rattle.book.specs.Lookup.{held, look_up}
use Rattle.book_put.specs.Put.{entry, put, after}
use Rattle.bookkeeping.specs.Every.{Every, nil, cons}
use Rattle.bookkeeping.proofs.Kept.{every_put, held_put, others_stay}
use Rattle.book_remove.specs.Remove.{remove}
use Rattle.history.specs.History.{Deeds, none, putting, removing, accepts, last_card}
use Rattle.history.proofs.Out.{every_out, held_out, others_out}
use Rattle.history.proofs.Keeping.{Keeps, putting as is-put, removing as is_removed}

abbrev Passes : Entry → Type 0
Passes e = own e.card ≡ accepted

-- ---- what is known of a room after each

-- the rooms of the new book, where those of the old are es: r has v, and every other room what it had
record Next (t : List ℕ) (es : List Entry) (r : ℕ) (v : Answer (List ℕ)) (es' : List Entry) : Type 0 where
  pub kept : Keeps t es'
  pub pass : Every Passes es'
  pub its : held r es' ≡ v
  pub others : (q : ℕ) → q ≢ r → held q es' ≡ held q es

module _ (q : ℕ) where
  record Has (s : List ℕ) (had : Answer (List ℕ)) : Type 0 where
    pub es : List Entry
    pub kept : Keeps s es
    pub pass : Every Passes es
    pub has : held q es ≡ had

  module _ {s : List ℕ} {had : Answer (List ℕ)} (h : Has s had) (r : ℕ) where
    -- by an answer that changes r alone, where it is accepted
    has_next : (a : Answer (List Entry)) (v : Answer (List ℕ)) → ((es : List Entry) → a ≡ given es → Next (after a s) h.es r v es) → Has (after a s) (cond (accepts a && eqb r q) v had)
    unfolding after accepts
    has_next (refused n p) v f = h
    has_next (given es) v f = let n = f es refl in record { es = es; kept = n.kept; pass = n.pass; has = go n (eqb r q) refl }
      where
        go : Next (after (given es) s) h.es r v es → (b : Bool) → eqb r q ≡ b → held q es ≡ cond b v had
        go n true t = ap (λ x. held x es) (sym (eqb-true r q t)) ∙ n.its
        go n false t = n.others q (λ z. eqb-false r q t (sym z)) ∙ h.has

    has_put : (c : List ℕ) → r < 2 ^ 16 → Has (after (put r c s) s) (cond (accepts (put r c s) && eqb r q) (given c) had)
    has_put c l = has_next (put r c s) (given c) λ es e.
        let p = is-put h.kept r c e in
        rw (← p.new) (record {
          kept = rw p.new (p.kept l);
          pass = every_put (entry r c) p.passes h.pass;
          its = held_put (entry r c) h.es;
          others = λ q n. others_stay q (entry r c) h.es n;
        })

    has_removed : Has (after (remove r s) s) (cond (accepts (remove r s) && eqb r q) (refused 20 0) had)
    has_removed = has_next (remove r s) (refused 20 0) λ es e.
        let p = is_removed h.kept r e in
        rw (← p.new) (record {
          kept = rw p.new p.kept;
          pass = every_out r h.pass;
          its = held_out r h.es;
          others = λ q n. others_out r q h.es n;
        })

  has_last : {from to : List ℕ} → book from ≡ given [] → (ds : Deeds from to) → Has to (last_card q ds)
  unfolding last_card held
  has_last e none = record { es = []; kept = record { is = e; two_bytes = nil }; pass = nil; has = refl }
  has_last e (putting r c l f ds) = rw f (has_put (has_last e ds) r c l)
  has_last e (removing r f ds) = rw f (has_removed (has_last e ds) r)

  -- ---- and so what looking it up gives

  held_passes : {es : List Entry} → Every Passes es → (held q es giving λ c. own c then given c) ≡ held q es
  unfolding held ◌giving◌
  held_passes nil = refl
  held_passes (cons {e = e} {es = es} h f) = go (eqb e.room q) (held_passes f)
    where
      go : (b : Bool) → (held q es giving λ c. own c then given c) ≡ held q es
          → (cond b (given e.card) (held q es) giving λ c. own c then given c) ≡ cond b (given e.card) (held q es)
      go true k = both_accept h refl
      go false k = k

  -- "From a book with no room, after any sequence of puts and removals, refused ones included, looking up gives each room's last accepted
  -- card not since removed, else 20."
  pub history : {from to : List ℕ} → book from ≡ given [] → (ds : Deeds from to) → look_up q to ≡ last_card q ds
  unfolding look_up ◌giving◌
  history e ds = let h = has_last e ds in rw h.kept.is (held_passes h.pass) ∙ h.has

-- and the book stays sound
pub sound_after : {from to : List ℕ} → book from ≡ given [] → Deeds from to → (es : List Entry) × (book to ≡ given es)
sound_after e ds = let h = has_last 0 e ds in (h.es, h.kept.is)
