-- When a record stands at an offset, by its three facts, and the facts of one that does; what an answer tells its caller; and
-- a header's bytes, both ways. They follow document 01, "Card bytes", and assume nothing.
use Prim.Native.Nat.{ℕ, ◌+◌, ◌-◌, ◌≤◌, ◌<◌}
use mathlib.Core.Path.{◌≡◌, ◌∙◌, refl, sym, ap}
use mathlib.Core.Bool.{Bool, true, false, not, ◌&&◌, true≢false}
use mathlib.Core.List.{List, ◌++◌, append_assoc}
use native.Mathlib.Nat.{add_assoc}
use native.Mathlib.Omega.{arith}
use lib.ListN.{length, drop, length-drop}
use lib.Dec.{eqb, lit<}
use borrow.Author.Tests.{le-leb, lt-leb, eq-eqb, leb-true, eqb-true}
use Rattle.answer.specs.Answer.{Answer, refused, given, ◌then◌, refuse}
use Rattle.little_endian.specs.Numbers.{le, num_at, Bytes}
use Rattle.record.specs.Record.{header, is_at, Span, span, found_of, record_at}
use Rattle.record.specs.declared.Body.{Body}
use Rattle.std.specs.Prelude.{Result, Ok, Err}
use Rattle.little_endian.proofs.Numbers.{peel, stood}

both : (a b : Bool) → (a && b) ≡ true → (a ≡ true) × (b ≡ true)
both true b t = (refl, t)
both false b t = absurd (true≢false (sym t))

-- a number, a place and values belong to one answer only, so that a promise of them leaves one outcome
pub one_found : (a b : Result Body ℕ) → found_of a ≡ found_of b → a ≡ b
one_found (Ok a) (Ok b) e =
    let f : span a.start a.next.at ≡ span b.start b.next.at = cc in
    ap (λ (s : Span). Ok (record { start = s.start; next = record { at = s.next } })) f
one_found (Ok a) (Err at) e = cc
one_found (Err at) (Ok b) e = cc
one_found (Err at) (Err at') e = cc

module _ (s : List ℕ) (at kind long : ℕ) where
  -- what a record that stands at an offset has
  pub record Stands : Type 0 where
    pub whole : at + (4 + long) ≤ length s
    pub has_length : num_at 2 s at ≡ long
    pub has_kind : num_at 2 s (at + 2) ≡ kind

  pub stands : Stands → is_at s at kind long ≡ true
  unfolding is_at
  stands h = simp (le-leb _ _ h.whole, eq-eqb _ _ h.has_length, eq-eqb _ _ h.has_kind)

  pub standing : is_at s at kind long ≡ true → Stands
  unfolding is_at
  standing t =
      let p = both _ _ t in
      let q = both _ _ p.1 in
      record { whole = leb-true _ _ p.0; has_length = eqb-true _ _ q.0; has_kind = eqb-true _ _ q.1 }

  -- ---- the tests

  pub cut : length s < at + (4 + long) → false ≡ is_at s at kind long
  unfolding is_at
  cut h = simp (lt-leb _ _ h)

  pub of_kind : at + (4 + long) ≤ length s → num_at 2 s at ≡ long → eqb (num_at 2 s (at + 2)) kind ≡ is_at s at kind long
  unfolding is_at
  of_kind w l = simp (le-leb _ _ w, eq-eqb _ _ l)

  -- ---- the answers

  pub found : is_at s at kind long ≡ true → given (span (at + 4) (at + 4 + long)) ≡ record_at s at kind long
  unfolding record_at refuse ◌then◌
  found t = rw (t, add_assoc)

  pub bad : is_at s at kind long ≡ false → refused 14 at ≡ record_at s at kind long
  unfolding record_at refuse ◌then◌
  bad t = rw t

  -- ---- what a caller learns of an answer

  abbrev answered : Bool → Answer Span
  answered t = refuse 14 at (not t) then given (span (at + 4) (at + (4 + long)))

  pub record Present (body : Body) : Type 0 where
    pub is : is_at s at kind long ≡ true
    pub start : body.start ≡ at + 4
    pub behind : body.next.at ≡ at + (4 + long)

  pub present : {r : Result Body ℕ} {body : Body} → found_of r ≡ record_at s at kind long → r ≡ Ok body → Present body
  unfolding record_at refuse ◌then◌
  present {r} {body} p q = go (is_at s at kind long) refl (sym (ap found_of q) ∙ p)
    where
      go : (t : Bool) → is_at s at kind long ≡ t → given (span body.start body.next.at) ≡ answered t → Present body
      go true i e =
          let f : span body.start body.next.at ≡ span (at + 4) (at + (4 + long)) = cc in
          record { is = i; start = ap (λ (a : Span). a.start) f; behind = ap (λ (a : Span). a.next) f }
      go false i e = cc

  pub record Missing (place : ℕ) : Type 0 where
    pub is_not : is_at s at kind long ≡ false
    pub offset : place ≡ at

  pub missing : {r : Result Body ℕ} {place : ℕ} → found_of r ≡ record_at s at kind long → r ≡ Err place → Missing place
  unfolding record_at refuse ◌then◌
  missing {r} {place} p q = go (is_at s at kind long) refl (sym (ap found_of q) ∙ p)
    where
      go : (t : Bool) → is_at s at kind long ≡ t → refused 14 place ≡ answered t → Missing place
      go true i e = cc
      go false i e = record { is_not = i; offset = cc }

  -- ---- a header's bytes

  pub header_made : Bytes s → is_at s at kind long ≡ true → drop at s ≡ header kind long ++ drop (at + 4) s
  unfolding header
  header_made b t =
      let h = standing t in
      let w = h.whole in
      let p : drop at s ≡ le 2 long ++ drop (at + 2) s = rw h.has_length at (peel s at 2 (at + 2) refl b (omega arith)) in
      let q : drop (at + 2) s ≡ le 2 kind ++ drop (at + 4) s =
      rw h.has_kind at (peel s (at + 2) 2 (at + 4) (omega arith) b (omega arith)) in
      p ∙ rw (q, append_assoc)

  pub record Headed (r : List ℕ) : Type 0 where
    pub is : is_at s at kind long ≡ true
    pub tail : drop (at + 4) s ≡ r
    pub room : at + 4 ≤ length s

  pub header_stands : (r : List ℕ) → kind < 65536 → long < 65536 → long ≤ length r
      → drop at s ≡ header kind long ++ r → Headed r
  unfolding header
  header_stands r k l n p =
      let q : drop at s ≡ le 2 long ++ (le 2 kind ++ r) = p ∙ append_assoc (le 2 long) (le 2 kind) r in
      let a = stood s at 2 (at + 2) refl long (le 2 kind ++ r) (lit< tt) l q in
      let b = stood s (at + 2) 2 (at + 4) (omega arith) kind r (lit< tt) k a.tail in
      let d : length s - (at + 4) ≡ length r = rw length-drop at (ap length b.tail) in
      record {
        is = stands (record { whole = omega (arith, b.room); has_length = a.number; has_kind = b.number });
        tail = b.tail;
        room = b.room;
      }
