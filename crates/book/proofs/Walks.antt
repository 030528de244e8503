-- A turn of the walk over a book, and its ends: what it has met so far, with what the scan finds from there on, is the walk's answer. Document 02, order 3.
-- Assumes nothing.
use Prim.Native.Nat.{ℕ, zero, suc, ◌+◌, ◌-◌, ◌≤◌, ◌<◌}
use mathlib.Core.Path.{◌≡◌, refl, ap, sym, ◌∙◌, subst}
use mathlib.Core.Bool.{true, false}
use mathlib.Core.List.{List, [], ◌∷◌}
use native.Mathlib.Omega.{arith}
use native.Mathlib.Numerals.{add-one}
use lib.ListN.{length}
use lib.Dec.{ltb}
use Rattle.answer.specs.Answer.{Answer, refused, given, Verdict, accepted, ◌then◌, refuse}
use Rattle.std.specs.Prelude.{Result, IsErrAnd}
use Rattle.std.proofs.lemmas.Result.{err_from_is_err_and}
use Rattle.answer.specs.Judge.{number_of}
use Rattle.answer.specs.declared.Refusal.{Refusal}
use Rattle.answer.proofs.Steps.{then_assoc}
use Rattle.book.specs.Book.{Entry, long, size, most, next, closes, holds, entry_at, ◌giving◌, scan, rising, book}
use Rattle.book.specs.Lookup.{before}
use Rattle.book.specs.Steps.{nothing_met, past, closed, there, slot, walked_of, walked}
use Rattle.book.specs.declared.Slot.{Slot}
use Rattle.book.proofs.Standing.{closing, Holds, holding, long_entry, Told}
use Rattle.book.proofs.Rooms.{Rises, nil, cons, rises, Tri, below, same, above, tri, is_below, is_same, is_above}

-- ---- what is met in rooms that rise

abbrev a_slot : (bytes at size : ℕ) → Slot
a_slot bytes at size = record { bytes = bytes; at = at; size = size }

-- past all of them, and the closing record
unfoldable pub met : ℕ → Slot → List Entry → Slot
met r s [] = closed s
met r s (e ∷ es) = met r (past r e.room (s.bytes + long e) s) es

module _ (r : ℕ) where
  -- behind the room nothing is met any more
  met_behind : {low : ℕ} {es : List Entry} → Rises low es → r < low → (b n t : ℕ) → met r (a_slot b n t) es ≡ a_slot (b + size es) n t
  unfolding met past closed size
  met_behind nil l b n t = refl
  met_behind (cons {e = e} {es = es} h u) l b n t =
      let j : r < e.room = omega arith in
      let i = is_above j in
      let k : b + long e + size es ≡ b + (long e + size es) = omega arith in
      rw (i.lt, i.eq) (met_behind u (omega arith) (b + long e) n t ∙ ap (λ x. a_slot x n t) k)

  met_from : {low : ℕ} {es : List Entry} → Rises low es → (b : ℕ) → met r (a_slot b b 0) es ≡ a_slot (b + size es) (b + before r es) (there r es)
  unfolding met past closed size before there
  met_from nil b = let z : b ≡ b + 0 = omega arith in ap (λ x. a_slot (b + 4) x 0) z
  met_from (cons {e = e} {es = es} h u) b = go (tri e.room r) (met_from u (b + long e))
    where
      goal : Type 0
      goal = met r (past r e.room (b + long e) (a_slot b b 0)) es ≡ a_slot (b + (long e + size es)) (b + before r (e ∷ es)) (there r (e ∷ es))

      k : b + long e + size es ≡ b + (long e + size es)
      k = omega arith

      z : b ≡ b + 0
      z = omega arith

      d : b + long e - b ≡ long e
      d = omega arith

      go : Tri e.room r → met r (a_slot (b + long e) (b + long e) 0) es ≡ a_slot (b + long e + size es) (b + long e + before r es) (there r es) → goal
      go (below l) f =
          let m : b + long e + before r es ≡ b + (long e + before r es) = omega arith in
          rw ((is_below l).lt, (is_below l).eq) (f ∙ rw (k, m))
      go (same l) f = rw ((is_same l).lt, (is_same l).eq, ← z, d, ← k) (met_behind u (omega arith) (b + long e) b (long e))
      go (above l) f = rw ((is_above l).lt, (is_above l).eq, ← z, ← k) (met_behind u (omega arith) (b + long e) b 0)

-- ---- the scan's clauses

module _ (s : List ℕ) (at : ℕ) where
  scan_closed : (k : ℕ) → 0 < k → closes s at ≡ true → scan s k at ≡ given []
  unfolding scan
  scan_closed zero l t = absurd (omega arith)
  scan_closed (suc k) l t = rw t

  scan_wrong : (k : ℕ) → closes s at ≡ false → holds s at ≡ false → scan s k at ≡ refused 14 at
  unfolding scan
  scan_wrong zero t f = refl
  scan_wrong (suc k) t f = rw (t, f)

  scan_room : (k : ℕ) → closes s at ≡ false → holds s at ≡ true → scan s (suc k) at ≡ (scan s k (next s at) giving λ es. given (entry_at s at ∷ es))
  unfolding scan
  scan_room k t f = rw (t, f)

-- ---- the walk

-- what a `?` returns where the rooms do not rise
pub exits_walked : (r : Result Slot Refusal) (e : Refusal) → IsErrAnd r (λ d. d ≡ e) → walked_of r ≡ refused (number_of e.reason) e.place
exits_walked r e h = let p = err_from_is_err_and r h in rw (p.1, p.2)

-- what it answers, of what the scan finds from the slot's end on
unfoldable pub resumed : ℕ → Verdict → ℕ → Slot → Answer (List Entry) → Answer Slot
resumed r v low m (refused n p) = refused n p
resumed r v low m (given es) = (v then rising low m.bytes es) then given (met r m es)

pub record Going (s : List ℕ) (r : ℕ) (v : Verdict) (low : ℕ) (m : Slot) : Type 0 where
  pub left : ℕ
  pub enough : length s ≤ m.bytes + left
  pub within : m.bytes ≤ most
  pub is : resumed r v low m (scan s left m.bytes) ≡ walked r s

module _ (s : List ℕ) (r : ℕ) where
  pub going_starts : Going s r accepted 0 nothing_met
  unfolding resumed walked book ◌giving◌ ◌then◌
  going_starts = record { left = length s; enough = omega arith; within = omega arith; is = go (scan s (length s) 0) }
    where
      to : (es : List Entry) (v : Verdict) → rising 0 0 es ≡ v → (v then given (met r nothing_met es)) ≡ ((v then given es) giving λ es. given (slot r es))
      to es (refused n p) e = refl
      to es (given u) e =
          let z : a_slot (0 + size es) (0 + before r es) (there r es) ≡ slot r es = ap (λ x. a_slot x (0 + before r es) (there r es)) (omega arith) ∙ ap (λ x. a_slot (size es) x (there r es)) (omega arith) in
          ap given (met_from r (rises 0 0 es e) 0 ∙ z)

      go : (a : Answer (List Entry)) → resumed r accepted 0 nothing_met a ≡ ((a giving λ es. rising 0 0 es then given es) giving λ es. given (slot r es))
      go (refused n p) = refl
      go (given es) = to es (rising 0 0 es) refl

  module _ {v : Verdict} {low : ℕ} {m : Slot} (g : Going s r v low m) where
    pub going_wrong : closes s m.bytes ≡ false → holds s m.bytes ≡ false → refused 14 m.bytes ≡ walked r s
    unfolding resumed
    going_wrong t f = ap (resumed r v low m) (sym (scan_wrong s m.bytes g.left t f)) ∙ g.is

    pub going_closed : closes s m.bytes ≡ true → (v then given (closed m)) ≡ walked r s
    unfolding resumed rising met ◌then◌
    going_closed t =
        let h = closing s m.bytes t in
        sym (then_assoc v accepted (given (closed m))) ∙ ap (resumed r v low m) (sym (scan_closed s m.bytes g.left (omega (arith, h.inside, g.enough)) t)) ∙ g.is

    -- past a room's record
    onwards : (e : Entry) (a : Answer (List Entry)) → resumed r v low m (a giving λ es. given (e ∷ es))
        ≡ resumed r (v then refuse 22 m.bytes (ltb e.room low)) (suc e.room) (past r e.room (m.bytes + long e) m) a
    unfolding resumed rising met past ◌giving◌
    onwards e (refused n p) = refl
    onwards e (given es) = ap (λ w. w then given (met r (past r e.room (m.bytes + long e) m) es)) (sym (then_assoc v _ _))

    going_past : (k : ℕ) (e : Entry) → entry_at s m.bytes ≡ e → closes s m.bytes ≡ false → holds s m.bytes ≡ true → g.left ≡ k
        → Going s r (v then refuse 22 m.bytes (ltb e.room low)) (suc e.room) (past r e.room (m.bytes + long e) m)
    unfolding past
    going_past k e q f t p = go k p
      where
        h : Holds s m.bytes
        h = holding s m.bytes t

        n : next s m.bytes ≡ m.bytes + long e
        n = omega (arith, long_entry s m.bytes t, ap long q)

        go : (k : ℕ) → g.left ≡ k → Going s r (v then refuse 22 m.bytes (ltb e.room low)) (suc e.room) (past r e.room (m.bytes + long e) m)
        go zero p = absurd (omega (arith, h.inside, g.enough))
        go (suc k) p = record {
          left = k;
          enough = omega (arith, g.enough);
          within = omega (arith, h.within, n);
          is = sym (onwards e (scan s k (m.bytes + long e)))
              ∙ ap (resumed r v low m) (rw (← n, ← q) (sym (scan_room s m.bytes k f t)) ∙ ap (λ j. scan s j m.bytes) (sym p))
              ∙ g.is;
        }

    pub going_on : {here behind : ℕ} → Told s m.bytes here behind → Going s r (v then refuse 22 m.bytes (ltb here low)) (here + 1) (past r here behind m)
    going_on {here} {behind} t =
        let e = entry_at s m.bytes in
        let n : m.bytes + long e ≡ behind = omega (arith, long_entry s m.bytes t.is, t.end) in
        let a = going_past g.left e refl t.goes_on t.is refl in
        let b = subst (λ x. Going s r (v then refuse 22 m.bytes (ltb x low)) (suc x) (past r x (m.bytes + long e) m)) (sym t.number) a in
        let d = subst (λ x. Going s r (v then refuse 22 m.bytes (ltb here low)) (suc here) (past r here x m)) n b in
        subst (λ x. Going s r (v then refuse 22 m.bytes (ltb here low)) x (past r here behind m)) (sym (add-one here)) d
