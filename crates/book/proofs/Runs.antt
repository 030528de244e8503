-- The records of a sound book, one after the other, and where a room's card stands among its bytes. Document 02, order 3.
-- Assumes nothing.
use Prim.Native.Nat.{ℕ, zero, suc, ◌+◌, ◌-◌, ◌≤◌}
use mathlib.Core.Path.{◌≡◌, refl, sym, ◌∙◌, subst}
use mathlib.Core.Bool.{Bool, true, false, cond}
use mathlib.Core.List.{List, [], ◌∷◌}
use native.Mathlib.Omega.{arith}
use lib.ListN.{length, take, drop}
use Rattle.answer.specs.Answer.{Answer, refused, given, ◌then◌}
use Rattle.answer.proofs.Steps.{not_both, given_same, first_accepts, next_accepts}
use Rattle.little_endian.specs.Numbers.{num_at}
use Rattle.book.specs.Book.{Entry, long, size, most, next, closes, holds, entry_at, ◌giving◌, scan, rising, book}
use Rattle.book.specs.Lookup.{held, before}
use Rattle.book.specs.Steps.{there}
use Rattle.book.proofs.Standing.{closing, holding, long_entry}
use Rattle.book.proofs.Rooms.{Rises, rises, rising_accepts, Tri, below, same, above, tri, held_below, held_same, before_below, before_same, there_below, there_same, there_above}

-- ---- what was given, where something follows it

module _ {A B : Type 0} where
  pub record Gave (a : Answer A) (f : A → Answer B) (b : B) : Type 0 where
    pub what : A
    pub gave : a ≡ given what
    pub follows : f what ≡ given b

  pub gives : (a : Answer A) (f : A → Answer B) {b : B} → (a giving f) ≡ given b → Gave a f b
  unfolding ◌giving◌
  gives (refused n p) f e = absurd (not_both e)
  gives (given x) f e = record { what = x; gave = refl; follows = e }

-- ---- the records

pub data Run (s : List ℕ) : ℕ → List Entry → Type 0 where
  closed : {at : ℕ} → closes s at ≡ true → Run s at []
  further : {at : ℕ} {es : List Entry} → closes s at ≡ false → holds s at ≡ true → Run s (next s at) es → Run s at (entry_at s at ∷ es)

-- a book has at least its closing record
pub size_least : (es : List Entry) → 4 ≤ size es
unfolding size
size_least [] = omega arith
size_least (e ∷ es) = omega (arith, size_least es)

module _ (s : List ℕ) where
  -- a scan that gives rooms has run over their records
  pub scanned : (k at : ℕ) {es : List Entry} → scan s k at ≡ given es → Run s at es
  unfolding scan
  scanned zero at e = absurd (not_both e)
  scanned (suc k) at {es} e = go (closes s at) (holds s at) refl refl e (λ ds q. scanned k (next s at) q)
    where
      go : (a b : Bool) → closes s at ≡ a → holds s at ≡ b
          → cond a (given []) (cond b (scan s k (next s at) giving λ ds. given (entry_at s at ∷ ds)) (refused 14 at)) ≡ given es
          → ((ds : List Entry) → scan s k (next s at) ≡ given ds → Run s (next s at) ds) → Run s at es
      go true b t u e f = rw (sym (given_same e)) (closed t)
      go false true t u e f =
          let g = gives (scan s k (next s at)) _ e in
          rw (sym (given_same g.follows)) (further t u (f g.what g.gave))
      go false false t u e f = absurd (not_both e)

  -- the book ends within its bytes, and within the limit
  pub run_inside : {at : ℕ} {es : List Entry} → Run s at es → (at + size es ≤ length s) × (at + size es ≤ most)
  unfolding size
  run_inside {at} (closed t) = let h = closing s at t in (h.inside, h.within)
  run_inside {at} (further {es = es} f t r) =
      let e = long_entry s at t in
      let k = run_inside r in
      (omega (arith, k.0), omega (arith, k.1))

  -- and a scan over a run gives its rooms
  pub scans : {at : ℕ} {es : List Entry} → Run s at es → (k : ℕ) → length s ≤ at + k → scan s k at ≡ given es
  unfolding scan ◌giving◌
  scans {at} {es} r zero l = absurd (omega (arith, (run_inside r).0, size_least es))
  scans {at} (closed t) (suc k) l = rw t
  scans {at} (further t u r) (suc k) l = rw (t, u, scans {at = next s at} r k (omega (arith, (holding s at u).two)))

-- ---- a sound book

pub record Sound (s : List ℕ) (es : List Entry) : Type 0 where
  pub run : Run s 0 es
  pub up : Rises 0 es

module _ {s : List ℕ} {es : List Entry} where
  pub sound : book s ≡ given es → Sound s es
  unfolding book
  sound e =
      let g = gives (scan s (length s) 0) _ e in
      let q : g.what ≡ es = given_same (next_accepts (rising 0 0 g.what) _ g.follows) in
      let h : Sound s g.what = record { run = scanned s (length s) 0 g.gave; up = rises 0 0 g.what (first_accepts (rising 0 0 g.what) _ g.follows) } in
      subst (Sound s) q h

  pub is_book : Sound s es → book s ≡ given es
  unfolding book ◌giving◌ ◌then◌
  is_book o = rw (scans s o.run (length s) (omega arith), rising_accepts 0 0 o.up)

-- ---- a room's card, where it stands

pub record Stands (s : List ℕ) (at n : ℕ) (c : List ℕ) : Type 0 where
  pub bytes : n ≡ 6 + length c
  pub inside : at + (6 + length c) ≤ length s
  pub within : at + (6 + length c) ≤ most
  pub part : take (length c) (drop (at + 6) s) ≡ c

-- a room that is looked for, and stands from `at` on
pub record There (s : List ℕ) (r at : ℕ) (es : List Entry) : Type 0 where
  pub card : List ℕ
  pub is : held r es ≡ given card
  pub stands : Stands s (at + before r es) (there r es) card

pub stands_so : {s : List ℕ} {at at' n n' : ℕ} {c : List ℕ} → at' ≡ at → n' ≡ n → Stands s at n c → Stands s at' n' c
stands_so e f h = rw (e, f) h

entry_stands : (s : List ℕ) (at : ℕ) → holds s at ≡ true → Stands s at (long (entry_at s at)) (entry_at s at).card
unfolding entry_at
entry_stands s at t =
    let h = holding s at t in
    let e = long_entry s at t in
    let l : length (take (num_at 2 s at - 2) (drop (at + 6) s)) ≡ num_at 2 s at - 2 = omega arith in
    record { bytes = refl; inside = omega (arith, h.inside); within = omega (arith, h.within); part = rw l }

pub is_there : {s : List ℕ} {at : ℕ} {es : List Entry} (r : ℕ) → Run s at es → (there r es ≡ 0 → ⊥) → There s r at es
unfolding there
is_there r (closed t) h = absurd (h refl)
is_there {s} {at} r (further {es = es} f t k) h = go (tri (entry_at s at).room r) (λ q. is_there r k q)
  where
    e : Entry
    e = entry_at s at

    go : Tri e.room r → ((there r es ≡ 0 → ⊥) → There s r (next s at) es) → There s r at (e ∷ es)
    go (below l) q =
        let w = q (λ z. h (there_below r e es l ∙ z)) in
        let n : at + before r (e ∷ es) ≡ next s at + before r es = omega (arith, long_entry s at t, before_below r e es l) in
        record { card = w.card; is = held_below r e es l ∙ w.is; stands = stands_so n (there_below r e es l) w.stands }
    go (same l) q =
        let n : at + before r (e ∷ es) ≡ at = omega (arith, before_same r e es l) in
        record { card = e.card; is = held_same r e es l; stands = stands_so n (there_same r e es l) (entry_stands s at t) }
    go (above l) q = absurd (h (there_above r e es l))
