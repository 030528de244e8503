-- A buffer that keeps a sound book, and that it keeps one after a put and after a removal. Document 02, orders 3 and 11.
-- Assumes nothing.
use Prim.Native.Nat.{ℕ, ◌≤◌, ◌<◌, ◌^◌}
use mathlib.Core.Path.{◌≡◌, ap, sym, ◌∙◌}
use mathlib.Core.List.{List, ◌++◌}
use native.Mathlib.Omega.{arith}
use lib.ListN.{length, drop}
use Rattle.answer.specs.Answer.{given, accepted}
use Rattle.answer.proofs.Steps.{given_same}
use Rattle.little_endian.specs.Numbers.{Bytes}
use Rattle.card.specs.Answers.{own}
use Rattle.book.specs.Book.{Entry, book_bytes, size, most, book}
use Rattle.book.specs.Lookup.{held}
use Rattle.book.proofs.Rooms.{Rises}
use Rattle.book.proofs.Runs.{gives, sound, run_inside}
use Rattle.book_put.specs.Put.{entry, put_in, put, after}
use Rattle.bookkeeping.specs.Every.{Every, TwoBytes}
use Rattle.bookkeeping.proofs.Inverse.{run_two_bytes, rooms_of_bytes}
use Rattle.bookkeeping.proofs.Kept.{was_put, rises_put, every_put}
use Rattle.book_remove.specs.Remove.{without, remove}
use Rattle.book_remove.proofs.Taking.{size_out}
use Rattle.history.proofs.Out.{rises_out, every_out}

pub record Keeps (s : List ℕ) (es : List Entry) : Type 0 where
  pub is : book s ≡ given es
  pub two_bytes : Every TwoBytes es

-- bytes that are a sound book
pub keeps : {s : List ℕ} {es : List Entry} → Bytes s → book s ≡ given es → Keeps s es
keeps b e = record { is = e; two_bytes = run_two_bytes b (sound e).run }

written : {es : List Entry} (s : List ℕ) → Every TwoBytes es → Rises 0 es → size es ≤ most → Keeps (book_bytes es ++ drop (size es) s) es
written {es} s f u l = record { is = rooms_of_bytes (drop (size es) s) f u l; two_bytes = f }

module _ {s : List ℕ} {es : List Entry} (k : Keeps s es) (r : ℕ) where
  -- ---- after a put

  pub record Put (c : List ℕ) (es' : List Entry) : Type 0 where
    pub passes : own c ≡ accepted
    pub new : put_in (entry r c) es ≡ es'
    pub kept : r < 2 ^ 16 → Keeps (after (put r c s) s) es'

  pub putting : (c : List ℕ) {es' : List Entry} → put r c s ≡ given es' → Put c es'
  unfolding after
  putting c {es'} e =
      let p = was_put r c s e in
      let q : p.es ≡ es = given_same (sym p.is ∙ k.is) in
      let new : put_in (entry r c) es ≡ es' = ap (put_in (entry r c)) (sym q) ∙ p.new in
      let n : size es' ≤ most = rw p.new at p.within in
      let u : Rises 0 es' = rw new at (rises_put (entry r c) (omega arith) (sound k.is).up) in
      record {
        passes = p.passes;
        new = new;
        kept = λ l. rw e (written s (rw new at (every_put (entry r c) l k.two_bytes)) u n);
      }

  -- ---- after a removal

  pub record Removed (es' : List Entry) : Type 0 where
    pub card : List ℕ
    pub here : held r es ≡ given card
    pub new : without r es ≡ es'
    pub room : size es' ≤ length s
    pub kept : Keeps (after (remove r s) s) es'

  pub removing : {es' : List Entry} → remove r s ≡ given es' → Removed es'
  unfolding remove after
  removing {es'} e =
      let g = gives (book s) _ e in
      let q : g.what ≡ es = given_same (sym g.gave ∙ k.is) in
      let h = gives (held r g.what) _ g.follows in
      let here : held r es ≡ given h.what = ap (held r) (sym q) ∙ h.gave in
      let new : without r es ≡ es' = ap (without r) (sym q) ∙ given_same h.follows in
      let o = sound k.is in
      let i = run_inside s o.run in
      let l : size es' ≤ size es = omega (arith, ap size new, size_out r o.up here) in
      let n : size es' ≤ most = omega (arith, i.1) in
      record {
        card = h.what;
        here = here;
        new = new;
        room = omega (arith, i.0);
        kept = rw e (written s (rw new at (every_out r k.two_bytes)) (rw new at (rises_out r o.up)) n);
      }
