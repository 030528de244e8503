-- What the page says of looking up in a book: the answer's number, place and zeros, the part that is handed back, and that no jump refuses a card near an exact solution; and which
-- numbers the orders of a book never refuse with. Document 02, orders 3 and 11.
-- Assumes nothing.
use Prim.Native.Nat.{◌≤◌, ℕ, zero, suc, ◌+◌}
use mathlib.Core.Path.{◌≡◌, refl, sym, ap, subst, ◌∙◌}
use mathlib.Core.Logic.{◌≢◌}
use mathlib.Core.Bool.{Bool, true, false, cond}
use mathlib.Core.List.{List, [], ◌∷◌}
use native.Mathlib.Omega.{arith}
use lib.Dec.{eqb, lit<}
use lib.ListN.{length, take, drop}
use Rattle.answer.specs.Answer.{Answer, refused, given, accepted, number, place, ◌then◌}
use Rattle.answer.proofs.Never.{Never, given_never, never_then, never_refuse, never_number}
use Rattle.card.specs.Answers.{own}
use Rattle.book.specs.Book.{Entry, entry_at, closes, holds, next, long, ◌giving◌, scan, rising, book}
use Rattle.book.specs.Lookup.{held, look_up, part, before, rooms, spot_at, spot}
use Rattle.book.specs.declared.Spot.{Spot}
use Rattle.book.proofs.Answers.{handed, looked_up}
use Rattle.book_put.specs.Put.{made, put}
use Rattle.book_remove.specs.Remove.{remove}
use Rattle.bookkeeping.specs.Card.{card_in}
use Rattle.demands.specs.Calls.{ABookFind, the_book, the_room}
use Rattle.demands.specs.Demands.{Says, HandsBack, HalfAUnitHeld}
use Rattle.demands.proofs.Numbered.{says, card_numbered}
use Rattle.demands.proofs.NeverTen.{own_never}

-- ---- which numbers the orders of a book never refuse with

module _ (n : ℕ) where
  never_giving : {A B : Type 0} {a : Answer A} (f : A → Answer B) → Never n a → ((x : A) → a ≡ given x → Never n (f x)) → Never n (a giving f)
  unfolding ◌giving◌
  never_giving {a = refused m p} f h k = record { never = λ q e. let z : m ≡ n = cc in h.never p (ap (λ j. refused j p) z) }
  never_giving {a = given x} f h k = k x refl

  refused_never : {A : Type 0} (m p : ℕ) → m ≢ n → Never {A = A} n (refused m p)
  refused_never m p h = record { never = λ q e. h (cc) }

  module _ (not-14 : 14 ≢ n) (not-22 : 22 ≢ n) (s : List ℕ) where
    scan_never : (k at : ℕ) → Never n (scan s k at)
    unfolding scan
    scan_never zero at = refused_never 14 at not-14
    scan_never (suc k) at = go (closes s at) (holds s at) (never_giving _ (scan_never k (next s at)) (λ es e. given_never))
      where
        go : (a b : Bool) → Never n (scan s k (next s at) giving λ es. given (entry_at s at ∷ es))
            → Never n (cond a (given []) (cond b (scan s k (next s at) giving λ es. given (entry_at s at ∷ es)) (refused 14 at)))
        go true b h = given_never
        go false true h = h
        go false false h = refused_never 14 at not-14

    rising_never : (low at : ℕ) (es : List Entry) → Never n (rising low at es)
    unfolding rising
    rising_never low at [] = given_never
    rising_never low at (e ∷ es) = never_then (never_refuse n 22 at _ not-22) (rising_never (suc e.room) _ es)

    book_never : Never n (book s)
    unfolding book
    book_never = never_giving _ (scan_never (length s) 0) (λ es e. never_then (rising_never 0 0 es) given_never)

    held_never : 20 ≢ n → (r : ℕ) (es : List Entry) → Never n (held r es)
    unfolding held
    held_never h r [] = refused_never 20 0 h
    held_never h r (e ∷ es) = go (eqb e.room r) (held_never h r es)
      where
        go : (b : Bool) → Never n (held r es) → Never n (cond b (given e.card) (held r es))
        go true k = given_never
        go false k = k

    pub look_up_never : 20 ≢ n → (r : ℕ) → ((c : List ℕ) → card_in r s ≡ given c → Never n (own c)) → Never n (look_up r s)
    unfolding look_up ◌giving◌
    look_up_never h r own-n = never_giving _ book_never (λ es e. never_giving _ (held_never h r es) (λ c q. never_then (own-n c (rw e q)) given_never))

    pub remove_never : 20 ≢ n → (r : ℕ) → Never n (remove r s)
    unfolding remove
    remove_never h r = never_giving _ book_never (λ es e. never_giving _ (held_never h r es) (λ c q. given_never))

    pub put_never : 21 ≢ n → (r : ℕ) (c : List ℕ) → Never n (own c) → Never n (put r c s)
    unfolding put made
    put_never h r c own-n = never_giving _ book_never (λ es e. never_then own-n (never_then (never_refuse n 21 0 _ h) given_never))

-- ---- the answers

spot_fields : (at : ℕ) (v : Answer (List ℕ)) → (let r = spot_at at v in (r.number ≡ number v) × (r.place ≡ place v) × (r.number ≢ 0 → (r.start ≡ 0) × (r.length ≡ 0)))
unfolding spot_at number place
spot_fields at (refused n p) = (refl, refl, λ h. (refl, refl))
spot_fields at (given c) = (refl, refl, λ h. absurd (h refl))

abbrev NoSpot : Spot → Type 0
NoSpot r = r.number ≢ 0 → (r.start ≡ 0) × (r.length ≡ 0)

pub find_answers : (room : ℕ) (s : List ℕ) {r : Spot} → r ≡ spot room s → Says (look_up room s) r.number r.place × NoSpot r
unfolding spot
find_answers room s e =
    let v = look_up room s in
    let f = spot_fields (before room (rooms (book s)) + 6) v in
    let n = look_up_never 0 (λ z. omega arith) (λ z. omega arith) s (λ z. omega arith) room (λ c q. card_numbered c) in
    subst (λ r. Says v r.number r.place × NoSpot r) (sym e) (says v n f.0 f.1, f.2)

-- ---- the part that is handed back

-- is what is looked up
pub part_is : (room : ℕ) (s : List ℕ) {r : Spot} → r ≡ spot room s → take r.length (drop r.start s) ≡ part (look_up room s)
part_is room s e = subst (λ r. take r.length (drop r.start s) ≡ part (look_up room s)) (sym e) (handed room s).is

pub part_passes : (room : ℕ) (s : List ℕ) {r : Spot} → r ≡ spot room s → r.number ≡ 0 → own (take r.length (drop r.start s)) ≡ accepted
unfolding part
part_passes room s e z =
    let g = (find_answers room s e).0.accepts z in
    ap own (part_is room s e ∙ ap part g.is) ∙ (looked_up room s g.is).passes

pub handed_back : (c : ABookFind) → HandsBack c
unfolding part ◌giving◌
handed_back c =
    let room = the_room c in
    let s = the_book c in
    let answers = find_answers room s c.promised in
    record {
      inside = subst (λ (r : Spot). r.start + r.length ≤ length s) (sym c.promised) (handed room s).inside;
      its_card = λ z.
          let g = answers.0.accepts z in
          let l = looked_up room s g.is in
          ap (λ b. b giving held room) l.is ∙ l.here ∙ ap given (sym (part_is room s c.promised ∙ ap part g.is));
      none = λ h. ap (λ n. take n (drop c.answer.start s)) (answers.1 h).1;
    }

-- ---- never 10

pub find_never : (room : ℕ) (s : List ℕ) → ((c : List ℕ) → card_in room s ≡ given c → HalfAUnitHeld c) → number (look_up room s) ≢ 10
find_never room s half = never_number _ (lit< tt) (look_up_never 10 (λ z. omega arith) (λ z. omega arith) s (λ z. omega arith) room (λ c q. own_never c (half c q)))

pub removes_never : (room : ℕ) (s : List ℕ) → number (remove room s) ≢ 10
removes_never room s = never_number _ (lit< tt) (remove_never 10 (λ z. omega arith) (λ z. omega arith) s (λ z. omega arith) room)

pub puts_never : (room : ℕ) (card s : List ℕ) → HalfAUnitHeld card → number (put room card s) ≢ 10
puts_never room card s half = never_number _ (lit< tt) (put_never 10 (λ z. omega arith) (λ z. omega arith) s (λ z. omega arith) room card (own_never card half))
