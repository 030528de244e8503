-- What was written is read back: the bytes of a card of numbers of their types hold that card, with every record where it is due.
-- Assumes nothing.
use Prim.Native.Nat.{ℕ, zero, suc, ◌+◌, ◌-◌, ◌^◌, ◌≤◌, ◌<◌}
use mathlib.Core.Path.{◌≡◌, refl, sym, ◌∙◌, ap}
use mathlib.Core.Bool.{true}
use mathlib.Core.List.{List, [], ◌++◌, append_assoc, append-nil}
use native.Mathlib.Omega.{arith}
use native.Mathlib.Nat.{zero-add}
use native.Mathlib.Decide.{ℕ_discrete}
use lib.Dec.{lit<}
use lib.ListN.{length, drop, length-append, length-drop}
use lib.IntN.{pos}
use mir.Syntax.{w16, w32}
use mir.Val.{SFits}
use Rattle.front.specs.Front.{listed}
use Rattle.front.proofs.Listed.{listed_is}
use Rattle.little_endian.specs.Numbers.{le, num_at, signed_bytes}
use Rattle.record.specs.Record.{header, is_at}
use Rattle.little_endian.proofs.Numbers.{length_le, stood}
use Rattle.little_endian.proofs.Signs.{length_signed, stood_signed}
use Rattle.record.proofs.Records.{Headed, header_stands}
use Rattle.curve.specs.Kind.{Kind}
use Rattle.curve.specs.Card.{Knot, Card, knots, knot}
use Rattle.curve.specs.Steps.{size}
use Rattle.card_bytes.specs.Bytes.{head_bytes, knot_bytes, end_bytes, rows, knot_row, bytes_of}
use Rattle.card_bytes.specs.Held.{start, minute_at, ordinate_at, slope_at, curvature_at, knot_at, count_at, card_of}
use Rattle.card_bytes.proofs.Standing.{Whole}

-- a knot's numbers are of their types
pub record Typed (k : Knot) : Type 0 where
  pub x : k.x < 2 ^ 16
  pub y : SFits w16 k.y
  pub m : SFits w32 k.m
  pub M : SFits w32 k.M

-- all numbers of lists that are lent, and the codes, are
pub record Numbers (c : Card) : Type 0 where
  pub typed : (i : ℕ) → Typed (knot c i)
  pub left : c.left < 2 ^ 16
  pub right : c.right < 2 ^ 16

-- and the lists are of one length, which two bytes can say
pub record Lent (c : Card) : Type 0 where
  pub numbers : Numbers c
  pub count : knots c < 2 ^ 16
  pub ordinates : length c.ordinates ≡ knots c
  pub slopes : length c.slopes ≡ knots c
  pub curvatures : length c.curvatures ≡ knots c

module _ (s : List ℕ) where
  -- a knot whose bytes stand at a place is read there
  record Read (i : ℕ) (k : Knot) : Type 0 where
    is : is_at s (start i) 2 12 ≡ true
    knot : knot_at s i ≡ k

  record KnotFirst (i : ℕ) (k : Knot) (r : List ℕ) : Type 0 where
    read : Read i k
    tail : drop (start (suc i)) s ≡ r

  knot_first : (i : ℕ) (k : Knot) (r : List ℕ) → Typed k → drop (start i) s ≡ knot_bytes k ++ r → KnotFirst i k r
  unfolding knot_bytes
  knot_first i k r t p =
      let r4 = signed_bytes w32 k.M ++ r in
      let r3 = signed_bytes w32 k.m ++ r4 in
      let r2 = signed_bytes w16 k.y ++ r3 in
      let r1 = le 2 k.x ++ r2 in
      let q : drop (start i) s ≡ header 2 12 ++ r1 = simp append_assoc at p in
      let l : 12 ≤ length r1 = simp (length-append, length_le, length_signed) (omega arith) in
      let h = header_stands s (start i) 2 12 r1 (lit< tt) (lit< tt) l q in
      let x = stood s (start i + 4) 2 (start i + 6) (omega arith) k.x r2 (lit< tt) t.x h.tail in
      let y = stood_signed s w16 (start i + 6) (start i + 8) (omega arith) k.y r3 t.y x.tail in
      let m = stood_signed s w32 (start i + 8) (start i + 12) (omega arith) k.m r4 t.m y.tail in
      let M = stood_signed s w32 (start i + 12) (start i + 16) (omega arith) k.M r t.M m.tail in
      let e : start i + 16 ≡ start (suc i) = omega arith in
      record { read = record { is = h.is; knot = rw (x.number, y.number, m.number, M.number) }; tail = rw e at M.tail }

  module _ (c : Card) (t : (i : ℕ) → Typed (knot c i)) where
    record Rest (i k : ℕ) : Type 0 where
      read : (j : ℕ) → i ≤ j → j < i + k → Read j (knot c j)
      ended : is_at s (start (i + k)) 3 0 ≡ true
      nothing_behind : length s ≤ size (i + k)

    rest : (k i : ℕ) → drop (start i) s ≡ rows (knot_row c) i k ++ end_bytes → Rest i k
    unfolding rows knot_row end_bytes
    rest zero i p =
        let h = header_stands s (start i) 3 0 [] (lit< tt) (lit< tt) (omega arith) (p ∙ sym (append-nil (header 3 0))) in
        let d : length s - (start i + 4) ≡ 0 = rw length-drop at (ap length h.tail) in
        let e : i + 0 ≡ i = omega arith in
        record { read = λ j g l. absurd (omega arith); ended = rw e h.is; nothing_behind = omega arith }
    rest (suc k) i p =
        let h = knot_first i (knot c i) (rows (knot_row c) (suc i) k ++ end_bytes) (t i) (simp append_assoc at p) in
        let r = rest k (suc i) h.tail in
        let e : i + suc k ≡ suc i + k = omega arith in
        record {
          read = λ j g l. elim (ℕ_discrete j i) [ yes q ↦ rw q h.read | no q ↦ r.read j (omega arith) (omega arith) ];
          ended = rw e r.ended;
          nothing_behind = omega (arith, r.nothing_behind);
        }

-- bytes that hold a card's numbers hold the card
card_is : (s : List ℕ) (c : Card) → Lent c → count_at s ≡ knots c → num_at 2 s 6 ≡ c.left → num_at 2 s 8 ≡ c.right
    → ((j : ℕ) → j < knots c → knot_at s j ≡ knot c j) → card_of s ≡ c
unfolding card_of knots knot
card_is s c h n l r k =
    λ t.
    record {
      minutes = xs t;
      ordinates = ys t;
      slopes = ms t;
      curvatures = Ms t;
      left = l t;
      right = r t;
    }
  where
    xs : listed (minute_at s) (count_at s) ≡ c.minutes
    xs = listed_is 0 (minute_at s) c.minutes n refl (λ j g. ap (λ (a : Knot). a.x) (k j g))

    ys : listed (ordinate_at s) (count_at s) ≡ c.ordinates
    ys = listed_is (pos 0) (ordinate_at s) c.ordinates n h.ordinates (λ j g. ap (λ (a : Knot). a.y) (k j g))

    ms : listed (slope_at s) (count_at s) ≡ c.slopes
    ms = listed_is (pos 0) (slope_at s) c.slopes n h.slopes (λ j g. ap (λ (a : Knot). a.m) (k j g))

    Ms : listed (curvature_at s) (count_at s) ≡ c.curvatures
    Ms = listed_is (pos 0) (curvature_at s) c.curvatures n h.curvatures (λ j g. ap (λ (a : Knot). a.M) (k j g))

pub record Kept (K : Kind) (c : Card) : Type 0 where
  pub whole : Whole K.head (bytes_of K c) (knots c)
  pub card : card_of (bytes_of K c) ≡ c

module _ (K : Kind) (c : Card) (small : K.head < 2 ^ 16) where
  abbrev s : List ℕ
  s = bytes_of K c

  abbrev n : ℕ
  n = knots c

  abbrev behind_codes : List ℕ
  behind_codes = rows (knot_row c) 0 n ++ end_bytes

  abbrev behind_header : List ℕ
  behind_header = le 2 n ++ (le 2 c.left ++ (le 2 c.right ++ behind_codes))

  -- the kind of card stands in the head, whatever the card's numbers are
  pub head_stands : Headed s 0 K.head 6 behind_header
  unfolding bytes_of head_bytes
  head_stands = header_stands s 0 K.head 6 behind_header small (lit< tt) (simp (length-append, length_le) (omega arith)) (simp append_assoc)

  pub kept : Lent c → Kept K c
  kept h =
      let z = behind_codes in
      let p = head_stands in
      let count = stood s 4 2 6 refl n (le 2 c.left ++ (le 2 c.right ++ z)) (lit< tt) h.count p.tail in
      let left = stood s 6 2 8 refl c.left (le 2 c.right ++ z) (lit< tt) h.numbers.left count.tail in
      let right = stood s 8 2 10 refl c.right z (lit< tt) h.numbers.right left.tail in
      let r = rest s c h.numbers.typed n 0 right.tail in
      record {
        whole = record {
          headed = p.is;
          knotted = λ i g. (r.read i (omega arith) (omega arith)).is;
          ended = rw zero-add at r.ended;
          nothing_behind = omega (arith, r.nothing_behind);
        };
        card = card_is s c h count.number left.number right.number (λ j g. (r.read j (omega arith) (omega arith)).knot);
      }
