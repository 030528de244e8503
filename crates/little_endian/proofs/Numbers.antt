-- The laws of little-endian numbers, stated once over the number of bytes: bounds, there and back, a number in two parts, and
-- a number that stands in a list. They follow document 01, "Card bytes", and assume nothing.
use Prim.Native.Nat.{ℕ, zero, suc, ◌+◌, ◌*◌, ◌-◌, ◌/◌, ◌%◌, ◌^◌, ◌≤◌, ◌<◌}
use mathlib.Core.Path.{◌≡◌, refl, ap, sym, ◌∙◌}
use mathlib.Core.List.{List, [], ◌∷◌, ◌++◌}
use native.Mathlib.Nat.{pow-suc, mul_comm, mul_assoc}
use native.Mathlib.Omega.{arith}
use lib.ListN.{length, take, drop, get_or, length-append, length-drop, take-append-drop}
use lib.Seq.{drop-cons, take-add, drop-drop, length-take-le, get_or-drop, take_at, drop_at}
use Rattle.little_endian.specs.Numbers.{le, un, num_at, Bytes}

-- ---- bounds

pub length_le : (k n : ℕ) → length (le k n) ≡ k
unfolding le
length_le zero n = refl
length_le (suc k) n = ap suc (length_le k (n / 256))

pub un_lt : (bs : List ℕ) → Bytes bs → un bs < 256 ^ length bs
unfolding un Bytes
un_lt [] h = omega arith
un_lt (b ∷ bs) h =
    let p : un bs < 256 ^ length bs = un_lt bs (λ i. h (suc i)) in
    rw pow-suc (omega (arith, h 0))

-- ---- bytes

pub bytes_none : Bytes []
unfolding Bytes
bytes_none i = omega arith

pub bytes_append : (s t : List ℕ) → Bytes s → Bytes t → Bytes (s ++ t)
unfolding Bytes
bytes_append [] t h k i = k i
bytes_append (b ∷ s) t h k zero = h 0
bytes_append (b ∷ s) t h k (suc i) = bytes_append s t (λ j. h (suc j)) k i

-- what a number is written as
pub le_bytes : (k n : ℕ) → Bytes (le k n)
unfolding le Bytes
le_bytes zero n i = omega arith
le_bytes (suc k) n zero = omega arith
le_bytes (suc k) n (suc i) = le_bytes k (n / 256) i

-- ---- there and back

pub un_le : (k n : ℕ) → n < 256 ^ k → un (le k n) ≡ n
unfolding un le
un_le zero n h = omega arith
un_le (suc k) n h =
    let p : n < 256 ^ k * 256 = rw pow-suc at h in
    let q : un (le k (n / 256)) ≡ n / 256 = un_le k (n / 256) (omega arith) in
    omega arith

pub le_un : (bs : List ℕ) → Bytes bs → le (length bs) (un bs) ≡ bs
unfolding un le Bytes
le_un [] h = refl
le_un (b ∷ bs) h =
    let e : (b + 256 * un bs) % 256 ≡ b = omega (arith, h 0) in
    let d : (b + 256 * un bs) / 256 ≡ un bs = omega (arith, h 0) in
    rw (e, d, le_un bs (λ i. h (suc i)))

-- ---- a number in two parts, the lower one of j bytes

shift : (j b : ℕ) → 256 ^ suc j * b ≡ 256 * (256 ^ j * b)
shift j b = rw (pow-suc, mul_comm (256 ^ j) 256, mul_assoc)

un_append : (us bs : List ℕ) → un (us ++ bs) ≡ un us + 256 ^ length us * un bs
unfolding un
un_append [] bs = omega arith
un_append (a ∷ us) bs = omega (arith, shift (length us) (un bs), un_append us bs)

pub num_at_add : (j k : ℕ) (s : List ℕ) (at : ℕ)
    → at + j ≤ length s → num_at (j + k) s at ≡ num_at j s at + 256 ^ j * num_at k s (at + j)
unfolding num_at
num_at_add j k s at h =
    let l : length (take j (drop at s)) ≡ j = length-take-le j (drop at s) (simp length-drop (omega arith)) in
    ap un (take-add j k (drop at s) ∙ ap (λ (x : List ℕ). take j (drop at s) ++ take k x) (drop-drop j at s))
    ∙ un_append (take j (drop at s)) (take k (drop (at + j) s))
    ∙ ap (λ (x : ℕ). un (take j (drop at s)) + 256 ^ x * un (take k (drop (at + j) s))) l

pub num_at_one : (s : List ℕ) (at : ℕ) → at < length s → num_at 1 s at ≡ get_or s at 0
unfolding num_at un
num_at_one s at h = rw (drop-cons s at 0) (omega arith)

-- ---- a number that stands in a list

bytes_drop : (n : ℕ) (l : List ℕ) → Bytes l → Bytes (drop n l)
unfolding Bytes
bytes_drop n l h i = rw get_or-drop (h (n + i))

bytes_take : (n : ℕ) (l : List ℕ) → Bytes l → Bytes (take n l)
unfolding Bytes
bytes_take zero l h i = omega arith
bytes_take (suc n) [] h i = omega arith
bytes_take (suc n) (x ∷ l) h zero = h 0
bytes_take (suc n) (x ∷ l) h (suc i) = bytes_take n l (λ j. h (suc j)) i

-- `next` is the offset behind the number, so that a caller's offsets keep the form that they have in the document.
module _ (s : List ℕ) (at k next : ℕ) (e : at + k ≡ next) where
  whole : next ≤ length s → length (take k (drop at s)) ≡ k
  whole l = length-take-le k (drop at s) (simp length-drop (omega arith))

  behind : drop k (drop at s) ≡ drop next s
  behind = drop-drop k at s ∙ ap (λ (i : ℕ). drop i s) e

  bytes_between : Bytes s → Bytes (take k (drop at s))
  bytes_between h = bytes_take k (drop at s) (bytes_drop at s h)

  pub num_at_lt : Bytes s → next ≤ length s → num_at k s at < 256 ^ k
  unfolding num_at
  num_at_lt h l = rw (whole l) at (un_lt (take k (drop at s)) (bytes_between h))

  -- the bytes at an offset are those of the number that is read there
  pub peel : Bytes s → next ≤ length s → drop at s ≡ le k (num_at k s at) ++ drop next s
  unfolding num_at
  peel h l =
      let p : le k (un (take k (drop at s))) ≡ take k (drop at s) =
      rw (whole l) at (le_un (take k (drop at s)) (bytes_between h)) in
      sym (rw (p, ← behind) (take-append-drop k (drop at s)))

  -- and the number whose bytes stand at an offset is read there
  pub record Stood (v : ℕ) (r : List ℕ) : Type 0 where
    pub number : num_at k s at ≡ v
    pub tail : drop next s ≡ r
    pub room : next ≤ length s

  pub stood : (v : ℕ) (r : List ℕ) → 0 < k → v < 256 ^ k → drop at s ≡ le k v ++ r → Stood v r
  unfolding num_at
  stood v r z b p =
      let q : length s - at ≡ k + length r = rw (length-drop, length-append, length_le) at (ap length p) in
      record {
        number = rw (p, take_at (le k v) r k (length_le k v)) (un_le k v b);
        tail = rw (← behind, p) (drop_at (le k v) r k (length_le k v));
        room = omega arith;
      }
