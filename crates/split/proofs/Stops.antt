-- Laws of `stop`: as a loop counts up to it, and how it cuts the first part off a text.
-- Assumes nothing.
use Prim.Native.Nat.{ℕ, zero, suc, ◌+◌, ◌-◌, ◌≤◌, ◌<◌}
use mathlib.Core.Path.{◌≡◌, refl}
use mathlib.Core.Bool.{Bool, true, false, cond}
use mathlib.Core.List.{List, [], ◌∷◌}
use native.Mathlib.Omega.{arith}
use native.Mathlib.Decide.{dec_le}
use lib.Dec.{leb, ltb, leb-suc-suc}
use lib.ListN.{length, take, drop, get_or, length-drop}
use lib.Seq.{drop-drop, length-take-le}
use borrow.Author.Tests.{le-leb, lt-leb, ltb-false}
use Rattle.std.specs.List.{position, position_or_len}
use Rattle.std.specs.Option.{unwrap_or}
use Rattle.std.proofs.Common.{Some, None}
use Rattle.std.proofs.lemmas.List.Recursion.{is_position_or_len}
use Rattle.split.specs.Parts.{marks, stop, until, split, onto}
use Rattle.split.specs.declared.Mark.{Mark}

module _ (m : Mark) where
  pub stop_le : (s : List ℕ) → stop m s ≤ length s
  unfolding stop
  stop_le [] = omega arith
  stop_le (b ∷ s) = go (marks m b) (stop_le s)
    where
      go : (t : Bool) → stop m s ≤ length s → cond t 0 (suc (stop m s)) ≤ suc (length s)
      go true h = omega arith
      go false h = omega arith

  -- the library's words for it
  stop_position : (s : List ℕ) → stop m s ≡ position_or_len (marks m) s
  unfolding stop
  stop_position s = is_position_or_len (stop m) (marks m) refl (λ b s. let e : 1 + stop m s ≡ suc (stop m s) = omega arith in rw e) s

  pub position_stop : (s : List ℕ) → unwrap_or (position (marks m) s) (length s) ≡ stop m s
  position_stop s = rw (← stop_position s) (go (ltb (stop m s) (length s)) refl)
    where
      go : (t : Bool) → ltb (stop m s) (length s) ≡ t → unwrap_or (cond t (Some (stop m s)) None) (length s) ≡ stop m s
      go true e = refl
      go false e = omega (arith, stop_le s, ltb-false (stop m s) (length s) e)

  pub length_until : (s : List ℕ) → length (until m s) ≡ stop m s
  length_until s = length-take-le (stop m s) s (stop_le s)

  -- the bytes before it are not marked
  pub before_stop : (s : List ℕ) (i : ℕ) → i < stop m s → marks m (get_or s i 0) ≡ false
  unfolding stop
  before_stop [] i h = absurd (omega arith)
  before_stop (b ∷ s) i h = go (marks m b) refl i h (before_stop s)
    where
      go : (t : Bool) → marks m b ≡ t → (i : ℕ) → i < cond t 0 (suc (stop m s)) → ((i : ℕ) → i < stop m s → marks m (get_or s i 0) ≡ false)
          → marks m (get_or (b ∷ s) i 0) ≡ false
      go true e i h f = absurd (omega arith)
      go false e zero h f = e
      go false e (suc i) h f = f i (omega arith)

  -- ---- parts

  -- the parts from an offset on; none behind the end
  abbrev pub parts_from : List ℕ → ℕ → List (List ℕ)
  parts_from s at = cond (leb at (length s)) (split m (drop at s)) []

  pub first_part : (s : List ℕ) → split m s ≡ until m s ∷ parts_from s (suc (stop m s))
  unfolding stop split
  first_part [] = refl
  first_part (b ∷ s) = go (marks m b) (first_part s)
    where
      go : (t : Bool) → split m s ≡ until m s ∷ parts_from s (suc (stop m s))
          → cond t ([] ∷ split m s) (onto b (split m s)) ≡ take (cond t 0 (suc (stop m s))) (b ∷ s) ∷ parts_from (b ∷ s) (suc (cond t 0 (suc (stop m s))))
      go true e = rw (le-leb 1 (suc (length s)) (omega arith))
      go false e = rw (e, leb-suc-suc (suc (stop m s)) (length s))

  parts_behind : (s : List ℕ) (at k : ℕ) → at ≤ length s → parts_from (drop at s) (suc k) ≡ parts_from s (at + k + 1)
  parts_behind s at k h =
      rw (length-drop at s, drop-drop (suc k) at s)
      (elim (dec_le (at + k + 1) (length s)) [ yes l ↦ inside l | no l ↦ outside (omega arith) ])
    where
      e : at + suc k ≡ at + k + 1
      e = omega arith

      inside : at + k + 1 ≤ length s → cond (leb (suc k) (length s - at)) (split m (drop (at + suc k) s)) [] ≡ parts_from s (at + k + 1)
      inside l = rw (le-leb (suc k) (length s - at) (omega arith), le-leb (at + k + 1) (length s) l, e)

      outside : length s < at + k + 1 → cond (leb (suc k) (length s - at)) (split m (drop (at + suc k) s)) [] ≡ parts_from s (at + k + 1)
      outside l = rw (lt-leb (suc k) (length s - at) (omega arith), lt-leb (at + k + 1) (length s) l)

  module _ (s : List ℕ) (at : ℕ) (h : at ≤ length s) where
    abbrev pub part : List ℕ
    part = until m (drop at s)

    pub next_part : parts_from s at ≡ part ∷ parts_from s (at + length part + 1)
    next_part = rw (le-leb at (length s) h, length_until (drop at s), ← parts_behind s at (stop m (drop at s)) h) (first_part (drop at s))

    pub part_within : at + length part ≤ length s
    part_within = omega (arith, length_until (drop at s), stop_le (drop at s), length-drop at s)
