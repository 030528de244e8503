-- A line by its number, as a loop looks for it.
-- Assumes nothing.
use Prim.Native.Nat.{ℕ, suc, ◌+◌, ◌-◌, ◌≤◌, ◌<◌}
use mathlib.Core.Path.{◌≡◌}
use mathlib.Core.List.{List, [], ◌∷◌}
use native.Mathlib.Nat.{sub-zero}
use native.Mathlib.Omega.{arith}
use lib.ListN.{length, drop, get_or}
use lib.Seq.{drop-length}
use borrow.Author.Tests.{le-leb, lt-leb}
use Rattle.split.specs.Parts.{lines}
use Rattle.split.specs.declared.Mark.TheVariants.{LineEnd}
use Rattle.split.proofs.Stops.{parts_from, part, next_part}

-- the loop's invariant: i lines stand before `at`
pub record Seeking (s : List ℕ) (n i at : ℕ) : Type 0 where
  pub few : i ≤ n
  pub within : at ≤ length s
  pub decides : get_or (parts_from LineEnd s at) (n - i) [] ≡ get_or (lines s) n []

pub seeking_starts : (s : List ℕ) (n : ℕ) → Seeking s n 0 0
seeking_starts s n = record { few = omega arith; within = omega arith; decides = rw (le-leb 0 (length s) (omega arith), sub-zero) }

module _ {s : List ℕ} {n i at : ℕ} (k : Seeking s n i at) where
  abbrev found : List ℕ
  found = part LineEnd s at k.within

  abbrev behind : List (List ℕ)
  behind = parts_from LineEnd s (at + length found + 1)

  here : get_or (found ∷ behind) (n - i) [] ≡ get_or (lines s) n []
  here = rw (next_part LineEnd s at k.within) at k.decides

  pub seeking_found : n ≤ i → found ≡ get_or (lines s) n []
  seeking_found h = let e : n - i ≡ 0 = omega (arith, k.few) in rw e at here

  module _ (h : i < n) where
    passed : get_or behind (n - (i + 1)) [] ≡ get_or (lines s) n []
    passed = let e : n - i ≡ suc (n - (i + 1)) = omega arith in rw e at here

    pub seeking_more : at + length found < length s → Seeking s n (i + 1) (at + length found + 1)
    seeking_more l = record { few = omega arith; within = omega arith; decides = passed }

    pub seeking_none : at + length found ≡ length s → drop (at + length found) s ≡ get_or (lines s) n []
    seeking_none e = rw (e, drop-length s) (rw (lt-leb (at + length found + 1) (length s) (omega arith)) at passed)
