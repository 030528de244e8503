-- The lines one by one, as the loop takes them.
-- Assumes nothing.
use Prim.Native.Nat.{ℕ, ◌+◌, ◌≤◌, ◌<◌}
use mathlib.Core.Path.{◌≡◌, refl, sym, ◌∙◌}
use mathlib.Core.Bool.{Bool}
use mathlib.Core.List.{List, [], ◌∷◌}
use native.Mathlib.Omega.{arith}
use native.Mathlib.Numerals.{add-one}
use lib.ListN.{length}
use borrow.Author.Tests.{le-leb, lt-leb, lt-ltb, le-ltb}
use Rattle.split.specs.Parts.{lines}
use Rattle.std.specs.Prelude.{Ok, Err}
use Rattle.text.specs.Sheet.{most, no_knots, with_line, then, read, longest, sheet}
use Rattle.text.specs.declared.Blame.{Blame}
use Rattle.split.specs.declared.Mark.TheVariants.{LineEnd}
use Rattle.text.specs.declared.Sheet.{Sheet}
use Rattle.split.proofs.Stops.{parts_from, part, next_part, part_within}

abbrev from : List ℕ → ℕ → List (List ℕ)
from s at = parts_from LineEnd s at

-- the loop's invariant: what is left of the text decides
pub record Reading (mends : Bool) (s : List ℕ) (a : Sheet) (n at : ℕ) : Type 0 where
  pub decides : read mends a n (from s at) ≡ read mends no_knots 1 (lines s)
  pub few : n ≤ at + 1
  pub within : at ≤ length s + 1

pub reading_starts : (mends : Bool) (s : List ℕ) → Reading mends s no_knots 1 0
reading_starts mends s = record { decides = rw (le-leb 0 (length s) (omega arith)); few = omega arith; within = omega arith }

stays : (mends : Bool) (a : Sheet) (n : ℕ) (ls : List (List ℕ)) → most ≤ a.knots → read mends a n ls ≡ Ok a
unfolding read
stays mends a n [] l = refl
stays mends a n (x ∷ ls) l = rw (le-ltb a.knots most l)

module _ {mends : Bool} {s : List ℕ} {a : Sheet} {n at : ℕ} (r : Reading mends s a n at) (short : length s ≤ longest) where
  whole : read mends no_knots 1 (lines s) ≡ sheet mends s
  unfolding sheet
  whole = rw (le-ltb longest (length s) short)

  pub reading_stops : most ≤ a.knots → Ok a ≡ sheet mends s
  reading_stops l = sym (stays mends a n (from s at) l) ∙ r.decides ∙ whole

  pub reading_ends : length s < at → Ok a ≡ sheet mends s
  unfolding read
  reading_ends l = rw (lt-leb at (length s) l) at r.decides ∙ whole

module _ {mends : Bool} {s : List ℕ} {a : Sheet} {n at : ℕ} (r : Reading mends s a n at) (room : a.knots < most) (h : at ≤ length s) where
  abbrev found : List ℕ
  found = part LineEnd s at h

  step : read mends a n (from s at) ≡ then (with_line mends a n found) (λ t. read mends t (n + 1) (from s (at + length found + 1)))
  unfolding read
  step = rw (next_part LineEnd s at h, lt-ltb a.knots most room, add-one n)

  pub reading_goes_on : {b : Sheet} → with_line mends a n found ≡ Ok b → Reading mends s b (n + 1) (at + length found + 1)
  unfolding then
  reading_goes_on e =
      record {
        decides = rw e at (sym step) ∙ r.decides;
        few = omega (arith, r.few);
        within = omega (arith, part_within LineEnd s at h);
      }

  pub reading_breaks : length s ≤ longest → {b : Blame} → with_line mends a n found ≡ Err b → Err b ≡ sheet mends s
  unfolding then
  reading_breaks short e = rw e at (sym step) ∙ r.decides ∙ whole r short
