-- How long a line is at most, by the widths of its numbers; and what a listing is, by its number of refusal.
-- Assumes nothing.
use Prim.Native.Nat.{ℕ, ◌^◌, ◌≤◌, ◌<◌}
use mathlib.Core.Path.{◌≡◌}
use mathlib.Core.List.{List, [], ◌∷◌, ◌++◌}
use Rattle.std.specs.Prelude.{Option, Some, None}
use native.Mathlib.Omega.{arith}
use lib.IntN.{ℤ, pos, negsuc, nat_abs}
use lib.ListN.{length, length-append}
use borrow.Author.Tests.{eq-eqb, ne_eqb}
use mir.Syntax.{w32}
use mir.Val.{SFits}
use Rattle.decimal.specs.Decimal.{spelled, decimal, field, worded}
use Rattle.decimal.proofs.Lengths.{length_decimal, length_field}
use Rattle.listing.specs.Text.{space, line_feed, four_fields, knot_line, counted_line, listed_line, ok_line, refused_line, lines, line_of, listing, longest_line}

-- a number of 32 bits has at most ten digits
ten_digits : (n : ℕ) → n < 2 ^ 32 → length (decimal n) ≤ 10
ten_digits n h = length_decimal 10 (omega arith) n (omega arith)

within : (z : ℤ) → SFits w32 z → nat_abs z < 10 ^ 10
within (pos n) f = omega (arith, f.sfits)
within (negsuc n) f = omega (arith, f.sfits)

twelve : (z : ℤ) (parting : ℕ) → nat_abs z < 10 ^ 10 → length (field z parting) ≤ 12
twelve = length_field 10 (omega arith)

length_four_fields : (x : ℕ) (y m M : ℤ) (last : ℕ) → x < 2 ^ 32 → SFits w32 y → SFits w32 m → SFits w32 M → length (four_fields x y m M last) ≤ 48
unfolding four_fields
length_four_fields x y m M last a b c d =
    let X = field (pos x) space in
    let Y = field y space in
    let S = field m space in
    omega (
      arith,
      length-append (X ++ Y ++ S) (field M last),
      length-append (X ++ Y) S,
      length-append X Y,
      twelve (pos x) space (omega arith),
      twelve y space (within y b),
      twelve m space (within m c),
      twelve M last (within M d),
    )

pub length_knot_line : (x : ℕ) (y m M : ℤ) → x < 2 ^ 32 → SFits w32 y → SFits w32 m → SFits w32 M → length (knot_line x y m M) ≤ 48
unfolding knot_line
length_knot_line x y m M = length_four_fields x y m M line_feed

pub length_counted_line : (x : ℕ) (y m M : ℤ) (count : ℕ) → x < 2 ^ 32 → SFits w32 y → SFits w32 m → SFits w32 M → count < 2 ^ 32 → length (counted_line x y m M count) ≤ longest_line
unfolding counted_line
length_counted_line x y m M count a b c d e =
    omega (arith, length-append (four_fields x y m M space) (field (pos count) line_feed), length_four_fields x y m M space a b c d, twelve (pos count) line_feed (omega arith))

-- a count of faults is of 32 bits
abbrev pub FitsWhere : Option ℕ → Type 0
FitsWhere None = Unit {0}
FitsWhere (Some n) = n < 2 ^ 32

pub length_listed_line : (x : ℕ) (y m M : ℤ) (faults : Option ℕ) → x < 2 ^ 32 → SFits w32 y → SFits w32 m → SFits w32 M → FitsWhere faults
    → length (listed_line x y m M faults) ≤ longest_line
unfolding listed_line
length_listed_line x y m M None a b c d f = omega (arith, length_knot_line x y m M a b c d)
length_listed_line x y m M (Some n) a b c d f = length_counted_line x y m M n a b c d f

pub length_ok_line : (n : ℕ) → n < 2 ^ 32 → length (ok_line n) ≤ 14
unfolding ok_line spelled
length_ok_line n h = omega (arith, length-append (decimal n) (line_feed ∷ []), ten_digits n h)

pub length_refused_line : (number place : ℕ) → number < 2 ^ 32 → place < 2 ^ 32 → length (refused_line number place) ≤ 33
unfolding refused_line spelled
length_refused_line number place h k =
    omega (
      arith,
      length-append (worded "refused " number ++ worded " at " place) (line_feed ∷ []),
      length-append (worded "refused " number) (worded " at " place),
      ten_digits number h,
      ten_digits place k,
    )

module _ (number place : ℕ) (xs : List ℕ) (ys ms Ms : List ℤ) (fs : List (Option ℕ)) where
  pub refused_listing : (number ≡ 0 → ⊥) → listing number place xs ys ms Ms fs ≡ refused_line number place
  unfolding listing
  refused_listing h = rw (ne_eqb number 0 h)

  pub accepted_listing : number ≡ 0 → listing number place xs ys ms Ms fs ≡ lines (line_of xs ys ms Ms fs) (length xs) ++ ok_line (length xs)
  unfolding listing
  accepted_listing h = rw (eq-eqb number 0 h)
