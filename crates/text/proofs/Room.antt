-- What a caller may know of a sheet: no more knots than its arrays have places.
-- Assumes nothing.
use Prim.Native.Nat.{ℕ, suc, ◌≤◌, ◌<◌}
use mathlib.Core.Path.{◌≡◌, refl, ◌∙◌}
use mathlib.Core.Bool.{Bool, true, false, cond}
use mathlib.Core.List.{List, [], ◌∷◌}
use native.Mathlib.Omega.{arith}
use lib.Dec.{ltb}
use lib.IntN.{ℤ, pos}
use lib.ListN.{length, length-set}
use borrow.Author.Tests.{ltb-true}
use Rattle.split.specs.Parts.{lines}
use Rattle.holes.specs.Hole.{hole}
use Rattle.std.specs.Prelude.{Some, None, Result, Ok, Err, IfOk}
use Rattle.numeral.specs.declared.Wrong.{Wrong}
use Rattle.text.specs.Sheet.{line, most, no_knots, with_knot, without_slope, unsloped, sloping, taken, blaming, line_taken, with_line, then, read, longest, sheet}
use Rattle.text.specs.declared.Blame.{Blame}
use Rattle.text.specs.declared.Line.{Line}
use Rattle.text.specs.declared.Line.TheVariants.{Empty, Knot, Hole, Log}
use Rattle.text.specs.declared.Sheet.{Sheet}

pub record Roomy (a : Sheet) : Type 0 where
  pub few : a.knots ≤ most
  pub minutes : length a.minutes ≡ most
  pub ordinates : length a.ordinates ≡ most
  pub slopes : length a.slopes ≡ most
  pub lines : length a.lines ≡ most
  pub logs : length a.logs ≡ most

pub roomy_none : Roomy no_knots
unfolding no_knots
roomy_none = record { few = omega arith; minutes = refl; ordinates = refl; slopes = refl; lines = refl; logs = refl }

roomy_with_knot : {a : Sheet} → Roomy a → a.knots < most → (n x : ℕ) (y : ℤ) (log sloped : Bool) (m : ℤ) → Roomy (with_knot a n x y log sloped m)
unfolding with_knot
roomy_with_knot {a} r h n x y log sloped m =
    record {
      few = omega arith;
      minutes = length-set a.minutes a.knots x ∙ r.minutes;
      ordinates = length-set a.ordinates a.knots y ∙ r.ordinates;
      slopes = length-set a.slopes a.knots m ∙ r.slopes;
      lines = length-set a.lines a.knots n ∙ r.lines;
      logs = length-set a.logs a.knots log ∙ r.logs;
    }

module _ {a : Sheet} (r : Roomy a) (h : a.knots < most) (n x : ℕ) (y : ℤ) (log : Bool) where
  roomy_without : IfOk (without_slope a n x y log) Roomy
  unfolding without_slope
  roomy_without = go a.sloped
    where
      go : (b : Bool) → IfOk (cond b (Err Wrong.Slopeless) (Ok (with_knot a n x y log false (pos 0)))) Roomy
      go true = tt
      go false = roomy_with_knot r h n x y log false (pos 0)

  roomy_sloping : (mends : Bool) (m : ℤ) → IfOk (sloping mends a n x y log m) Roomy
  unfolding sloping
  roomy_sloping true m = tt
  roomy_sloping false m = go (unsloped a)
    where
      go : (b : Bool) → IfOk (cond b (Err Wrong.OddSlope) (Ok (with_knot a n x y log true m))) Roomy
      go true = tt
      go false = roomy_with_knot r h n x y log true m

roomy_taken : (mends : Bool) {a : Sheet} → Roomy a → a.knots < most → (n : ℕ) (l : Line) → IfOk (taken mends a n l) Roomy
unfolding taken
roomy_taken mends r h n Empty = r
roomy_taken mends r h n (Knot x y None) = roomy_without r h n x y false
roomy_taken mends r h n (Knot x y (Some m)) = roomy_sloping r h n x y false mends m
roomy_taken mends r h n (Log x None) = roomy_without r h n x (pos 0) true
roomy_taken mends r h n (Log x (Some m)) = roomy_sloping r h n x (pos 0) true mends m
roomy_taken true r h n (Hole x) = roomy_without r h n x hole false
roomy_taken false r h n (Hole x) = tt

-- ---- what holds of a sheet where nothing is wrong, line by line

pub both : (P Q : Sheet → Type 0) (r : Result Sheet Blame) → IfOk r P → IfOk r Q → IfOk r (λ a. P a × Q a)
both P Q (Err b) p q = tt
both P Q (Ok a) p q = (p, q)

module _ (P : Sheet → Type 0) where
  pub of_line : (mends : Bool) (a : Sheet) (n : ℕ) (l : Result Line Wrong) → ((x : Line) → l ≡ Ok x → IfOk (taken mends a n x) P)
      → IfOk (line_taken mends a n l) P
  unfolding line_taken blaming
  of_line mends a n (Err wrong) f = tt
  of_line mends a n (Ok x) f = go (taken mends a n x) (f x refl)
    where
      go : (r : Result Sheet Wrong) → IfOk r P → IfOk (blaming n r) P
      go (Err wrong) h = tt
      go (Ok b) h = h

  pub of_lines : (mends : Bool) (a : Sheet) (n : ℕ) (l : List ℕ) (ls : List (List ℕ)) → P a → (a.knots < most → IfOk (with_line mends a n l) P)
      → ((b : Sheet) → P b → IfOk (read mends b (suc n) ls) P) → IfOk (read mends a n (l ∷ ls)) P
  unfolding read then
  of_lines mends a n l ls p first others = go (ltb a.knots most) refl
    where
      follows : (r : Result Sheet Blame) → IfOk r P → IfOk (then r (λ b. read mends b (suc n) ls)) P
      follows (Err b) h = tt
      follows (Ok b) h = others b h

      go : (b : Bool) → ltb a.knots most ≡ b → IfOk (cond b (then (with_line mends a n l) (λ b. read mends b (suc n) ls)) (Ok a)) P
      go true e = follows (with_line mends a n l) (first (ltb-true a.knots most e))
      go false e = p

  pub of_sheet : (mends : Bool) (s : List ℕ) → IfOk (read mends no_knots 1 (lines s)) P → IfOk (sheet mends s) P
  unfolding sheet
  of_sheet mends s h = go (ltb longest (length s))
    where
      go : (b : Bool) → IfOk (cond b (Err (record { wrong = Wrong.TooLong; line = 0 })) (read mends no_knots 1 (lines s))) P
      go true = tt
      go false = h

module _ (mends : Bool) where
  pub roomy_line : {a : Sheet} → Roomy a → a.knots < most → (n : ℕ) (l : List ℕ) → IfOk (with_line mends a n l) Roomy
  roomy_line {a} r h n l = of_line Roomy mends a n (line l) (λ x e. roomy_taken mends r h n x)

  roomy_read : {a : Sheet} → Roomy a → (n : ℕ) (ls : List (List ℕ)) → IfOk (read mends a n ls) Roomy
  roomy_read {a} r n [] = unfold read in r
  roomy_read {a} r n (l ∷ ls) = of_lines Roomy mends a n l ls r (λ h. roomy_line r h n l) (λ b q. roomy_read {a = b} q (suc n) ls)

  pub roomy : (s : List ℕ) → IfOk (sheet mends s) Roomy
  roomy s = of_sheet Roomy mends s (roomy_read roomy_none 1 (lines s))
