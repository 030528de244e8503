-- The mark of a hole: a test of the machine's bits is a test of the number; and what a count goes up by.
-- Assumes nothing.
use Prim.Native.Nat.{ℕ, zero, suc, ◌+◌, ◌-◌, ◌≤◌, ◌<◌}
use native.Mathlib.Omega.{arith}
use native.Mathlib.Numerals.{add-one}
use mathlib.Core.Path.{◌≡◌, refl, sym, ap, ◌∙◌}
use mathlib.Core.Bool.{Bool, true, false, cond}
use mathlib.Core.List.{List}
use lib.IntN.{ℤ, pos, negsuc}
use lib.Dec.{eqb}
use mir.Syntax.{w16}
use mir.Val.{SFits, of_z}
use borrow.Author.Tests.{eq-eqb, ne_eqb, eqb-true, eqb-false}
use lib.ListN.{length, get_or, take}
use lib.Seq.{take-length}
use Rattle.std.specs.List.{count_by}
use Rattle.std.proofs.lemmas.List.Sums.{count_by_more_yes, count_by_more_no}
use Rattle.holes.specs.Hole.{is_hole, hole_at, holes_to, holes}

pub hole_bits : (y : ℤ) → SFits w16 y → eqb (of_z w16 y) 32768 ≡ is_hole y
unfolding is_hole
hole_bits (pos n) f = let h : n < 32768 = f.sfits in ne_eqb n 32768 (λ e. omega arith)
hole_bits (negsuc n) f = let h : n < 32768 = f.sfits in go (eqb (suc n) 32768) refl h
  where
    go : (t : Bool) → eqb (suc n) 32768 ≡ t → n < 32768 → eqb (of_z w16 (negsuc n)) 32768 ≡ t
    go true e h = eq-eqb (65536 - suc n) 32768 (omega (arith, eqb-true (suc n) 32768 e))
    go false e h = ne_eqb (65536 - suc n) 32768 (λ d. eqb-false (suc n) 32768 e (omega arith))

pub at_most_one : (t : Bool) → cond t 1 0 ≤ 1
at_most_one true = omega arith
at_most_one false = omega arith

module _ (ys : List ℤ) where
  pub one_more : (i : ℕ) → holes_to ys (i + 1) ≡ holes_to ys i + cond (hole_at ys i) 1 0
  unfolding holes_to
  one_more i = rw add-one

  pub no_more_than_knots : (i : ℕ) → holes_to ys i ≤ i
  unfolding holes_to
  no_more_than_knots zero = omega arith
  no_more_than_knots (suc i) = omega (arith, no_more_than_knots i, at_most_one (hole_at ys i))

  counted_to : (i : ℕ) → i ≤ length ys → count_by is_hole (take i ys) ≡ holes_to ys i
  unfolding holes_to hole_at
  counted_to zero h = refl
  counted_to (suc i) h = ap (λ k. count_by is_hole (take k ys)) (sym (add-one i)) ∙ go (is_hole (get_or ys i (pos 0))) refl (counted_to i (omega arith))
    where
      go : (t : Bool) → is_hole (get_or ys i (pos 0)) ≡ t → count_by is_hole (take i ys) ≡ holes_to ys i → count_by is_hole (take (i + 1) ys) ≡ holes_to ys i + cond t 1 0
      go true e r = count_by_more_yes is_hole ys i (pos 0) (omega arith) e ∙ ap (λ n. n + 1) r
      go false e r = count_by_more_no is_hole ys i (pos 0) (omega arith) e ∙ r ∙ omega arith

  pub holes_counted : count_by is_hole ys ≡ holes ys
  unfolding holes
  holes_counted = ap (count_by is_hole) (sym (take-length ys)) ∙ counted_to (length ys) (omega arith)
