-- The fit's order in the groups in which the code goes through it, and what the first of them shows of the lent lists. Assumes nothing.
use Prim.Native.Nat.{ℕ, ◌≤◌}
use native.Mathlib.Omega.{arith}
use mathlib.Core.Path.{◌≡◌, refl, sym}
use mathlib.Core.List.{List}
use borrow.Author.Tests.{ltb-false}
use lib.IntN.{ℤ}
use lib.ListN.{length}
use Rattle.answer.specs.Answer.{Answer, refused, given, Verdict, accepted, ◌then◌, each}
use Rattle.answer.proofs.Steps.{then_assoc, first_accepts, next_accepts, refuse_accepts}
use Rattle.curve.specs.Kind.{quintic}
use Rattle.curve.specs.Card.{knots}
use Rattle.curve.specs.Steps.{lengths, counted, stands}
use Rattle.curve.specs.Orders.{numbers_sound, fit_order}
use Rattle.curve.proofs.Accepted.{same_lengths}
use Rattle.rows.specs.declared.End.{End}
use Rattle.passes.specs.Sheet.{most}
use Rattle.ends.specs.Ends.{ends}
use Rattle.fit.specs.Fit.{tested, standing, solved, eliminated, card_of, fit_of}
use Rattle.passes.specs.declared.Job.TheVariants.{Ends}
use Rattle.worked.specs.Jobs.{solved_by, worked}
use Rattle.fit.specs.Promise.{Alike}

pub regroup : {A : Type 0} (a b c d e f g : Verdict) (h : Answer A) → ((a then b then c then d then e then f then g) then h) ≡ ((a then b then c) then (d then e) then f then g then h)
unfolding ◌then◌
regroup (refused n p) b c d e f g h = refl
regroup (given u) (refused n p) c d e f g h = refl
regroup (given u) (given v) (refused n p) d e f g h = refl
regroup (given u) (given v) (given w) (refused n p) e f g h = refl
regroup (given u) (given v) (given w) (given x) (refused n p) f g h = refl
regroup (given u) (given v) (given w) (given x) (given y) (refused n p) g h = refl
regroup (given u) (given v) (given w) (given x) (given y) (given z) g h = refl

module _ (xs : List ℕ) (ys : List ℤ) (left right : End) where
  pub in_groups : (ms Ms : ℕ) (named : Verdict)
      → ((lengths (length xs) (length ys) ms Ms then counted quintic (length xs) then named) then standing xs ys left right then eliminated xs ys left right then tested quintic (card_of xs ys left right))
      ≡ fit_of xs ys left right ms Ms named
  unfolding fit_of fit_order standing tested card_of knots
  in_groups ms Ms named =
      sym
      (regroup (lengths (length xs) (length ys) ms Ms) (counted quintic (length xs)) named (each (stands quintic xs ys) 0 (length xs)) (ends (length xs) left right)
      (eliminated xs ys left right) (numbers_sound quintic (card_of xs ys left right)) (given (card_of xs ys left right)))

  -- the steps that an accepted sheet goes through, one after the other
  pub by_steps : (ms : List ℤ) → (each (stands quintic xs ys) 0 (length xs) then ends (length xs) left right then worked xs ys ms (Ends left right)) ≡ (standing xs ys left right then eliminated xs ys left right then tested quintic (card_of xs ys left right))
  unfolding standing eliminated card_of solved worked solved_by
  by_steps ms = sym (then_assoc _ _ _)

  pub stood_first : standing xs ys left right ≡ accepted → each (stands quintic xs ys) 0 (length xs) ≡ accepted
  unfolding standing
  stood_first e = first_accepts _ _ e

counted_within : (n : ℕ) → counted quintic n ≡ accepted → (3 ≤ n) × (n ≤ most)
unfolding counted quintic
counted_within n e = (ltb-false _ _ (refuse_accepts 1 0 _ (first_accepts _ _ e)), ltb-false _ _ (refuse_accepts 2 0 _ (next_accepts _ _ e)))

pub sized_alike : (xs : List ℕ) (ys ms Ms : List ℤ) (named : Verdict) → (lengths (length xs) (length ys) (length ms) (length Ms) then counted quintic (length xs) then named) ≡ accepted → Alike xs ys ms Ms
sized_alike xs ys ms Ms named e =
    let l = same_lengths (length xs) (length ys) (length ms) (length Ms) (first_accepts _ _ e) in
    let n = counted_within (length xs) (first_accepts _ _ (next_accepts _ _ e)) in
    record { some = omega (arith, n.0); many = n.1; ordinates = l.0; slopes = l.1; curvatures = l.2 }
