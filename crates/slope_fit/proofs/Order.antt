-- The fit's order in the groups in which the code goes through it. Assumes nothing.
use Prim.Native.Nat.{ℕ}
use mathlib.Core.Path.{◌≡◌, sym}
use mathlib.Core.List.{List}
use lib.IntN.{ℤ}
use lib.ListN.{length}
use Rattle.answer.specs.Answer.{given, accepted, ◌then◌, each}
use Rattle.answer.proofs.Steps.{then_assoc}
use Rattle.curve.specs.Kind.{quintic, sloped}
use Rattle.curve.specs.Card.{knots}
use Rattle.curve.specs.Steps.{lengths, counted, stands}
use Rattle.curve.specs.Orders.{numbers_sound, fit_order}
use Rattle.passes.specs.declared.Job.TheVariants.{Slopes}
use Rattle.fit.specs.Fit.{tested}
use Rattle.worked.specs.Jobs.{solved_by, worked}
use Rattle.fit.proofs.Order.{regroup}
use Rattle.slope_fit.specs.SlopesFit.{solved, ranged, standing, eliminated, card_of, slopes_fit}

module _ (xs : List ℕ) (ys ms : List ℤ) where
  pub in_groups : (Ms : ℕ)
      → ((lengths (length xs) (length ys) (length ms) Ms then counted quintic (length xs) then accepted) then standing xs ys ms then eliminated xs ys ms then tested sloped (card_of xs ys ms))
      ≡ slopes_fit xs ys ms Ms
  unfolding slopes_fit fit_order standing tested card_of knots counted sloped
  in_groups Ms =
      sym
      (regroup (lengths (length xs) (length ys) (length ms) Ms) (counted quintic (length xs)) accepted (each (stands sloped xs ys) 0 (length xs)) (ranged xs ys ms)
      (eliminated xs ys ms) (numbers_sound sloped (card_of xs ys ms)) (given (card_of xs ys ms)))

  -- the steps that an accepted sheet goes through, one after the other
  pub by_steps : (each (stands quintic xs ys) 0 (length xs) then ranged xs ys ms then worked xs ys ms Slopes) ≡ (standing xs ys ms then eliminated xs ys ms then tested sloped (card_of xs ys ms))
  unfolding standing stands sloped eliminated card_of solved worked solved_by
  by_steps = sym (then_assoc _ _ _)
