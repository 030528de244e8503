-- Of every sheet, and any two ends, that the fit does not refuse before 8 there is one exact solution with exactly the given numbers. Assumes nothing.
use mathlib.Core.Path.{◌≡◌, refl, sym, ◌∙◌}
use mathlib.Core.Bool.{false}
use mathlib.Core.List.{List}
use Prim.Native.Nat.{ℕ}
use lib.IntN.{ℤ}
use lib.ListN.{length}
use Rattle.answer.specs.Answer.{Answer, refused, given, Verdict, accepted, ◌then◌}
use Rattle.answer.proofs.Steps.{first_accepts, next_accepts, both_accept, refuse_accepts}
use Rattle.curve.specs.Kind.{quintic}
use Rattle.curve.specs.Card.{Card, knots}
use Rattle.curve.proofs.NeverTen.{quintic_enough}
use Rattle.exists.specs.Ended.{Ended}
use Rattle.exists.specs.Sound.{Sound}
use Rattle.exists.proofs.Exists.{exact_once}
use Rattle.exists.proofs.Rounded.{rounded_never_10}
use Rattle.exists.proofs.Judged.{quintic_rises, sound_sheet}
use Rattle.rows.specs.declared.End.{End}
use Rattle.ends.specs.Ends.{unfit_end, ends}
use Rattle.fit.specs.Fit.{tested, standing, eliminated, card_of, fit_of, fit_between}
use Rattle.fit.proofs.Order.{in_groups, stood_first}
use Rattle.fit.proofs.Card.{places_lent, codes_known}
use Rattle.exact_fit.specs.Solution.{before_8, sheet, Solution, OneSolution}
use Rattle.exact_fit.proofs.Given.{given_by, has_end, has_fractions}

regroup : {A : Type 0} (a b c : Verdict) (d : Answer A) → ((a then b then accepted) then c then d) ≡ ((a then b then c) then d)
unfolding ◌then◌
regroup (refused n p) b c d = refl
regroup (given u) (refused n p) c d = refl
regroup (given u) (given v) c d = refl

module _ (minutes : List ℕ) (ordinates : List ℤ) (left right : End) where
  -- the fit's answer is `before_8`, and then 8; 9; 10 and the card
  pub fit_goes_on : fit_between minutes ordinates (length minutes) (length minutes) left right
      ≡ (before_8 minutes ordinates left right then eliminated minutes ordinates left right then tested quintic (card_of minutes ordinates left right))
  unfolding before_8
  fit_goes_on = sym (in_groups minutes ordinates left right (length minutes) (length minutes) accepted) ∙ regroup _ _ _ _

  module _ (passed : before_8 minutes ordinates left right ≡ accepted) where
    stands : standing minutes ordinates left right ≡ accepted
    unfolding before_8
    stands = next_accepts _ _ (next_accepts _ _ passed)

    sound : Sound quintic (sheet minutes ordinates left right)
    unfolding before_8 knots
    sound =
        record {
          same_length = first_accepts _ _ passed;
          few_and_many = first_accepts _ _ (next_accepts _ _ passed);
          coded = codes_known left right;
          each_stands = stood_first minutes ordinates left right stands;
        }

    fit_ends : (unfit_end left ≡ false) × (unfit_end right ≡ false)
    unfolding standing ends
    fit_ends = let seven = next_accepts _ _ stands in (refuse_accepts 7 _ _ (first_accepts _ _ seven), refuse_accepts 7 _ _ (next_accepts _ _ seven))

    abbrev Between : Type 0
    Between = Ended (sheet minutes ordinates left right) (given_by left) (given_by right)

    as_numbers : Between → Solution minutes ordinates left right
    unfolding knots
    as_numbers a =
        record { exact = a.exact; at_left = has_end a.exact 0 left fit_ends.0 a.at_left; at_right = has_end a.exact _ right fit_ends.1 a.at_right }

    as_fractions : Solution minutes ordinates left right → Between
    unfolding knots
    as_fractions b =
        record { exact = b.exact; at_left = has_fractions b.exact 0 left b.at_left; at_right = has_fractions b.exact _ right b.at_right }

    pub one_exact : OneSolution minutes ordinates left right
    unfolding knots as_numbers as_fractions
    one_exact =
        let found = sound_sheet sound (given_by left) (given_by right) in
        record {
          solution = as_numbers found.0;
          only = λ other. exact_once _ (quintic_rises sound) (given_by left) (given_by right) found.0 (as_fractions other);
          only_9 = found.1;
          never_10 = rounded_never_10 found.0.exact quintic_enough;
        }

  -- so there is one behind each card that a fit gives, whether its ends came by kind or by code
  pub behind_a_card : (ms Ms : ℕ) (named : Verdict) {card : Card} →
      fit_of minutes ordinates left right ms Ms named ≡ given card → OneSolution minutes ordinates left right
  unfolding before_8
  behind_a_card ms Ms named e =
      let order = in_groups minutes ordinates left right ms Ms named ∙ e in
      let sized = first_accepts _ _ order in
      let lent = places_lent minutes ordinates left right ms Ms named e in
      one_exact
      (both_accept (rw (lent.0, lent.1) at (first_accepts _ _ sized))
      (both_accept (first_accepts _ _ (next_accepts _ _ sized)) (first_accepts _ _ (next_accepts _ _ order))))
