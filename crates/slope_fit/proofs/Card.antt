-- An accepted fit gives a card that kind 6's test accepts: the knots and slopes that it was handed, both
-- codes 0, and as many curvatures as there are knots. Assumes nothing.
use Prim.Native.Nat.{ℕ}
use mathlib.Core.Path.{◌≡◌, refl, sym, ap, subst, ◌∙◌}
use mathlib.Core.List.{List}
use lib.IntN.{ℤ}
use lib.ListN.{length}
use Rattle.answer.specs.Answer.{given, accepted, ◌then◌, refuse}
use Rattle.answer.proofs.Steps.{first_accepts, next_accepts, both_accept}
use Rattle.curve.specs.Kind.{sloped}
use Rattle.curve.specs.Card.{Card, knots}
use Rattle.curve.specs.Steps.{lengths, codes}
use Rattle.curve.specs.Orders.{sound, verdict, fit_order}
use Rattle.curve.proofs.Accepted.{same_lengths}
use Rattle.front.proofs.Listed.{length_listed}
use Rattle.knots.specs.Lent.{lent}
use Rattle.passes.specs.Passes.{pairs_in}
use Rattle.numbers.specs.Numbers.{curvature_at}
use Rattle.fit.proofs.Card.{card_in, shared}
use Rattle.slope_fit.specs.SlopesFit.{solved, card_of, slopes_fit}

codes_0 : codes sloped 0 0 ≡ accepted
unfolding codes refuse sloped ◌then◌
codes_0 = refl

module _ (xs : List ℕ) (ys ms : List ℤ) (Ms : ℕ) {c : Card} (e : slopes_fit xs ys ms Ms ≡ given c) where
  pub its_card : c ≡ card_of xs ys ms
  unfolding slopes_fit
  its_card = sym (ap (card_in c) (next_accepts _ _ e))

  -- the knots, slopes and codes of it
  pub its_own : c ≡ lent xs ys ms c.curvatures 0 0
  unfolding card_of
  its_own = its_card ∙ ap (λ d. lent xs ys ms d.curvatures 0 0) (sym its_card)

  -- what was handed and lent has the card's n places
  pub places_lent : (length ms ≡ length xs) × (Ms ≡ length xs)
  unfolding slopes_fit fit_order card_of knots
  places_lent = let l = same_lengths (length xs) (length ys) (length ms) Ms (shared _ _ _ _ _ _ _ (first_accepts _ _ e)).0 in (l.1, l.2)

  pub places_written : length c.curvatures ≡ length xs
  unfolding card_of
  places_written = ap (λ d. length d.curvatures) its_card ∙ length_listed (curvature_at (pairs_in (solved xs ys ms))) (length xs)

  own_verdict : verdict sloped (card_of xs ys ms) ≡ accepted
  unfolding slopes_fit fit_order verdict sound card_of knots
  own_verdict =
      let s = shared _ _ _ _ _ _ _ (first_accepts _ _ e) in
      let lent = ap (lengths (length xs) (length ys) (length ms)) (length_listed (curvature_at (pairs_in (solved xs ys ms))) (length xs) ∙ sym places_lent.1) in
      both_accept (lent ∙ s.0) (both_accept s.1 (both_accept codes_0 (both_accept s.3 s.4)))

  -- the card's test accepts it
  pub accepted_card : verdict sloped c ≡ accepted
  accepted_card = subst (λ d. verdict sloped d ≡ accepted) (sym its_card) own_verdict
