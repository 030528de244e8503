-- Fits by their job, between ends or to given slopes: that 0 is no refusal's number, the card that a fit
-- gives, that its kind's test accepts it, and that a fresh fit is one of them.
-- Assumes nothing.
use Prim.Native.Nat.{ℕ}
use mathlib.Core.Path.{◌≡◌, refl, sym, ap, subst, ◌∙◌}
use mathlib.Core.Logic.{inl, inr}
use mathlib.Core.Bool.{Bool, true, false, cond}
use mathlib.Core.List.{List}
use native.Mathlib.Omega.{arith}
use borrow.Author.Tests.{ltb-false}
use lib.IntN.{ℤ}
use lib.ListN.{length}
use Rattle.answer.specs.Answer.{given, Verdict, accepted}
use Rattle.answer.proofs.Never.{Never, given_never}
use Rattle.curve.specs.Kind.{Kind, quintic, sloped}
use Rattle.curve.specs.Card.{Card, knots}
use Rattle.curve.specs.Steps.{codes}
use Rattle.curve.specs.Orders.{verdict}
use Rattle.curve.proofs.Accepted.{good}
use Rattle.knots.specs.Lent.{lent}
use Rattle.rows.specs.declared.End.{End}
use Rattle.rows.specs.Equations.{code}
use Rattle.ends.proofs.Codes.{code_asked}
use Rattle.fit.specs.Fit as Fit
use Rattle.fit.proofs.Card as Between
use Rattle.fit.proofs.Numbered.{fit_numbered}
use Rattle.slope_fit.specs.SlopesFit as Slopes
use Rattle.slope_fit.specs.SlopesFit.{slopes_fit}
use Rattle.slope_fit.proofs.Card as ToSlopes
use Rattle.slope_fit.proofs.Numbered.{slopes_fit_numbered}
use Rattle.card_bytes.specs.Records.{Known}
use Rattle.refit.specs.Fresh.{fresh_between, fresh}
use Rattle.demands.specs.Calls.{Job, between, to_slopes, fit_by, slopes_by, curvatures_by, card_by, own_ends, fresh_job}

-- 15, where the ends come as code numbers
abbrev pub named_by : Job → Verdict
named_by (between left right named) = named
named_by (to_slopes slopes) = accepted

-- the kind of its card, and the codes
abbrev pub kind_for : Job → Kind
kind_for (between left right named) = quintic
kind_for (to_slopes slopes) = sloped

abbrev pub left_by : Job → ℕ
left_by (between left right named) = code left
left_by (to_slopes slopes) = 0

abbrev pub right_by : Job → ℕ
right_by (between left right named) = code right
right_by (to_slopes slopes) = 0

pub fit_by_numbered : (j : Job) (xs : List ℕ) (ys : List ℤ) (ms Ms : ℕ) → Never 0 (named_by j) → Never 0 (fit_by j xs ys ms Ms)
fit_by_numbered (between left right named) xs ys ms Ms n = fit_numbered xs ys left right ms Ms n
fit_by_numbered (to_slopes slopes) xs ys ms Ms n = slopes_fit_numbered xs ys slopes Ms

pub card_is : (j : Job) (xs : List ℕ) (ys : List ℤ) → card_by j xs ys ≡ lent xs ys (slopes_by j xs ys) (curvatures_by j xs ys) (left_by j) (right_by j)
unfolding Fit.card_of Slopes.card_of
card_is (between left right named) xs ys = refl
card_is (to_slopes slopes) xs ys = refl

-- ---- an accepted fit

module _ (xs : List ℕ) (ys : List ℤ) (ms Ms : ℕ) {c : Card} where
  pub its_card : (j : Job) → fit_by j xs ys ms Ms ≡ given c → c ≡ card_by j xs ys
  its_card (between left right named) e = Between.its_card xs ys left right ms Ms named e
  its_card (to_slopes slopes) e = ToSlopes.its_card xs ys slopes Ms e

  pub accepted_card : (j : Job) → fit_by j xs ys ms Ms ≡ given c → verdict (kind_for j) c ≡ accepted
  accepted_card (between left right named) e = Between.accepted_card xs ys left right ms Ms named e
  accepted_card (to_slopes slopes) e = ToSlopes.accepted_card xs ys slopes Ms e

  -- the places for curvatures, written and lent
  pub curvature_places : (j : Job) → fit_by j xs ys ms Ms ≡ given c → (length c.curvatures ≡ length xs) × (Ms ≡ length xs)
  curvature_places (between left right named) e = ((Between.places_written xs ys left right ms Ms named e).1, (Between.places_lent xs ys left right ms Ms named e).1)
  curvature_places (to_slopes slopes) e = (ToSlopes.places_written xs ys slopes Ms e, (ToSlopes.places_lent xs ys slopes Ms e).1)

  -- and for slopes, between ends
  pub slope_places : (left right : End) (named : Verdict) → fit_by (between left right named) xs ys ms Ms ≡ given c → (length c.slopes ≡ length xs) × (ms ≡ length xs)
  slope_places left right named e = ((Between.places_written xs ys left right ms Ms named e).0, (Between.places_lent xs ys left right ms Ms named e).0)

-- ---- a card fitted anew

module _ (K : Kind) (c : Card) where
  pub fresh_by_job : fresh K c ≡ fit_by (fresh_job K c) c.minutes c.ordinates (knots c) (knots c)
  unfolding fresh fresh_between
  fresh_by_job = go K.slopes_given
    where
      go : (b : Bool) → cond b (slopes_fit c.minutes c.ordinates c.slopes (knots c)) (fresh_between c)
          ≡ fit_by (cond b (to_slopes c.slopes) (own_ends c)) c.minutes c.ordinates (knots c) (knots c)
      go true = refl
      go false = refl

  pub fresh_named : {n : ℕ} → Never n (codes quintic c.left c.right) → Never n (named_by (fresh_job K c))
  fresh_named {n} h = go K.slopes_given
    where
      go : (b : Bool) → Never n (named_by (cond b (to_slopes c.slopes) (own_ends c)))
      go true = given_never
      go false = h

quintic_job : (c : Card) → fresh_job quintic c ≡ own_ends c
unfolding quintic
quintic_job c = refl

sloped_job : (c : Card) → fresh_job sloped c ≡ to_slopes c.slopes
unfolding sloped
sloped_job c = refl

-- its card is of the kind that it was
pub fresh_kind : {K : Kind} → Known K → (c : Card) → kind_for (fresh_job K c) ≡ K
fresh_kind (inl e) c = ap (λ K. kind_for (fresh_job K c)) e ∙ ap kind_for (quintic_job c) ∙ sym e
fresh_kind (inr e) c = ap (λ K. kind_for (fresh_job K c)) e ∙ ap kind_for (sloped_job c) ∙ sym e

-- and has its codes
abbrev Coded : Job → Card → Type 0
Coded j c = (left_by j ≡ c.left) × (right_by j ≡ c.right)

ends_coded : (c : Card) → verdict quintic c ≡ accepted → Coded (own_ends c) c
unfolding quintic
ends_coded c a = let g = good quintic c a in (code_asked c.left _ _ (ltb-false 2 c.left g.left_code), code_asked c.right _ _ (ltb-false 2 c.right g.right_code))

slopes_coded : (c : Card) → verdict sloped c ≡ accepted → Coded (to_slopes c.slopes) c
unfolding sloped
slopes_coded c a = let g = good sloped c a in (omega (arith, ltb-false 0 c.left g.left_code), omega (arith, ltb-false 0 c.right g.right_code))

pub fresh_coded : {K : Kind} → Known K → (c : Card) → verdict K c ≡ accepted → (left_by (fresh_job K c) ≡ c.left) × (right_by (fresh_job K c) ≡ c.right)
fresh_coded (inl e) c a = subst (λ K. Coded (fresh_job K c) c) (sym e) (subst (λ j. Coded j c) (sym (quintic_job c)) (ends_coded c (subst (λ K. verdict K c ≡ accepted) e a)))
fresh_coded (inr e) c a = subst (λ K. Coded (fresh_job K c) c) (sym e) (subst (λ j. Coded j c) (sym (sloped_job c)) (slopes_coded c (subst (λ K. verdict K c ≡ accepted) e a)))
