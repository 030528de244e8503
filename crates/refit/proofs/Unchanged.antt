-- What an answer of no changed numbers says: the card's slopes and curvatures are those of its fresh fit. And
-- a card as it is fitted with free ends, without ends, or by given slopes, is so answered; by given slopes
-- only curvatures are counted. Assumes nothing.
use Prim.Native.Nat.{ℕ}
use native.Mathlib.Omega.{arith}
use mathlib.Core.Path.{◌≡◌, refl, sym, ap, ◌∙◌}
use mathlib.Core.List.{List}
use lib.IntN.{ℤ, pos, ℤ_discrete}
use lib.Ieee.{Float, of_int, of_bits, div}
use lib.ListN.{length, get_or}
use Rattle.answer.specs.Answer.{given, ◌then◌, refuse}
use Rattle.curve.specs.Kind.{Kind, quintic, sloped}
use Rattle.curve.specs.Card.{Card, knots, knot}
use Rattle.curve.specs.Steps.{codes}
use Rattle.rows.specs.declared.End.TheVariants.{Free}
use Rattle.rows.specs.Floats.{f0}
use Rattle.ends.specs.Ends.{end_by}
use Rattle.fit.specs.Fit.{fit_between, fit_codes, fit}
use Rattle.fit.proofs.AtRest.{starts_at_rest}
use Rattle.slope_fit.specs.SlopesFit.{slopes_fit}
use Rattle.slope_fit.proofs.Card.{its_own}
use Rattle.card_bytes.specs.Held.{card_of}
use Rattle.refit.specs.declared.Refitted.{Refitted}
use Rattle.lines.specs.Lines.{hundredths}
use Rattle.refit.specs.Fresh.{fresh_between, fresh, refit}
use Rattle.refit.specs.Differing.{differing}
use Rattle.refit.specs.Promise.{changed, refitted, Refits}
use Rattle.refit.proofs.Given.{fresh_is}
use Rattle.refit.proofs.Places.{none_of_itself, none_is_same}

-- two cards with the same slopes and curvatures
pub record SameNumbers (c d : Card) : Type 0 where
  pub slopes : c.slopes ≡ d.slopes
  pub curvatures : c.curvatures ≡ d.curvatures

module _ (c d : Card) where
  none_changed : changed c d.slopes d.curvatures ≡ 0 → SameNumbers c d
  unfolding changed
  none_changed e = record { slopes = none_is_same ℤ_discrete _ _ (omega arith); curvatures = none_is_same ℤ_discrete _ _ (omega arith) }

  same_unchanged : SameNumbers c d → changed c d.slopes d.curvatures ≡ 0
  unfolding changed
  same_unchanged same = rw (same.slopes, same.curvatures, none_of_itself ℤ_discrete d.slopes, none_of_itself ℤ_discrete d.curvatures)

-- d is the fresh fit of the card that the bytes hold
pub unchanged_is_the_fit : {s : List ℕ} {ms Ms ms' Ms' : List ℤ} {r : Refitted} {d : Card} → Refits s ms Ms ms' Ms' r → refit (length ms) (length Ms) s ≡ given d
    → (r.changed ≡ 0 → SameNumbers (card_of s) d) × (SameNumbers (card_of s) d → r.changed ≡ 0)
unfolding refitted
unchanged_is_the_fit {s} {d = d} refits e =
    let is = ap (λ r. r.changed) (refits.answer ∙ ap (refitted (card_of s)) e) in
    ((λ z. none_changed (card_of s) d (omega (arith, is))), λ same. is ∙ same_unchanged (card_of s) d same)

-- a card with the numbers of its fresh fit
fresh_is_unchanged : (K : Kind) (c : Card) {d : Card} → fresh K c ≡ given d → SameNumbers c d → refitted c (fresh K c) ≡ record { number = 0; place = 0; knots = knots c; changed = 0 }
unfolding refitted
fresh_is_unchanged K c {d} e same = ap (refitted c) e ∙ ap (λ k. record { number = 0; place = 0; knots = knots c; changed = k }) (same_unchanged c d same)

-- ---- free ends

module _ (c : Card) (left : c.left ≡ 0) (right : c.right ≡ 0) where
  pub free_is_fit_between : fresh quintic c ≡ fit_between c.minutes c.ordinates (knots c) (knots c) Free Free
  unfolding fresh fresh_between end_by codes quintic ◌then◌ refuse
  free_is_fit_between = rw (left, right)

  pub fitted_is_unchanged : {d : Card} → fit_between c.minutes c.ordinates (knots c) (knots c) Free Free ≡ given d → SameNumbers c d
      → refitted c (fresh quintic c) ≡ record { number = 0; place = 0; knots = knots c; changed = 0 }
  fitted_is_unchanged e same = fresh_is_unchanged quintic c (free_is_fit_between ∙ e) same

-- ---- the fit without ends: the numbers that it gives at the left are whole on the card

no_hundredths : hundredths (pos 0) ≡ f0
unfolding of_int of_bits div
no_hundredths = refl

module _ (c : Card) (left : c.left ≡ 1) (right : c.right ≡ 0) where
  rest_by_codes : (a b : Float) → fit_codes c.minutes c.ordinates (knots c) (knots c) c.left f0 f0 c.right a b ≡ fit c.minutes c.ordinates (knots c) (knots c)
  unfolding end_by codes quintic ◌then◌ refuse
  rest_by_codes a b = rw (left, right)

  pub rest_is_fit : (knot c 0).m ≡ pos 0 → (knot c 0).M ≡ pos 0 → fresh quintic c ≡ fit c.minutes c.ordinates (knots c) (knots c)
  unfolding fresh quintic
  rest_is_fit m M = sym (fresh_is c refl refl refl (sym (ap hundredths m ∙ no_hundredths)) (sym (ap hundredths M ∙ no_hundredths)) refl refl) ∙ rest_by_codes _ _

  pub default_is_unchanged : {d : Card} → fit c.minutes c.ordinates (knots c) (knots c) ≡ given d → SameNumbers c d
      → refitted c (fresh quintic c) ≡ record { number = 0; place = 0; knots = knots c; changed = 0 }
  unfolding knot
  default_is_unchanged e same =
      let rests = starts_at_rest c.minutes c.ordinates (knots c) (knots c) e in
      let m = ap (λ l. get_or l 0 (pos 0)) same.slopes ∙ rests.0 in
      let M = ap (λ l. get_or l 0 (pos 0)) same.curvatures ∙ rests.1 in
      fresh_is_unchanged quintic c (rest_is_fit m M ∙ e) same

-- ---- given slopes

module _ (c : Card) where
  pub slopes_fitted_is_unchanged : {d : Card} → slopes_fit c.minutes c.ordinates c.slopes (knots c) ≡ given d → SameNumbers c d
      → refitted c (fresh sloped c) ≡ record { number = 0; place = 0; knots = knots c; changed = 0 }
  unfolding fresh sloped
  slopes_fitted_is_unchanged e same = fresh_is_unchanged sloped c e same

  module _ {d : Card} (e : fresh sloped c ≡ given d) where
    pub own_slopes_back : d.slopes ≡ c.slopes
    unfolding fresh sloped
    own_slopes_back = ap (λ d. d.slopes) (its_own c.minutes c.ordinates c.slopes (knots c) e)

    pub curvatures_alone_counted : changed c d.slopes d.curvatures ≡ differing ℤ_discrete c.curvatures d.curvatures
    unfolding changed
    curvatures_alone_counted =
        let none : differing ℤ_discrete c.slopes d.slopes ≡ 0 = ap (differing ℤ_discrete c.slopes) own_slopes_back ∙ none_of_itself ℤ_discrete c.slopes in
        omega arith
