-- What fitting a card anew answers and leaves, from what the code has: the order of the lent lists, an opened card, and the fit of its knots.
-- Assumes nothing.
use Prim.Native.Nat.{ℕ}
use mathlib.Core.Path.{◌≡◌, refl, sym, ap, ap₂, ◌∙◌}
use mathlib.Core.Bool.{Bool, true, false, not, cond}
use mathlib.Core.List.{List, ◌++◌}
use lib.IntN.{ℤ}
use lib.ListN.{length, take, drop, take-append-drop}
use Rattle.answer.specs.Answer.{Answer, refused, given, Verdict, accepted, ◌then◌, number, place}
use Rattle.answer.proofs.Never.{Never}
use Rattle.curve.specs.Kind.{Kind, quintic}
use Rattle.curve.specs.Card.{Card, knots}
use Rattle.curve.specs.Orders.{lists_order}
use Rattle.knots.specs.declared.Kind.{Kind as Carried}
use Rattle.knots.specs.Kinds.{kind_of}
use Rattle.fit.specs.declared.Fitted.{Fitted}
use Rattle.fit.specs.Promise.{Fits, slopes_after, curvatures_after}
use Rattle.fit.proofs.Card.{places_written}
use Rattle.fit.proofs.Numbered.{codes_numbered, fit_numbered}
use Rattle.slope_fit.specs.SlopesFit.{slopes_fit}
use Rattle.slope_fit.proofs.Card.{its_own, places_lent}
use Rattle.slope_fit.proofs.Card as Slopes
use Rattle.slope_fit.proofs.Numbered.{slopes_fit_numbered}
use Rattle.card_bytes.specs.Held.{card_of}
use Rattle.card_bytes.specs.Records.{kind_by}
use Rattle.card.specs.Answers.{own}
use Rattle.refit.specs.declared.Refitted.{Refitted}
use Rattle.refit.specs.Fresh.{fresh_between, fresh, refit}
use Rattle.refit.specs.Promise.{changed, refitted, after, Refits, Renews}

-- ---- the fresh fit

pub fresh_numbered : (K : Kind) (c : Card) → Never 0 (fresh K c)
unfolding fresh fresh_between
fresh_numbered K c = go K.slopes_given
  where
    go : (given : Bool) → Never 0 (cond given (slopes_fit c.minutes c.ordinates c.slopes (knots c)) (fresh_between c))
    go true = slopes_fit_numbered _ _ _ _
    go false = fit_numbered _ _ _ _ _ _ (codes_numbered quintic _ _)

pub fresh_places : (K : Kind) (c : Card) {d : Card} → fresh K c ≡ given d → (length d.slopes ≡ knots c) × (length d.curvatures ≡ knots c)
unfolding fresh fresh_between knots
fresh_places K c {d} e = go K.slopes_given e
  where
    go : (b : Bool) → cond b (slopes_fit c.minutes c.ordinates c.slopes (length c.minutes)) (fresh_between c) ≡ given d
        → (length d.slopes ≡ length c.minutes) × (length d.curvatures ≡ length c.minutes)
    go true e = (ap (λ d. length d.slopes) (its_own _ _ _ _ e) ∙ (places_lent _ _ _ _ e).0, Slopes.places_written _ _ _ _ e)
    go false e = places_written _ _ _ _ _ _ _ e

module _ (k : Carried) (c : Card) where
  pub fresh_of_ends : k.fourth ≡ true → fresh_between c ≡ fresh (kind_of k) c
  unfolding fresh
  fresh_of_ends e = ap (λ b. cond (not b) (slopes_fit c.minutes c.ordinates c.slopes (knots c)) (fresh_between c)) (sym e)

  pub fresh_of_slopes : {n : ℕ} → k.fourth ≡ false → n ≡ knots c → slopes_fit c.minutes c.ordinates c.slopes n ≡ fresh (kind_of k) c
  unfolding fresh
  fresh_of_slopes e q =
      ap (slopes_fit c.minutes c.ordinates c.slopes) q
      ∙ ap (λ b. cond (not b) (slopes_fit c.minutes c.ordinates c.slopes (knots c)) (fresh_between c)) (sym e)

-- ---- slopes that a fit gave back as they were, to another list

module _ {v : Answer Card} {ms Ms Ms' : List ℤ} {f : Fitted} (fits : Fits v ms Ms ms Ms' f) (l : List ℤ) where
  pub given_back : {m : List ℤ} → m ≡ ms → Never 0 v → f.number ≡ 0 → Fits v l Ms m Ms' f
  unfolding number
  given_back e n z = record { answer = fits.answer; slopes = e ∙ go v n (sym (ap (λ r. r.number) fits.answer) ∙ z) fits.slopes; curvatures = fits.curvatures }
    where
      go : (v : Answer Card) → Never 0 v → number v ≡ 0 → ms ≡ slopes_after v ms → ms ≡ slopes_after v l
      go (refused m p) h e q = absurd (h.never p (ap (λ i. refused i p) e))
      go (given d) h e q = q

  pub left_alone : (f.number ≡ 0 → ⊥) → Fits v l Ms l Ms' f
  unfolding number
  left_alone h = record { answer = fits.answer; slopes = go v (λ e. h (ap (λ r. r.number) fits.answer ∙ e)); curvatures = fits.curvatures }
    where
      go : (v : Answer Card) → (number v ≡ 0 → ⊥) → l ≡ slopes_after v l
      go (refused m p) h = refl
      go (given d) h = absurd (h refl)

-- ---- of a card, and lists of its n places

module _ {K : Kind} {c : Card} {ms Ms ms' Ms' : List ℤ} {f : Fitted} (fits : Fits (fresh K c) ms Ms ms' Ms' f) where
  pub renews_given : {n k : ℕ} → f.number ≡ 0 → n ≡ knots c → k ≡ changed c ms' Ms' → Renews K c ms Ms ms' Ms' (record { number = 0; place = 0; knots = n; changed = k })
  unfolding number refitted
  renews_given {n} {k} z p q =
      record {
        answer = go (fresh K c) (fresh_numbered K c) (sym (ap (λ r. r.number) fits.answer) ∙ z) (q ∙ ap₂ (changed c) fits.slopes fits.curvatures);
        slopes = fits.slopes;
        curvatures = fits.curvatures;
      }
    where
      go : (v : Answer Card) → Never 0 v → number v ≡ 0 → k ≡ changed c (slopes_after v ms) (curvatures_after v Ms) → record { number = 0; place = 0; knots = n; changed = k } ≡ refitted c v
      go (refused m p) h e q = absurd (h.never p (ap (λ i. refused i p) e))
      go (given d) h e q = ap₂ (λ i j. record { number = 0; place = 0; knots = i; changed = j }) p q

  pub renews_refused : (f.number ≡ 0 → ⊥) → Renews K c ms Ms ms' Ms' (record { number = f.number; place = f.place; knots = 0; changed = 0 })
  unfolding number place refitted
  renews_refused h =
      record {
        answer = ap (λ (r : Fitted). record { number = r.number; place = r.place; knots = 0; changed = 0 }) fits.answer ∙ go (fresh K c) (λ e. h (ap (λ r. r.number) fits.answer ∙ e));
        slopes = fits.slopes;
        curvatures = fits.curvatures;
      }
    where
      go : (v : Answer Card) → (number v ≡ 0 → ⊥) → record { number = number v; place = place v; knots = 0; changed = 0 } ≡ refitted c v
      go (refused m p) h = refl
      go (given d) h = absurd (h refl)

-- ---- of a card's bytes, and lent lists

-- lent its first n places, a list has the fit's numbers over its front, or is as it was
after_front : (numbers : Card → List ℤ) (left : Answer Card → List ℤ → List ℤ) (v : Answer Card) (l : List ℤ) {n : ℕ}
    → ((m p : ℕ) → left (refused m p) (take n l) ≡ take n l) → ((d : Card) → left (given d) (take n l) ≡ numbers d) → ((d : Card) → v ≡ given d → length (numbers d) ≡ n)
    → left v (take n l) ++ drop n l ≡ after v numbers l
unfolding after
after_front numbers left (refused m p) l {n} none all long = ap (λ a. a ++ drop n l) (none m p) ∙ take-append-drop n l
after_front numbers left (given d) l none all long = ap₂ (λ a n. a ++ drop n l) (all d) (sym (long d refl))

module _ (s : List ℕ) (ms Ms : List ℤ) where
  abbrev order : Verdict
  order = lists_order (length ms) (length ms) (length ms) (length Ms) (own s) (knots (card_of s))

  refits_by : {v : Answer Card} {ms' Ms' : List ℤ} {r : Refitted} → v ≡ refit (length ms) (length Ms) s → r ≡ refitted (card_of s) v → ms' ≡ after v (λ d. d.slopes) ms → Ms' ≡ after v (λ d. d.curvatures) Ms
      → Refits s ms Ms ms' Ms' r
  refits_by e a m c = record { answer = a ∙ ap (refitted (card_of s)) e; slopes = m ∙ ap (λ v. after v (λ d. d.slopes) ms) e; curvatures = c ∙ ap (λ v. after v (λ d. d.curvatures) Ms) e }

  pub refits_refused : {n p : ℕ} → order ≡ refused n p → Refits s ms Ms ms Ms (record { number = n; place = p; knots = 0; changed = 0 })
  unfolding refit ◌then◌ refitted after
  refits_refused {n} {p} e = refits_by {v = refused n p} (ap (λ v. v then fresh (kind_by s) (card_of s)) (sym e)) refl refl refl

  pub refits_given : {K : Kind} {n : ℕ} {ms' Ms' : List ℤ} {r : Refitted} → order ≡ accepted → K ≡ kind_by s → knots (card_of s) ≡ n → Renews K (card_of s) (take n ms) (take n Ms) ms' Ms' r
      → Refits s ms Ms (ms' ++ drop n ms) (Ms' ++ drop n Ms) r
  unfolding refit ◌then◌
  refits_given {K} {n} e same k renews =
      let c = card_of s in
      refits_by {v = fresh K c} (ap₂ (λ v L. v then fresh L c) (sym e) same) renews.answer
      (ap (λ l. l ++ drop n ms) renews.slopes ∙ after_front (λ d. d.slopes) slopes_after (fresh K c) ms (λ m p. refl) (λ d. refl) (λ d f. (fresh_places K c f).0 ∙ k))
      (ap (λ l. l ++ drop n Ms) renews.curvatures ∙ after_front (λ d. d.curvatures) curvatures_after (fresh K c) Ms (λ m p. refl) (λ d. refl) (λ d f. (fresh_places K c f).1 ∙ k))
