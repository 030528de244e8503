-- What a fit leaves is decided by its answer alone, and a refusal leaves the lists as they were. Assumes nothing.
use mathlib.Core.Path.{◌≡◌, refl, subst}
use mathlib.Core.List.{List}
use lib.IntN.{ℤ}
use Rattle.answer.specs.Answer.{Answer, refused, given, number, place}
use Rattle.curve.specs.Card.{Card}
use Rattle.fit.specs.declared.Fitted.{Fitted}
use Rattle.fit.specs.Promise.{fitted_of, Fits}
use Rattle.std.specs.Prelude.{Ok, IsErrAnd}
use Rattle.std.proofs.lemmas.Result.{err_from_is_err_and}
use Rattle.answer.specs.Judge.{Judged, number_of}
use Rattle.answer.specs.declared.Refusal.{Refusal}

pub fits_along : {fit fit' : Answer Card} {ms Ms ms' Ms' : List ℤ} {r : Fitted} → fit ≡ fit' → Fits fit ms Ms ms' Ms' r → Fits fit' ms Ms ms' Ms' r
fits_along {ms = ms} {Ms} {ms'} {Ms'} {r} e f = subst (λ a. Fits a ms Ms ms' Ms' r) e f

-- what a `?` leaves
pub fits_exit : {fit : Answer Card} {ms Ms : List ℤ} (r : Judged) (e : Refusal) → IsErrAnd r (λ d. d ≡ e) → refused (number_of e.reason) e.place ≡ fit → Fits fit ms Ms ms Ms (fitted_of r)
unfolding number place
fits_exit r e h q = let p = err_from_is_err_and r h in rw (p.1, p.2, ← q) (record { answer = refl; slopes = refl; curvatures = refl })

pub fits_given : {card : Card} {ms Ms ms' Ms' : List ℤ} → ms' ≡ card.slopes → Ms' ≡ card.curvatures → Fits (given card) ms Ms ms' Ms' (fitted_of (Ok tt))
unfolding number place
fits_given m c = record { answer = refl; slopes = m; curvatures = c }
