-- Demand 2 of a card that is fitted anew: the numbers that it leaves are the elimination's of the card's own
-- knots, between its own ends or to its own slopes, and are kept with the card's own codes, as of its kind.
-- Assumes nothing.
use mathlib.Core.Path.{◌≡◌, sym, ap, subst, ◌∙◌}
use mathlib.Core.List.{List}
use lib.IntN.{ℤ}
use lib.ListN.{length, take}
use lib.Seq.{take_at}
use Rattle.answer.specs.Answer.{Answer, given, accepted}
use Rattle.curve.specs.Kind.{Kind}
use Rattle.curve.specs.Card.{Card, knots}
use Rattle.curve.specs.Orders.{verdict}
use Rattle.knots.specs.Lent.{lent}
use Rattle.card_bytes.specs.Records.{kind_by}
use Rattle.card_bytes.proofs.RoundTrip as Bytes
use Rattle.card_bytes.proofs.ByHead.{known_by}
use Rattle.refit.specs.Fresh.{fresh, refit}
use Rattle.refit.specs.Promise.{after}
use Rattle.refit.proofs.Renewal.{fresh_places}
use Rattle.demands.specs.Calls.{Job, fit_by, slopes_by, curvatures_by, fresh_job, ARefit, refit_bytes, fresh_slopes, fresh_curvatures, old_card, anew, fresh_card}
use Rattle.demands.specs.Demands.{IsGiven, Eliminates, Kept}
use Rattle.demands.proofs.Jobs.{left_by, right_by, its_card, accepted_card, card_is, fresh_by_job, fresh_kind, fresh_coded}
use Rattle.demands.proofs.Answered.{refit_answers, refit_takes, refit_fits, refit_counts}
use Rattle.demands.proofs.FitToCard.{kept}

module _ (c : ARefit) (zero : c.answer.number ≡ 0) where
  abbrev old : Card
  old = old_card c

  abbrev K : Kind
  K = kind_by (refit_bytes c)

  abbrev job : Job
  job = fresh_job K old

  abbrev order : Answer Card
  order = refit (length (fresh_slopes c)) (length (fresh_curvatures c)) (refit_bytes c)

  g : IsGiven order
  g = (refit_answers c.promised).0.accepts zero

  fits : fresh K old ≡ given g.what
  fits = refit_fits c.promised g.is

  by_its_job : fit_by job old.minutes old.ordinates (knots old) (knots old) ≡ given g.what
  by_its_job = sym (fresh_by_job K old) ∙ fits

  -- the front of each list
  fronts : (numbers : Card → List ℤ) (entry : List ℤ) {exit : List ℤ} → exit ≡ after order numbers entry → length (numbers g.what) ≡ knots old → take (knots old) exit ≡ numbers g.what
  unfolding after
  fronts numbers entry e long = ap (take (knots old)) (e ∙ ap (λ v. after v numbers entry) g.is) ∙ take_at (numbers g.what) _ (knots old) long

  is_worked_out : g.what ≡ lent old.minutes old.ordinates (slopes_by job old.minutes old.ordinates) (curvatures_by job old.minutes old.ordinates) (left_by job) (right_by job)
  is_worked_out = its_card old.minutes old.ordinates _ _ job by_its_job ∙ card_is job old.minutes old.ordinates

  -- what is left is the card that the fresh fit gives
  left_is : fresh_card c ≡ g.what
  left_is =
      let long = fresh_places K old fits in
      let codes = fresh_coded (known_by (refit_bytes c)) old (Bytes.accepted_card K (refit_bytes c) (refit_takes c.promised g.is).own) in
      let ms = fronts (λ d. d.slopes) (fresh_slopes c) c.promised.slopes long.0 in
      let Ms = fronts (λ d. d.curvatures) (fresh_curvatures c) c.promised.curvatures long.1 in
      let same = sym is_worked_out in
      let left = sym codes.0 ∙ ap (λ d. d.left) same in
      let right = sym codes.1 ∙ ap (λ d. d.right) same in
      λ i. record { minutes = (same i).minutes; ordinates = (same i).ordinates; slopes = ms i; curvatures = Ms i; left = left i; right = right i }

  pub fresh_eliminates : (c.answer.knots ≡ knots old) × Eliminates (anew c)
  fresh_eliminates = (
    sym (refit_counts c.promised g.is),
    record { slopes = ap (λ d. d.slopes) (left_is ∙ is_worked_out); curvatures = ap (λ d. d.curvatures) (left_is ∙ is_worked_out) },
  )

  pub fresh_is_kept : Kept K (fresh_card c)
  fresh_is_kept =
      let passes = subst (λ L. verdict L g.what ≡ accepted) (fresh_kind (known_by (refit_bytes c)) old) (accepted_card old.minutes old.ordinates _ _ job by_its_job) in
      kept (fresh_card c) (subst (λ d. verdict K d ≡ accepted) (sym left_is) passes)
