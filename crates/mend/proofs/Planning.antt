-- What mending leaves, by the ways in which it ends.
-- Assumes nothing.
use Prim.Native.Nat.{ℕ}
use mathlib.Core.Path.{◌≡◌, refl, sym, ap, subst, ◌∙◌}
use mathlib.Core.Logic.{◌≢◌}
use mathlib.Core.List.{List, []}
use lib.IntN.{ℤ}
use lib.ListN.{length}
use Rattle.answer.specs.Answer.{Answer, refused, given, Verdict, accepted, ◌then◌, number, place}
use Rattle.answer.proofs.Never.{Never, given_never}
use Rattle.curve.specs.Kind.{quintic}
use Rattle.curve.specs.Steps.{lengths, counted}
use Rattle.curve.specs.Card.{Card}
use Rattle.fit.specs.declared.Fitted.{Fitted}
use Rattle.rows.specs.declared.End.TheVariants.{Free}
use Rattle.fit.specs.Fit.{card_of, fit_between}
use Rattle.fit.specs.Promise.{Fits}
use Rattle.fit.proofs.Card.{its_card}
use Rattle.fit.proofs.Numbered.{fit_numbered}
use Rattle.holes.specs.Hole.{mended}
use Rattle.mend.specs.declared.Change.{Change}
use Rattle.mend.specs.declared.Plan.{Plan}
use Rattle.mend.specs.Order.{mendable, mend_order, mend}
use Rattle.mend.specs.Promise.{made, ordinates_after, plan_of, plan_in, Plans}
use Rattle.std.specs.Prelude.{Result, Err, IsErrAnd}
use Rattle.std.proofs.lemmas.Result.{err_from_is_err_and}
use Rattle.answer.specs.Judge.{Judged, number_of}
use Rattle.answer.specs.declared.Refusal.{Refusal}
use Rattle.answer.specs.declared.Reason.{Reason}
use Rattle.fit.specs.Promise.{fitted_of}

module _ {cs : List Change} {ys ms Ms ys' ms' Ms' : List ℤ} {p : Plan} where
  pub plans_along : {mend mend' : Answer Card} → mend ≡ mend' → Plans mend cs ys ms Ms ys' ms' Ms' p → Plans mend' cs ys ms Ms ys' ms' Ms' p
  plans_along e h = subst (λ a. Plans a cs ys ms Ms ys' ms' Ms' p) e h

-- what a `?` leaves
pub plans_exit : {mend : Answer Card} {cs : List Change} {ys ms Ms : List ℤ} (r : Result Plan Refusal) (e : Refusal)
    → IsErrAnd r (λ d. d ≡ e) → refused (number_of e.reason) e.place ≡ mend → Plans mend cs ys ms Ms ys ms Ms (plan_in r)
unfolding number place
plans_exit r e h q = let p = err_from_is_err_and r h in rw (p.1, p.2, ← q) (record { plan = refl; ordinates = refl; slopes = refl; curvatures = refl })

-- ---- the order, in the groups in which the code goes through it

regroup : {A : Type 0} (a b c : Verdict) (d : Answer A) → ((a then b then accepted) then c then d) ≡ ((a then b then c) then d)
unfolding ◌then◌
regroup (refused n p) b c d = refl
regroup (given u) (refused n p) c d = refl
regroup (given u) (given v) c d = refl

pub in_groups : (xs : List ℕ) (ys : List ℤ) (ms Ms room : ℕ)
    → ((lengths (length xs) (length ys) ms Ms then counted quintic (length xs) then accepted) then mendable xs ys room then fit_between xs (mended xs ys) ms Ms Free Free) ≡ mend xs ys ms Ms room
unfolding mend mend_order
in_groups xs ys ms Ms room = regroup _ _ _ _

-- a refusal has a number
pub numbered : (r : Reason) → number_of r ≢ 0
numbered Reason.FewKnots e = cc
numbered Reason.ManyKnots e = cc
numbered Reason.OddLengths e = cc
numbered Reason.NotRising e = cc
numbered Reason.WideGap e = cc
numbered Reason.FarOrdinate e = cc
numbered Reason.UnfitEnd e = cc
numbered Reason.Stuck e = cc
numbered Reason.OutOfRange e = cc
numbered Reason.Jump e = cc
numbered Reason.Outside e = cc
numbered Reason.Meaningless e = cc
numbered Reason.NoGoodByte e = cc
numbered Reason.BadRecord e = cc
numbered Reason.UnknownCode e = cc
numbered Reason.LogLength e = cc
numbered Reason.Stranded e = cc
numbered Reason.FewPlaces e = cc
numbered Reason.LateMiddle e = cc
numbered Reason.NoRoom e = cc
numbered Reason.FullBook e = cc
numbered Reason.UnsortedRoom e = cc
numbered Reason.FewGoodBytes e = cc
numbered Reason.ManyValues e = cc
numbered Reason.UnfitParts e = cc
numbered Reason.ShortBuffer e = cc

-- ---- the fit of the mended sheet

module _ (xs : List ℕ) (zs ms Ms : List ℤ) where
  abbrev fit : Answer Card
  fit = fit_between xs zs (length ms) (length Ms) Free Free

  module _ {cs : List Change} {ys ms' Ms' : List ℤ} {r : Fitted} {p : Plan} (fits : Fits fit ms Ms ms' Ms' r) where
    pub plans_fitted : {ys' : List ℤ} → r.number ≡ 0 → ys' ≡ zs → p ≡ plan_of 0 0 cs → Plans fit cs ys ms Ms ys' ms' Ms' p
    unfolding number place card_of
    plans_fitted z q e =
        let done = go fit refl (fit_numbered xs zs Free Free (length ms) (length Ms) given_never) (sym (ap (λ f. f.number) fits.answer) ∙ z) in
        record { plan = e ∙ done.0; ordinates = q ∙ done.1; slopes = fits.slopes; curvatures = fits.curvatures }
      where
        go : (v : Answer Card) → fit ≡ v → Never 0 v → number v ≡ 0 → (plan_of 0 0 cs ≡ plan_of (number v) (place v) (made v cs)) × (zs ≡ ordinates_after v ys)
        go (refused m q) f h e = absurd (h.never q (ap (λ i. refused i q) e))
        go (given card) f h e = (refl, ap (λ c. c.ordinates) (sym (its_card xs zs Free Free (length ms) (length Ms) accepted f)))

    pub plans_unfitted : r.number ≢ 0 → p ≡ plan_of r.number r.place [] → Plans fit cs ys ms Ms ys ms' Ms' p
    unfolding number place
    plans_unfitted h e =
        let none = go fit (λ z. h (ap (λ f. f.number) fits.answer ∙ z)) in
        record { plan = e ∙ ap (λ (f : Fitted). plan_of f.number f.place []) fits.answer ∙ none.0; ordinates = none.1; slopes = fits.slopes; curvatures = fits.curvatures }
      where
        go : (v : Answer Card) → number v ≢ 0 → (plan_of (number v) (place v) [] ≡ plan_of (number v) (place v) (made v cs)) × (ys ≡ ordinates_after v ys)
        go (refused m q) n = (refl, refl)
        go (given card) n = absurd (n refl)

    -- what a `?` behind the fit leaves
    pub plans_unfitted_exit : {j : Judged} → r ≡ fitted_of j → (e : Refusal) → j ≡ Err e → (out : Result Plan Refusal) → IsErrAnd out (λ d. d ≡ e) → p ≡ plan_in out → Plans fit cs ys ms Ms ys ms' Ms' p
    unfolding number place
    plans_unfitted_exit is e was out h q =
        let x = err_from_is_err_and out h in
        let r-is = is ∙ ap fitted_of was in
        plans_unfitted (λ z. numbered e.reason (sym (ap (λ f. f.number) r-is) ∙ z)) (q ∙ ap plan_in (x.1 ∙ ap Err x.2) ∙ sym (ap (λ f. plan_of f.number f.place []) r-is))
