-- The demands of a mended sheet: what the answer says, what the lists keep, that its numbers are its fit's, and its exact solution.
-- Assumes nothing.
use Prim.Native.Nat.{ℕ}
use native.Mathlib.Omega.{arith}
use mathlib.Core.Path.{◌≡◌, refl, sym, ap, ap₂, subst, ◌∙◌}
use mathlib.Core.Logic.{◌≢◌}
use mathlib.Core.List.{List}
use lib.IntN.{ℤ}
use lib.ListN.{length, take, drop}
use Rattle.answer.specs.Answer.{Answer, refused, given, accepted, number, place}
use Rattle.answer.proofs.Steps.{first_accepts, next_accepts, both_accept}
use Rattle.curve.specs.Kind.{quintic}
use Rattle.curve.specs.Card.{Card}
use Rattle.curve.specs.Steps.{lengths}
use Rattle.curve.specs.Orders.{verdict}
use Rattle.curve.proofs.Accepted.{same_lengths}
use Rattle.knots.specs.Lent.{lent}
use Rattle.rows.specs.declared.End.TheVariants.{Free}
use Rattle.fit.specs.Promise.{Fits, slopes_after, curvatures_after}
use Rattle.fit.specs.Fit.{card_of}
use Rattle.fit.proofs.Card.{its_card, places_written}
use Rattle.exact_fit.specs.Solution.{before_8, OneSolution}
use Rattle.exact_fit.proofs.Solution.{one_exact}
use Rattle.holes.specs.declared.Fill.TheVariants.{Line}
use Rattle.holes.specs.Hole.{mended}
use Rattle.mend.specs.declared.Change.{Change}
use Rattle.mend.specs.declared.Mended.{Mended}
use Rattle.mend.specs.Changes.{changes, restored}
use Rattle.mend.specs.Order.{mend_order, mend}
use Rattle.mend.specs.Promise.{answered, ordinates_after, list_after}
use Rattle.mend.proofs.Bridges.{length_filled}
use Rattle.mend.proofs.Mending.{changes_in_room}
use Rattle.mending.proofs.Numbered.{mend_numbered}
use Rattle.mending.specs.Listed.{ListsTheHoles}
use Rattle.mending.proofs.PutBack.{sheet_is, given_back, lists_holes}
use Rattle.mending.proofs.Afterwards.{mended_is_standing}
use Rattle.demands.specs.Calls.{AMend, sheet_minutes, sheet, sheet', change_list, change_list', of_the_mended, mended_card, the_mending, the_fit}
use Rattle.demands.specs.Demands.{IsGiven, Says, Spares, FitSpares, Eliminates, Kept}
use Rattle.demands.proofs.Numbered.{says}
use Rattle.demands.proofs.Answered.{over_front, spares_all}
use Rattle.demands.proofs.Given.{eliminates}
use Rattle.demands.proofs.FitToCard.{kept, fitted_passes}

-- ---- what the answer says

fields : (v : Answer Card) (cs : List Change) → (let r = answered v cs in (r.number ≡ number v) × (r.place ≡ place v) × (r.number ≢ 0 → r.count ≡ 0))
unfolding number
fields (refused n p) cs = (refl, refl, λ h. refl)
fields (given card) cs = (refl, refl, λ h. absurd (h refl))

module _ (c : AMend) where
  abbrev cs : List Change
  cs = changes (sheet c) (mended (sheet_minutes c) (sheet c))

  pub mend_answers : Says (the_mending c) c.answer.number c.answer.place × (c.answer.number ≢ 0 → c.answer.count ≡ 0)
  mend_answers =
      let v = the_mending c in
      let f = fields v cs in
      subst (λ (r : Mended). Says v r.number r.place × (r.number ≢ 0 → r.count ≡ 0)) (sym c.promised.answer) (says v (mend_numbered _ _ _ _ _) f.0 f.1, f.2)

  abbrev xs : List ℕ
  xs = sheet_minutes c

  abbrev ys : List ℤ
  ys = sheet c

  abbrev ms : List ℤ
  ms = (of_the_mended c).slopes

  abbrev Ms : List ℤ
  Ms = (of_the_mended c).curvatures

  -- ---- of an acceptance

  module _ {card : Card} (e : the_mending c ≡ given card) where
    ordered : mend_order xs ys (length ms) (length Ms) (length (change_list c)) ≡ accepted
    unfolding mend
    ordered = first_accepts _ _ e

    fitted : the_fit (of_the_mended c) ≡ given card
    unfolding mend
    fitted = next_accepts _ _ e

    same : (length ys ≡ length xs) × (length ms ≡ length xs) × (length Ms ≡ length xs)
    unfolding mend_order
    same = same_lengths (length xs) (length ys) (length ms) (length Ms) (first_accepts _ _ ordered)

    long : (length card.ordinates ≡ length xs) × (length card.slopes ≡ length xs) × (length card.curvatures ≡ length xs)
    unfolding card_of
    long =
        let w = places_written xs (mended xs ys) Free Free (length ms) (length Ms) accepted fitted in
        (ap (λ d. length d.ordinates) (its_card xs (mended xs ys) Free Free (length ms) (length Ms) accepted fitted) ∙ length_filled xs ys Line ∙ same.0, w.0, w.1)

    sheet_mended : sheet' c ≡ mended xs ys
    sheet_mended = sheet_is xs c.promised e

    fits : Fits (the_fit (of_the_mended c)) ms Ms (of_the_mended c).slopes' (of_the_mended c).curvatures' (of_the_mended c).answer
    unfolding number place
    fits =
        subst (λ v. Fits v ms Ms (of_the_mended c).slopes' (of_the_mended c).curvatures' (of_the_mended c).answer) (sym fitted)
        (record {
          answer = ap (λ (r : Mended). record { number = r.number; place = r.place }) (c.promised.answer ∙ ap (λ v. answered v cs) e);
          slopes = c.promised.slopes ∙ ap (λ v. slopes_after v ms) e;
          curvatures = c.promised.curvatures ∙ ap (λ v. curvatures_after v Ms) e;
        })

    -- a fit takes the mended sheet up
    taken_up : before_8 xs (mended xs ys) Free Free ≡ accepted
    unfolding before_8 mend_order
    taken_up =
        let alike : lengths (length xs) (length (mended xs ys)) (length xs) (length xs) ≡ accepted =
        ap₂ (lengths (length xs) (length (mended xs ys))) (sym same.1) (sym same.2) ∙ ap (λ n. lengths (length xs) n (length ms) (length Ms)) (length_filled xs ys Line) ∙ first_accepts _ _ ordered in
        both_accept alike (both_accept (first_accepts _ _ (next_accepts _ _ ordered)) (mended_is_standing xs ys (length ms) (length Ms) (length (change_list c)) ordered))

  -- ---- what the lists keep

  list_spares : Spares c.answer.number c.answer.count (change_list c) (change_list' c)
  list_spares = record { refused = λ h. c.promised.changes ∙ go (the_mending c) refl h; given = λ z. written (mend_answers.0.accepts z) }
    where
      go : (v : Answer Card) → the_mending c ≡ v → c.answer.number ≢ 0 → list_after v cs (change_list c) ≡ change_list c
      go (refused n p) is h = refl
      go (given card) is h = absurd (h (mend_answers.0.accepted (record { what = card; is = is })))

      written : IsGiven (the_mending c) → (length (change_list' c) ≡ length (change_list c)) × (drop c.answer.count (change_list' c) ≡ drop c.answer.count (change_list c))
      written g =
          let count_is : length cs ≡ c.answer.count = sym (ap (λ (r : Mended). r.count) (c.promised.answer ∙ ap (λ v. answered v cs) g.is)) in
          over_front cs (change_list c) (c.promised.changes ∙ ap (λ v. list_after v cs (change_list c)) g.is) count_is
          (omega (arith, count_is, changes_in_room xs ys (length ms) (length Ms) (length (change_list c)) (mended xs ys) (ordered g.is)))

  pub mend_spares : Spares c.answer.number (length xs) ys (sheet' c) × FitSpares (of_the_mended c) × Spares c.answer.number c.answer.count (change_list c) (change_list' c)
  mend_spares = (
    spares_all mend_answers.0 ordinates_after c.promised.ordinates (λ n p. refl) (λ d e. ((long e).0, (same e).0)),
    (
      spares_all mend_answers.0 slopes_after c.promised.slopes (λ n p. refl) (λ d e. ((long e).1, (same e).1)),
      spares_all mend_answers.0 curvatures_after c.promised.curvatures (λ n p. refl) (λ d e. ((long e).2, (same e).2)),
    ),
    list_spares,
  )

  -- ---- what an acceptance gives

  pub mend_eliminates : c.answer.number ≡ 0 → (sheet' c ≡ mended xs ys) × Eliminates (of_the_mended c)
  mend_eliminates z = let g = mend_answers.0.accepts z in (sheet_mended g.is, eliminates (of_the_mended c) (fits g.is) (record { what = g.what; is = fitted g.is }))

  pub one_mended_solution : c.answer.number ≡ 0 → OneSolution xs (sheet' c) Free Free
  one_mended_solution z =
      let g = mend_answers.0.accepts z in
      subst (λ zs. OneSolution xs zs Free Free) (sym (sheet_mended g.is)) (one_exact xs (mended xs ys) Free Free (taken_up g.is))

  pub mended_is_kept : c.answer.number ≡ 0 → Kept quintic (mended_card c)
  mended_is_kept z =
      let g = mend_answers.0.accepts z in
      let f = of_the_mended c in
      let e = mend_eliminates z in
      kept (mended_card c)
      (subst (λ ys. verdict quintic (lent xs ys f.slopes' f.curvatures' 0 0) ≡ accepted) (sym e.0) (fitted_passes f (record { what = g.what; is = fitted g.is }) e.1))

  -- ---- what the list of changes has, and what it gives back

  pub mend_lists : c.answer.number ≡ 0 → ListsTheHoles ys (sheet' c) c.answer.count (change_list' c)
  mend_lists z = lists_holes xs c.promised (mend_answers.0.accepts z).is

  pub mend_put_back : restored (take c.answer.count (change_list' c)) (sheet' c) ≡ ys
  mend_put_back = given_back xs c.promised
