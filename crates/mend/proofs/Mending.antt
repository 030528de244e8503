-- What mending by value leaves, with the list filled from its plan, is all that mending leaves; and after 3, 2 and 18 there are no more changes than places. Assumes nothing.
use Prim.Native.Nat.{ℕ, ◌≤◌, ◌<◌}
use native.Mathlib.Omega.{arith}
use mathlib.Core.Path.{◌≡◌, refl, sym, ap, subst, ◌∙◌}
use mathlib.Core.List.{List, ◌++◌}
use borrow.Author.Tests.{ltb-false}
use lib.IntN.{ℤ}
use lib.ListN.{length, get_or, drop}
use Rattle.answer.specs.Answer.{Answer, refused, given, Verdict, accepted, ◌then◌, number, place}
use Rattle.answer.proofs.Steps.{first_accepts, next_accepts, refuse_accepts}
use Rattle.curve.specs.Kind.{quintic}
use Rattle.curve.specs.Card.{Card}
use Rattle.curve.specs.Steps.{counted}
use Rattle.curve.proofs.Accepted.{same_lengths}
use Rattle.front.specs.Front.{listed, over}
use Rattle.front.proofs.Listed.{get_d_listed, listed_is}
use Rattle.holes.specs.Hole.{holes, mended}
use Rattle.holes.specs.Needs.{most}
use Rattle.mend.specs.declared.Change.{Change}
use Rattle.mend.specs.declared.Plan.{Plan}
use Rattle.mend.specs.declared.Mended.{Mended}
use Rattle.mend.specs.Changes.{changes}
use Rattle.mend.specs.Order.{mendable, mend_order, mend}
use Rattle.mend.specs.Promise.{made, no_change, column, plan_of, planned, told, Plans, Mends}
use Rattle.mend.proofs.Columns.{as_many_as_holes, no_more_changes}

-- ---- no more changes than places

-- none are made where the order refuses
few_made : (v : Verdict) (b : Answer Card) (cs : List Change) (k : ℕ) → (v ≡ accepted → length cs ≤ k) → length (made (v then b) cs) ≤ k
unfolding ◌then◌
few_made (refused n p) b cs k h = omega arith
few_made (given u) (refused n p) cs k h = omega arith
few_made (given u) (given card) cs k h = h refl

module _ (xs : List ℕ) (ys : List ℤ) (ms Ms room : ℕ) where
  -- 18
  pub changes_in_room : (zs : List ℤ) → mend_order xs ys ms Ms room ≡ accepted → length (changes ys zs) ≤ room
  unfolding mend_order mendable changes holes
  changes_in_room zs e =
      let enough = ltb-false _ _ (refuse_accepts 18 0 _ (next_accepts _ _ (next_accepts _ _ (next_accepts _ _ (next_accepts _ _ e))))) in
      rw (as_many_as_holes ys zs (length ys)) enough

  -- 3, 2
  changes_in_plan : (zs : List ℤ) → mend_order xs ys ms Ms room ≡ accepted → length (changes ys zs) ≤ most
  unfolding mend_order counted quintic changes
  changes_in_plan zs e =
      let same = same_lengths (length xs) (length ys) ms Ms (first_accepts _ _ e) in
      let few : length xs ≤ most = ltb-false _ _ (refuse_accepts 2 0 _ (next_accepts _ _ (first_accepts _ _ (next_accepts _ _ e)))) in
      omega (arith, same.0, few, no_more_changes ys zs (length ys))

-- ---- a plan's changes

planned_at : (n p : ℕ) (cs : List Change) (j : ℕ) → j < most → planned (plan_of n p cs) j ≡ get_or cs j no_change
unfolding column
planned_at n p cs j h = get_d_listed (λ j. get_or cs j no_change) no_change most j h

listed_plan : (n p : ℕ) (cs : List Change) → length cs ≤ most → listed (planned (plan_of n p cs)) (length cs) ≡ cs
listed_plan n p cs h = listed_is no_change (planned (plan_of n p cs)) cs refl refl (λ j k. planned_at n p cs j (omega (arith, h, k)))

-- ---- all that mending leaves

module _ (xs : List ℕ) (ys ms Ms : List ℤ) (list : List Change) {p : Plan} {ys' ms' Ms' : List ℤ}
    (h : Plans (mend xs ys (length ms) (length Ms) (length list)) (changes ys (mended xs ys)) ys ms Ms ys' ms' Ms' p) where
  abbrev answer : Answer Card
  answer = mend xs ys (length ms) (length Ms) (length list)

  abbrev cs : List Change
  cs = made answer (changes ys (mended xs ys))

  in_room : length cs ≤ length list
  unfolding mend
  in_room = few_made _ _ _ (length list) (changes_in_room xs ys (length ms) (length Ms) (length list) (mended xs ys))

  in_plan : length cs ≤ most
  unfolding mend
  in_plan = few_made _ _ _ most (changes_in_plan xs ys (length ms) (length Ms) (length list) (mended xs ys))

  pub count_within : (p.count ≤ length list) × (p.count ≤ most)
  count_within = subst (λ (q : Plan). (q.count ≤ length list) × (q.count ≤ most)) (sym h.plan) (in_room, in_plan)

  pub mends : {r : Mended} {list' : List Change} → r ≡ told p → list' ≡ over (planned p) p.count list → Mends answer (changes ys (mended xs ys)) ys ms Ms list ys' ms' Ms' list' r
  mends e f =
      record {
        answer = e ∙ ap told h.plan;
        ordinates = h.ordinates;
        slopes = h.slopes;
        curvatures = h.curvatures;
        changes = f ∙ ap (λ (q : Plan). over (planned q) q.count list) h.plan ∙ ap (λ (l : List Change). l ++ drop (length cs) list) (listed_plan (number answer) (place answer) cs in_plan);
      }
