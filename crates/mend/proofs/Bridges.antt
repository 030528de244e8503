-- A sheet that has passed the per-knot checks and 17: each hole lies between two sound knots, and the mended sheet passes 4, 5 and 6 too.
-- Assumes nothing.
use Prim.Native.Nat.{ℕ, zero, suc, ◌-◌, ◌≤◌, ◌<◌}
use native.Mathlib.Numerals.{add-one}
use native.Mathlib.Nat.{eq-or-lt_of_le}
use native.Mathlib.Omega.{arith}
use mathlib.Core.Path.{◌≡◌, refl, sym, ap, ◌∙◌, subst}
use mathlib.Core.Logic.{⊎_elim}
use mathlib.Core.Bool.{Bool, true, false}
use mathlib.Core.List.{List}
use borrow.Author.Tests.{eqb-false, leb-false, le-ltb}
use lib.IntN.{ℤ, pos, nat_abs}
use lib.ListN.{length, get_or, take, replicate}
use Rattle.whole.specs.Whole.{beyond}
use Rattle.answer.specs.Answer.{accepted, each}
use Rattle.answer.proofs.Steps.{refuse_accepts, accepts_refuse, each_accepts, accepts_each, first_accepts, next_accepts, both_accept}
use Rattle.curve.specs.Kind.{quintic}
use Rattle.curve.specs.Steps.{stands}
use Rattle.curve.proofs.Accepted.{or_false, true_and_false}
use Rattle.knots.proofs.Accepted.{Stood, stood}
use Rattle.front.specs.Front.{over}
use Rattle.front.proofs.Filled.{front_over}
use Rattle.front.proofs.Listed.{length_listed, get_d_listed}
use Rattle.holes.specs.declared.Fill.{Fill}
use Rattle.holes.specs.declared.Fill.TheVariants.{Zero, Line}
use Rattle.holes.specs.Hole.{hole_at, before, left_of, right_of, bridged, line_at, put_at, filled_at, filled, passable, mended}
use Rattle.holes.specs.Needs.{most, Between, Fillable}
use Rattle.holes.proofs.Sides.{before_in, before_is_sound, after_in, after_is_sound}
use Rattle.holes.proofs.Lines.{line_most}
use Rattle.mend.specs.Order.{mendable}

module _ (xs : List ℕ) (ys : List ℤ) (fill : Fill) where
  pub length_filled : length (filled xs ys fill) ≡ length ys
  unfolding filled
  length_filled = length_listed _ (length ys)

  pub filled_here : (i : ℕ) → i < length ys → get_or (filled xs ys fill) i (pos 0) ≡ filled_at xs ys fill i
  unfolding filled
  filled_here i h = get_d_listed _ (pos 0) (length ys) i h

  pub sound_stays : (i : ℕ) → i < length ys → hole_at ys i ≡ false → get_or (filled xs ys fill) i (pos 0) ≡ get_or ys i (pos 0)
  unfolding filled_at
  sound_stays i h e = filled_here i h ∙ rw e

  -- the front of the copy
  pub front_filled : {copy : List ℤ} → copy ≡ over (filled_at xs ys fill) (length ys) (replicate most (pos 0)) → take (length ys) copy ≡ filled xs ys fill
  unfolding filled
  front_filled e = ap (take (length ys)) e ∙ front_over (filled_at xs ys fill) (length ys) (replicate most (pos 0))

-- what the per-knot checks and 17 have shown
pub record Bridged (xs : List ℕ) (ys : List ℤ) : Type 0 where
  pub stand : each (stands quintic xs (passable xs ys)) 0 (length xs) ≡ accepted
  pub bridge : each (bridged ys) 0 (length ys) ≡ accepted

pub has_bridges : (xs : List ℕ) (ys : List ℤ) (room : ℕ) → mendable xs ys room ≡ accepted → Bridged xs ys
unfolding mendable
has_bridges xs ys room e = record { stand = first_accepts _ _ e; bridge = first_accepts _ _ (next_accepts _ _ e) }

positive : (n : ℕ) → (n ≡ 0 → ⊥) → 0 < n
positive zero g = absurd (g refl)
positive (suc n) g = omega arith

module _ {xs : List ℕ} {ys : List ℤ} (same : length ys ≡ length xs) (b : Bridged xs ys) where
  shown : Stood quintic xs (passable xs ys)
  shown = stood b.stand

  rises : (i k : ℕ) → i < k → k < length xs → get_or xs i 0 < get_or xs k 0
  rises i zero h l = absurd (omega arith)
  rises i (suc k) h l =
      let next : get_or xs k 0 < get_or xs (suc k) 0 = rw add-one at (shown.rising k (omega arith)) in
      ⊎_elim (λ e. subst (λ j. get_or xs j 0 < get_or xs (suc k) 0) (sym e) next) (λ p. omega (arith, rises i k p (omega arith), next)) (eq-or-lt_of_le {n = i} {m = k} (omega arith))

  in_range : (i : ℕ) → i < length ys → hole_at ys i ≡ false → nat_abs (get_or ys i (pos 0)) ≤ quintic.ordinates
  in_range i h e = subst (λ y. nat_abs y ≤ quintic.ordinates) (sound_stays xs ys Zero i h e) (shown.ordinates i (omega arith))

  between : (i : ℕ) → i < length ys → hole_at ys i ≡ true → Between xs ys i
  unfolding bridged left_of right_of
  between i h e =
      let open-sides = or_false _ _ (true_and_false _ _ e (refuse_accepts 17 i _ (each_accepts (bridged ys) 0 (length ys) b.bridge i (omega arith) (omega arith)))) in
      let l = positive (before ys i) (eqb-false _ _ open-sides.0) in
      let r = leb-false _ _ open-sides.1 in
      let li = before_in ys i in
      let ri = after_in ys (suc i) (length ys - suc i) in
      record {
        left_is = l;
        left_in = li;
        right_is = r;
        y_in = in_range (before ys i - 1) (omega arith) (before_is_sound ys i l);
        z_in = in_range _ r (after_is_sound ys (suc i) (length ys - suc i) (omega arith));
        rises = rises (before ys i - 1) i (omega arith) (omega arith);
        rises_on = rises i _ (omega arith) (omega arith);
      }

  pub fillable : Fillable Line xs ys
  fillable = between

  mended_in : (i : ℕ) → i < length ys → nat_abs (get_or (mended xs ys) i (pos 0)) ≤ quintic.ordinates
  unfolding filled_at put_at line_at
  mended_in i h = subst (λ y. nat_abs y ≤ quintic.ordinates) (sym (filled_here xs ys Line i h)) (go (hole_at ys i) refl)
    where
      go : (t : Bool) → hole_at ys i ≡ t → nat_abs (filled_at xs ys Line i) ≤ quintic.ordinates
      go true e = let w = between i h e in rw e (line_most _ _ _ _ _ w.y_in w.z_in (omega (arith, w.rises)))
      go false e = rw e (in_range i h e)

  -- of the mended sheet
  pub mended_stands : each (stands quintic xs (mended xs ys)) 0 (length xs) ≡ accepted
  unfolding stands beyond
  mended_stands =
      accepts_each _ 0 (length xs)
      (λ j _ h.
      let s = each_accepts _ 0 (length xs) b.stand j (omega arith) h in
      both_accept (first_accepts _ _ s) (both_accept (first_accepts _ _ (next_accepts _ _ s)) (accepts_refuse 6 j (le-ltb _ _ (mended_in j (omega arith))))))
