-- Behind 3, 1, 2, the per-knot checks, 17 and 18 the mended sheet has no hole, and its fit nothing left to refuse but 8, 9 and 10.
-- Assumes nothing.
use Prim.Native.Nat.{ℕ, ◌≤◌, ◌<◌}
use mathlib.Core.Path.{◌≡◌, refl, sym, ap, ◌∙◌}
use mathlib.Core.List.{List}
use lib.IntN.{ℤ, pos, nat_abs}
use lib.ListN.{length, get_or}
use Rattle.answer.specs.Answer.{accepted, ◌then◌}
use Rattle.answer.proofs.Steps.{first_accepts, next_accepts, both_accept, accepts_refuse}
use Rattle.curve.specs.Kind.{quintic}
use Rattle.curve.specs.Steps.{lengths, counted}
use Rattle.curve.proofs.Accepted.{same_lengths}
use Rattle.knots.proofs.Accepted.{stood}
use Rattle.rows.specs.declared.End.TheVariants.{Free}
use Rattle.ends.specs.Ends.{ends}
use Rattle.fit.specs.Fit.{standing, eliminated, tested, card_of, fit_between}
use Rattle.fit.proofs.Order.{in_groups}
use Rattle.holes.specs.declared.Fill.TheVariants.{Line}
use Rattle.holes.specs.Hole.{mended}
use Rattle.mend.specs.Order.{mendable, mend_order, mend}
use Rattle.mend.proofs.Bridges.{length_filled, has_bridges, mended_stands}

module _ (xs : List ℕ) (ys : List ℤ) (ms Ms room : ℕ) (e : mend_order xs ys ms Ms room ≡ accepted) where
  sized : (lengths (length xs) (length ys) ms Ms ≡ accepted) × (counted quintic (length xs) ≡ accepted) × (mendable xs ys room ≡ accepted)
  unfolding mend_order
  sized = let f = next_accepts _ _ e in (first_accepts _ _ e, first_accepts _ _ f, next_accepts _ _ f)

  -- 4, 5, 6 of the mended sheet; 7
  pub mended_is_standing : standing xs (mended xs ys) Free Free ≡ accepted
  unfolding standing ends
  mended_is_standing =
      let same = (same_lengths (length xs) (length ys) ms Ms sized.0).0 in
      both_accept (mended_stands same (has_bridges xs ys room sized.2)) (both_accept (accepts_refuse 7 0 refl) (accepts_refuse 7 _ refl))

  -- and so no hole is left
  pub in_range : (j : ℕ) → j < length xs → nat_abs (get_or (mended xs ys) j (pos 0)) ≤ quintic.ordinates
  unfolding standing
  in_range = (stood (first_accepts _ _ mended_is_standing)).ordinates

  -- what is left of the order: 8; 9; 10
  pub only_8_9_10 : mend xs ys ms Ms room ≡ (eliminated xs (mended xs ys) Free Free then tested quintic (card_of xs (mended xs ys) Free Free))
  unfolding mend ◌then◌
  only_8_9_10 =
      let zs = mended xs ys in
      let rest = eliminated xs zs Free Free then tested quintic (card_of xs zs Free Free) in
      let alike : lengths (length xs) (length zs) ms Ms ≡ accepted = ap (λ n. lengths (length xs) n ms Ms) (length_filled xs ys Line) ∙ sized.0 in
      ap (λ v. v then fit_between xs zs ms Ms Free Free) e
      ∙ sym (in_groups xs zs Free Free ms Ms accepted)
      ∙ ap (λ v. v then standing xs zs Free Free then rest) (both_accept alike (both_accept sized.1 refl))
      ∙ ap (λ v. v then rest) mended_is_standing
