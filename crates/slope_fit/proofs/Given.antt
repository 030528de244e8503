-- 9 of slopes beside curvatures that are zeros is 9 of the slopes alone, for every kind. Assumes nothing.
use Prim.Native.Nat.{ℕ, suc, ◌<◌, ◌≤◌}
use native.Mathlib.Omega.{arith}
use mathlib.Core.Path.{◌≡◌, refl, ap, ◌∙◌}
use mathlib.Core.Bool.{Bool, true, false, ◌||◌}
use mathlib.Core.List.{List}
use lib.IntN.{ℤ, pos}
use lib.ListN.{length, get_or, take, replicate, get_or-replicate}
use lib.Seq.{get_or-take}
use borrow.Author.Tests.{lt-leb}
use Rattle.whole.specs.Whole.{beyond}
use Rattle.answer.specs.Answer.{refuse, each}
use Rattle.answer.proofs.Steps.{each_same}
use Rattle.curve.specs.Kind.{Kind, quintic, sloped}
use Rattle.curve.specs.Card.{knots, knot, gap, on, joint}
use Rattle.curve.specs.Steps.{slope_beyond, curvature_beyond, in_range, slope_in_range}
use Rattle.knots.specs.Lent.{lent}
use Rattle.slope_fit.specs.SlopesFit.{card_of, ranged}

or_false : (b : Bool) → (b || false) ≡ b
or_false true = refl
or_false false = refl

none_beyond : (limit : ℕ) → beyond limit (pos 0) ≡ false
unfolding beyond
none_beyond limit = lt-leb (suc limit) 0 (omega arith)

module _ (K : Kind) (xs : List ℕ) (ys ys' ms Ms Ms' : List ℤ) (left right left' right' : ℕ) where
  -- at a knot
  pub zeros_in_range : (i : ℕ) → get_or Ms i (pos 0) ≡ pos 0 → in_range K (lent xs ys ms Ms left right) i ≡ slope_in_range K (lent xs ys' ms Ms' left' right') i
  unfolding in_range slope_in_range slope_beyond curvature_beyond joint knot knots gap on
  zeros_in_range i e = ap (λ b. refuse 9 i (beyond K.slopes (get_or ms i (pos 0)) || b)) (ap (beyond _) e ∙ none_beyond _) ∙ ap (refuse 9 i) (or_false _)

-- the places of an array of zeros
front_zero : (m n i : ℕ) → i < n → n ≤ m → get_or (take n (replicate m (pos 0))) i (pos 0) ≡ pos 0
front_zero m n i h l = get_or-take n (replicate m (pos 0)) i (pos 0) h ∙ get_or-replicate m i (pos 0) (pos 0) (omega arith)

pub ranged_is : (xs : List ℕ) (ys ms : List ℤ) (m : ℕ) → length xs ≤ m
    → each (in_range quintic (lent xs ys ms (take (length xs) (replicate m (pos 0))) 0 0)) 0 (length xs) ≡ ranged xs ys ms
unfolding ranged card_of sloped slope_in_range slope_beyond
ranged_is xs ys ms m l =
    each_same 0 (length xs) (λ i g h. zeros_in_range quintic xs ys ys ms _ _ 0 0 0 0 i (front_zero m (length xs) i (omega arith) l))
