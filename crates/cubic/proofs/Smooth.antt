-- The cubic is one curve: its steps are a natural cubic spline through the values. Derivatives are by the rules,
-- of (2.1) as it is written; that they are derivatives is `curve`'s `∂_is_derivative`.
-- Assumes nothing.
use Prim.Native.Nat.{ℕ, suc, ◌+◌, ◌-◌, ◌*◌, ◌^◌, ◌≤◌, ◌<◌}
use mathlib.Core.Path.{◌≡◌, refl, sym, ◌∙◌, ap, ap₂, subst}
use mathlib.Core.List.{List, [], ◌∷◌}
use native.Mathlib.Omega.{arith}
use lib.IntN.{ℤ, pos, ◌+ℤ◌, ◌-ℤ◌, ◌*ℤ◌}
use lib.ListN.{length}
use Rattle.whole.specs.Whole.{◌·◌}
use Rattle.whole.proofs.Ring.{same_of_sub}
use Rattle.whole.proofs.Solve.{◌:+◌, ◌:-◌, ◌:*◌, #, ring}
use Rattle.curve.specs.Formula.{Formula, num, power, worth, ∂, ∂^}
use Rattle.curve.proofs.Written.{power_e, worth_e}
use Rattle.curve.proofs.Derivatives.{pos_power}
use Rattle.cubic.specs.Cubic.{y, scale, δ², unknown, cubic, between, denominator, Spline}
use Rattle.cubic.proofs.Equations.{continuous}

-- (2.1) over any numbers, so that `ring` takes it too
abbrev pub piece : {A : Type 0} → (a q u u' z z' : A) → Formula A
piece a q u u' z z' = cubic (num a) (num q) (num u) (num u') (num z) (num z')

module _ (a q u u' z z' : ℤ) where
  abbrev all : List ℤ
  all = a ∷ q ∷ u ∷ u' ∷ z ∷ z' ∷ []

  left : worth (piece a q u u' z z') (pos 0) ≡ a *ℤ power q 3 *ℤ u
  unfolding worth cubic power
  left = ring all (λ a q u u' z z'. (worth_e (piece a q u u' z z') (# 0), a :* power_e q 3 :* u)) tt

  right : worth (piece a q u u' z z') q ≡ a *ℤ power q 3 *ℤ u'
  unfolding worth cubic power
  right = ring all (λ a q u u' z z'. (worth_e (piece a q u u' z z') q, a :* power_e q 3 :* u')) tt

  bend_left : worth (∂^ 2 (piece a q u u' z z')) (pos 0) ≡ 6 · q *ℤ z
  unfolding worth ∂ ∂^ cubic power
  bend_left = ring all (λ a q u u' z z'. (worth_e (∂^ 2 (piece a q u u' z z')) (# 0), # 6 :* q :* z)) tt

  bend_right : worth (∂^ 2 (piece a q u u' z z')) q ≡ 6 · q *ℤ z'
  unfolding worth ∂ ∂^ cubic power
  bend_right = ring all (λ a q u u' z z'. (worth_e (∂^ 2 (piece a q u u' z z')) q, # 6 :* q :* z')) tt

  -- the slopes at a value differ by what the continuity equation lacks
  slopes_differ : (u'' z'' : ℤ) →
      worth (∂^ 1 (piece a q u u' z z')) q -ℤ worth (∂^ 1 (piece a q u' u'' z' z'')) (pos 0)
      ≡ q *ℤ q *ℤ ((z +ℤ 4 · z' +ℤ z'') -ℤ a *ℤ (u -ℤ 2 · u' +ℤ u''))
  unfolding worth ∂ ∂^ cubic power
  slopes_differ u'' z'' = ring (a ∷ q ∷ u ∷ u' ∷ z ∷ z' ∷ u'' ∷ z'' ∷ [])
      (λ a q u u' z z' u'' z''. (
        worth_e (∂^ 1 (piece a q u u' z z')) q :- worth_e (∂^ 1 (piece a q u' u'' z' z'')) (# 0),
        q :* q :* ((z :+ # 4 :* z' :+ z'') :- a :* (u :- # 2 :* u' :+ u'')),
      )) tt

module _ (ys : List ℤ) (parts : ℕ) (n : 2 ≤ length ys) where
  -- what a step is made of
  abbrev s : ℤ
  s = pos (scale ys)

  abbrev q : ℤ
  q = pos parts

  over : s *ℤ power q 3 ≡ pos (denominator ys parts)
  unfolding denominator
  over = ap (λ z. s *ℤ z) (pos_power parts 3)

  no_bend : (z : ℤ) → z ≡ pos 0 → 6 · q *ℤ z ≡ pos 0
  no_bend z e = ap (λ z. 6 · q *ℤ z) e ∙ ring (q ∷ []) (λ q. (# 6 :* q :* # 0, # 0)) tt

  at_last : suc (length ys - 2) ≡ length ys - 1
  at_last = omega arith

  pub spline : Spline ys parts
  unfolding between δ²
  spline = record {
    from = λ i h. left s q (y ys i) (y ys (suc i)) (unknown ys i) (unknown ys (suc i)) ∙ ap (λ d. d *ℤ y ys i) over;
    to = λ i h. right s q (y ys i) (y ys (suc i)) (unknown ys i) (unknown ys (suc i)) ∙ ap (λ d. d *ℤ y ys (suc i)) over;
    slopes = λ i h. same_of_sub
        (slopes_differ s q (y ys i) (y ys (suc i)) (unknown ys i) (unknown ys (suc i)) (y ys (suc (suc i))) (unknown ys (suc (suc i)))
        ∙ ap (λ z. q *ℤ q *ℤ (z -ℤ s *ℤ δ² ys i)) ((continuous ys n).inner i h)
        ∙ ring (q ∷ s ∷ δ² ys i ∷ []) (λ q a d. (q :* q :* (a :* d :- a :* d), # 0)) tt);
    seconds = λ i h.
        bend_right s q (y ys i) (y ys (suc i)) (unknown ys i) (unknown ys (suc i))
        ∙ sym (bend_left s q (y ys (suc i)) (y ys (suc (suc i))) (unknown ys (suc i)) (unknown ys (suc (suc i))));
    sixths = λ i h. bend_left s q (y ys i) (y ys (suc i)) (unknown ys i) (unknown ys (suc i));
    first = bend_left s q (y ys 0) (y ys 1) (unknown ys 0) (unknown ys 1) ∙ no_bend (unknown ys 0) (continuous ys n).first;
    last =
        bend_right s q (y ys (length ys - 2)) (y ys (suc (length ys - 2))) (unknown ys (length ys - 2)) (unknown ys (suc (length ys - 2)))
        ∙ no_bend (unknown ys (suc (length ys - 2))) (rw at_last (continuous ys n).last);
  }
