-- Numbers of a card's knots that are the difference of two exact solutions are zero: where at each knot slope × fourth-derivative equation and
-- curvature × third-derivative equation are zero, what arrives leaves, so it never grows, so each gap's piece is a quadratic, and with two gaps it is zero.
-- Assumes nothing.
use mathlib.Core.Path.{◌≡◌, sym, ap, ◌∙◌, subst}
use Prim.Native.Nat.{ℕ, zero, suc, ◌-◌, ◌≤◌, ◌<◌}
use native.Mathlib.Nat.{sub_self}
use native.Mathlib.Omega.{arith}
use lib.IntN.{ℤ, pos, neg_ℤ, ◌*ℤ◌, *ℤ-zero}
use Rattle.whole.specs.Whole.{◌·◌}
use Rattle.whole.proofs.Ring.{*ℤ_idl}
use Rattle.curve.specs.Formula.{amount}
use Rattle.curve.specs.Curve.{Order, third, fourth}
use Rattle.curve.specs.Card.{Card, Knot, knots, knot, gap, back, on}
use Rattle.curve.specs.Jump.{clear}
use Rattle.unique.proofs.Energy.{inverses, leaving, arriving, Quadratic, grows, quadratic, both_zero, never_grows}
use Rattle.unique.proofs.Balance.{row, arrives, leaves, balance, none_leaves, none_arrives, clear_pos}

alone : (v : ℕ) {w : ℕ} {x y : ℤ} → w ≡ 1 → x ≡ pos 0 → v · x ≡ w · y → y ≡ pos 0
alone v {w} {x} {y} one none same = sym (*ℤ_idl y) ∙ ap (λ n. n · y) (sym one) ∙ sym same ∙ ap (λ z. v · z) none ∙ *ℤ-zero (pos v)

module _ (card : Card) (s c : ℕ → ℤ) where
  -- the equation's left side of an order at place i between places a and e
  abbrev pub row_at : (a i e : ℕ) → Order → ℤ
  row_at a i e o = row (gap (knot card i) (knot card e)) (gap (knot card a) (knot card i)) (s a) (c a) (s i) (c i) (s e) (c e) o

  module _ (three : 3 ≤ knots card) (rises : (i : ℕ) → suc i < knots card → (knot card i).x < (knot card (suc i)).x)
      (slope : (i : ℕ) → i < knots card → s i *ℤ row_at (back i) i (on card i) fourth ≡ pos 0)
      (curvature : (i : ℕ) → i < knots card → c i *ℤ row_at (back i) i (on card i) third ≡ pos 0) where
    width : ℕ → ℕ
    width i = gap (knot card i) (knot card (suc i))

    wide : (i : ℕ) → suc i < knots card → 0 < width i
    unfolding width gap
    wide i l = omega (arith, rises i l)

    -- what leaves knot i, and what of it arrives at the next
    leave : ℕ → ℤ
    leave i = amount (leaving (inverses (width i)) (s i) (c i) (s (suc i)) (c (suc i)))

    arrive : ℕ → ℤ
    arrive i = amount (arriving (inverses (width i)) (s i) (c i) (s (suc i)) (c (suc i)))

    Balanced : (a i e : ℕ) → Type 0
    Balanced a i e =
        let h = gap (knot card i) (knot card e) in
        let k = gap (knot card a) (knot card i) in
        clear h 3 · arrives h k (s a) (c a) (s i) (c i) (s e) (c e) ≡ clear k 3 · leaves h k (s a) (c a) (s i) (c i) (s e) (c e)

    balanced : (a i e : ℕ) → i < knots card → back i ≡ a → on card i ≡ e → Balanced a i e
    unfolding Balanced
    balanced a i e l from to = subst (λ a. Balanced a i e) from (subst (λ e. Balanced (back i) i e) to (balance _ _ _ _ _ _ _ _ (slope i l) (curvature i l)))

    no_gap : (a : Knot) → gap a a ≡ 0
    unfolding gap
    no_gap a = sub_self a.x

    first : leave 0 ≡ pos 0
    unfolding Balanced width leave back on clear
    first =
        alone (clear (width 0) 3) (ap (λ k. clear k 3) none) (ap (λ k. amount (arriving (inverses k) (s 0) (c 0) (s 0) (c 0))) none ∙ none_arrives (s 0) (c 0) (s 0) (c 0))
        (balanced 0 0 1 (omega arith) (omega arith) (omega arith))
      where
        none : gap (knot card 0) (knot card 0) ≡ 0
        none = no_gap (knot card 0)

    last : (i : ℕ) → suc i ≡ knots card - 1 → arrive i ≡ pos 0
    unfolding Balanced width arrive back on clear
    last i e =
        alone (clear (width i) 3) (ap (λ k. clear k 3) none) (ap (λ k. amount (leaving (inverses k) (s j) (c j) (s j) (c j))) none ∙ none_leaves (s j) (c j) (s j) (c j))
        (sym (balanced i j j (omega arith) (omega arith) (omega arith)))
      where
        j : ℕ
        j = suc i

        none : gap (knot card j) (knot card j) ≡ 0
        none = no_gap (knot card j)

    across : (i : ℕ) → suc i < knots card - 1 → clear (width (suc i)) 3 · arrive i ≡ clear (width i) 3 · leave (suc i)
    unfolding Balanced width leave arrive back on
    across i l = balanced i (suc i) (suc (suc i)) (omega arith) (omega arith) (omega arith)

    piece : (i : ℕ) → suc i < knots card → Quadratic (width i) (s i) (c i) (s (suc i)) (c (suc i))
    unfolding leave arrive
    piece i l = quadratic (width i) (wide i l) (s i) (c i) (s (suc i)) (c (suc i))
        (never_grows (knots card - 1) (λ i. clear (width i) 3) leave arrive (λ i m. clear_pos (width i) 3)
        (λ i m. grows (width i) (wide i (omega arith)) (s i) (c i) (s (suc i)) (c (suc i))) across first last i (omega arith))

    pub all_zero : (i : ℕ) → i < knots card → (s i ≡ pos 0) × (c i ≡ pos 0)
    all_zero zero l = both_zero (wide 0 (omega arith)) (piece 0 (omega arith)) (piece 1 (omega arith))
    all_zero (suc i) l =
        let before = all_zero i (omega arith) in
        ((piece i l).slopes ∙ ap neg_ℤ before.0, (piece i l).curvatures ∙ before.1)
