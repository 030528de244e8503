-- `jump_at` meets its contract: the arithmetic of the gaps beside the knot, which the test takes too.
-- Assumes nothing.
use mathlib.Core.Path.{◌≡◌, sym, ◌∙◌, ap, subst}
use Prim.Native.Nat.{ℕ, ◌+◌, ◌-◌, ◌≤◌, ◌^◌, min}
use native.Mathlib.Omega.{arith}
use lib.IntN.{ℤ, pos, nat_abs}
use lib.ListN.{length}
use mir.Syntax.{w64}
use mir.Val.{to_z, of_z}
use mir.Facts.{to_z-of_z, to_z_pos}
use Rattle.whole.proofs.Order.{abs_neg}
use Rattle.whole.proofs.Linear.{abs_fits}
use Rattle.curve.specs.Card.{back}
use Rattle.gaps.specs.declared.Knot.{Knot}
use Rattle.minutes.specs.Gaps.{left_gap, right_gap}
use Rattle.jumps.specs.declared.Order.{Order}
use Rattle.jumps.specs.Sides.{jump_of, leeways}
use Rattle.jumps.specs.Limits.{Beside, Allowed}
use Rattle.jumps.proofs.Comparing.{h_gap, q_gap, jump_fits}
use Rattle.lists.specs.Lists.{numbers_at, square_of}
use Rattle.lists.proofs.Settled.{settled_knot, jump_there, allowed_there}
use Rattle.explain.specs.Explain.{jump_at}
use Rattle.explain.proofs.jump_at.Goals as goal
use Rattle.explain.proofs.jump_at.Goals.{After-jump, After-right_gap-h, After-squares, Start}

back_below : (i : ℕ) → back i ≤ i
unfolding back
back_below i = omega arith

-- ---- the numbers that `jump` and `allowance` are handed

record Handed (q h q' h' : ℤ) (b k a b' k' a' : Knot) : Type 0 where
  q_is : q ≡ q'
  h_is : h ≡ h'
  before_is : b ≡ b'
  here_is : k ≡ k'
  after_is : a ≡ a'

module _ {q h q' h' : ℤ} {b k a b' k' a' : Knot} (e : Handed q h q' h' b k a b' k' a') where
  beside_same : Beside q' h' b' k' a' → Beside q h b k a
  beside_same w = rw (e.q_is, e.h_is, e.before_is, e.here_is, e.after_is) w

  jump_same : (o : Order) → jump_of o q h b k a ≡ jump_of o q' h' b' k' a'
  jump_same o = rw (e.q_is, e.h_is, e.before_is, e.here_is, e.after_is)

  allowed_same : {s s' : ℤ} → s ≡ s' → nat_abs s' ≤ 2 ^ 8 → Beside q' h' b' k' a' → Allowed s q h
  allowed_same f l w = rw (f, e.q_is, e.h_is) (record { q_gap = q_gap w; h_gap = h_gap w; square_in = l })

  leeways_same : {s s' : ℤ} (o : Order) → s ≡ s' → leeways o s q h ≡ leeways o s' q' h'
  leeways_same o f = rw (f, e.q_is, e.h_is)

abbrev start : After-right_gap-h → Start
start c = (goal.at.After-right_gap-h c).Start

abbrev numbers : Start → ℕ → Knot
numbers c = numbers_at c.args.lists.ordinates.now c.args.lists.slopes.now c.args.lists.curvatures.now

abbrev after : Start → ℕ
after c = min (c.args.i + 1) (length c.args.lists.minutes.now - 1)

handed : (c : After-right_gap-h) →
    (let d = start c in
    Handed (to_z w64 c.left_gap-q.result) (to_z w64 c.right_gap-h.result) (pos (left_gap d.args.lists.minutes.now d.args.i)) (pos (right_gap d.args.lists.minutes.now d.args.i))
    c.knot-before.result c.knot-here.result c.knot-after.result
    (numbers d (back d.args.i)) (numbers d d.args.i) (numbers d (after d)))
handed c =
    record {
      q_is = to_z_pos w64 (omega (arith, c.left_gap-q.type_inv)) ∙ ap pos c.left_gap-q.ensures;
      h_is = to_z_pos w64 (omega (arith, c.right_gap-h.type_inv)) ∙ ap pos c.right_gap-h.ensures;
      before_is = c.knot-before.ensures ∙ ap (numbers (start c)) c.back.ensures;
      here_is = c.knot-here.ensures;
      after_is = c.knot-after.ensures ∙ ap (numbers (start c)) c.on.ensures;
    }

beside : (c : Start) → Beside (pos (left_gap c.args.lists.minutes.now c.args.i)) (pos (right_gap c.args.lists.minutes.now c.args.i)) (numbers c (back c.args.i)) (numbers c c.args.i) (numbers c (after c))
beside c = (settled_knot c.args.lists.checked c.args.i c.requires 0 (omega arith)).beside

pub knot-before-requires : goal.knot-before-requires
knot-before-requires c =
    let b : c.back.result ≤ c.args.i = subst (λ j. j ≤ c.args.i) (sym c.back.ensures) (back_below c.args.i) in
    omega (arith, b, c.requires)

pub jump-requires : goal.jump-requires
jump-requires c = beside_same (handed c) (beside (start c))

-- ---- what they give

jump_is : (c : After-jump) → to_z w64 (of_z w64 c.jump.result) ≡ c.jump.result
jump_is c = to_z-of_z {w = w64} {z = c.jump.result} (record { sfits = c.jump.type_inv })

pub abs-requires : goal.abs-requires
abs-requires c =
    let g = (goal.at.abs-requires c).After-right_gap-h in
    let o = (start g).args.order in
    rw (jump_is c) (abs_fits (rw (abs_neg, c.jump.ensures, jump_same (handed g) o) (jump_fits (beside (start g)) o)))

squares_is : (c : After-squares) → to_z w64 (of_z w64 c.squares.result) ≡ (let a = (start (goal.at.After-squares c).After-right_gap-h).args in pos (square_of a.kind a.order))
squares_is c = to_z-of_z {w = w64} {z = c.squares.result} (record { sfits = c.squares.type_inv }) ∙ c.squares.ensures.0

pub allowance-requires : goal.allowance-requires
allowance-requires c =
    let g = (goal.at.allowance-requires c).After-right_gap-h in
    allowed_same (handed g) (squares_is c) c.squares.ensures.1 (beside (start g))

pub returns : goal.returns
unfolding jump_at
returns c left right =
    let g = (goal.at.returns c).After-right_gap-h in
    let a = (start g).args in
    let k = (start g).requires in
    let size = c.abs in
    λ j.
    record {
      size =
          (to_z-of_z {w = w64} {z = size.result} (record { sfits = size.type_inv })
          ∙ size.ensures.value
          ∙ ap (λ z. pos (nat_abs z))
          (jump_is (goal.at.returns c).After-jump ∙ c.jump.ensures ∙ jump_same (handed g) a.order
          ∙ sym (jump_there a.kind a.order left right a.lists.minutes.now a.lists.ordinates.now a.lists.slopes.now a.lists.curvatures.now a.i a.lists.checked k))) j;
      allowance =
          (to_z-of_z {w = w64} {z = c.allowance.result} (record { sfits = c.allowance.type_inv })
          ∙ c.allowance.ensures
          ∙ leeways_same (handed g) a.order (squares_is (goal.at.returns c).After-squares)
          ∙ sym (allowed_there a.kind a.order left right a.lists.minutes.now a.lists.ordinates.now a.lists.slopes.now a.lists.curvatures.now a.i)) j;
    }
