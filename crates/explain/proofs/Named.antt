-- Which derivative is named at a knot: the third where it is asked for and over its allowance, else the
-- fourth. Assumes nothing.
use mathlib.Core.Path.{◌≡◌, refl, sym, ◌∙◌, ap, ap₂}
use mathlib.Core.Bool.{Bool, true, false, not, ◌&&◌, cond}
use mathlib.Core.List.{List}
use Prim.Native.Nat.{ℕ}
use lib.IntN.{ℤ}
use lib.ListN.{length}
use lib.Signed.{◌≤ℤ◌, ◌<ℤ◌, le_z, clash_ℤ}
use Rattle.whole.proofs.Order.{le_z_true, le_z_false}
use Rattle.curve.specs.Curve.{third, fourth, degree}
use Rattle.curve.specs.Kind.{end}
use Rattle.curve.specs.Card.{Card, Joint, joint}
use Rattle.curve.specs.Jump.{jumps}
use Rattle.knots.specs.declared.Kind.{Kind}
use Rattle.knots.specs.Kinds.{kind_of}
use Rattle.knots.specs.Lent.{lent}
use Rattle.jumps.specs.declared.Order.TheVariants.{Third}
use Rattle.lists.specs.Lists.{code_of}
use Rattle.lists.proofs.Settled.{asked_as}
use Rattle.explain.specs.declared.Jump.{Jump}
use Rattle.explain.specs.declared.Explained.{Explained}
use Rattle.explain.specs.Explain.{jump_at, because, reason}

over : {s w : ℤ} → w <ℤ s → not (le_z s w) ≡ true
over {s} {w} h = go (le_z s w) refl
  where
    go : (b : Bool) → le_z s w ≡ b → not b ≡ true
    go true e = clash_ℤ h (le_z_true {a = s} {b = w} e)
    go false e = refl

within : {s w : ℤ} → s ≤ℤ w → not (le_z s w) ≡ false
within {s} {w} h = go (le_z s w) refl
  where
    go : (b : Bool) → le_z s w ≡ b → not b ≡ false
    go true e = refl
    go false e = clash_ℤ (le_z_false {a = s} {b = w} e) h

module _ (kind : Kind) (left right : ℕ) (xs : List ℕ) (ys ms cs : List ℤ) (i : ℕ) where
  abbrev card : Card
  card = lent xs ys ms cs left right

  abbrev j : Joint
  j = joint card i

  abbrev asks : Bool
  asks = (kind_of kind).asks (end (code_of left right (length xs) i)) third

  jumps_is : {a b : Bool} {w : Jump} → asks ≡ a → w ≡ jump_at (kind_of kind) j third → not (le_z w.size w.allowance) ≡ b → jumps (kind_of kind) j third ≡ a && b
  unfolding jumps jump_at joint
  jumps_is e f g = ap₂ ◌&&◌ (asked_as kind Third left right xs ys ms cs i ∙ e) (ap (λ w. not (le_z w.size w.allowance)) (sym f) ∙ g)

  pub third_is_named : {w : Jump} {r : Explained} → asks ≡ true → w ≡ jump_at (kind_of kind) j third → w.allowance <ℤ w.size → r ≡ because i 3 w → r ≡ reason (kind_of kind) card i
  unfolding reason degree
  third_is_named {w} e f h g =
      g ∙ ap (because i 3) f ∙ sym (ap (λ b. cond b (because i 3 (jump_at (kind_of kind) j third)) (because i 4 (jump_at (kind_of kind) j fourth))) (jumps_is e f (over h)))

  pub fourth_is_named : {w : Jump} {r : Explained} → jumps (kind_of kind) j third ≡ false → w ≡ jump_at (kind_of kind) j fourth → r ≡ because i 4 w → r ≡ reason (kind_of kind) card i
  unfolding reason degree
  fourth_is_named e f g =
      g ∙ ap (because i 4) f ∙ sym (ap (λ b. cond b (because i 3 (jump_at (kind_of kind) j third)) (because i 4 (jump_at (kind_of kind) j fourth))) e)

  pub third_not_asked : asks ≡ false → jumps (kind_of kind) j third ≡ false
  unfolding jumps joint jump_at
  third_not_asked e = ap (λ b. b && not (le_z (jump_at (kind_of kind) j third).size (jump_at (kind_of kind) j third).allowance)) (asked_as kind Third left right xs ys ms cs i ∙ e)

  pub third_within : {w : Jump} → asks ≡ true → w ≡ jump_at (kind_of kind) j third → w.size ≤ℤ w.allowance → jumps (kind_of kind) j third ≡ false
  third_within e f h = jumps_is e f (within h)
