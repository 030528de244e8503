-- What lists that 4, 5, 6 and 9 accept give to the curve's arithmetic: each knot and each gap keeps within the limits that it asks for, and what the code
-- finds at a knot is what document 01 asks there.
-- Assumes nothing.
use mathlib.Core.Path.{◌≡◌, refl, sym, ◌∙◌, ap, ap₂, subst}
use mathlib.Core.Logic.{⊎_elim}
use mathlib.Core.Bool.{Bool, true, false, ◌&&◌, cond}
use mathlib.Core.List.{List}
use Prim.Native.Nat.{ℕ, suc, ◌+◌, ◌-◌, ◌≤◌, ◌<◌, ◌^◌, min}
use native.Mathlib.Nat.{eq-or-lt_of_le, le_of_lt}
use native.Mathlib.Omega.{arith}
use lib.Dec.{eqb}
use lib.IntN.{ℤ, pos}
use lib.ListN.{length, get_or}
use Rattle.curve.specs.Formula.{Formula, nat}
use Rattle.curve.specs.Curve.{allowance}
use Rattle.curve.specs.Kind.{quintic, quintic_asks, inner, end}
use Rattle.curve.specs.Card.{Card, knot, knots, gap, back, on, spot, joint}
use Rattle.curve.specs.Jump.{jump, allowed, jumps}
use Rattle.curve.specs.Reading.{gap_of}
use Rattle.curve.specs.Steps.{outside}
use Rattle.curve.proofs.Accepted.{Rises}
use Rattle.curve.proofs.Gap.{IsGap, gap_is, in_card}
use Rattle.answer.specs.Answer.{accepted}
use Rattle.knots.specs.declared.Kind.{Kind}
use Rattle.knots.specs.Kinds.{kind_of}
use Rattle.minutes.specs.declared.Left.{Left}
use Rattle.minutes.specs.Gaps.{left_gap, right_gap}
use Rattle.minutes.specs.Search.{found}
use Rattle.minutes.proofs.Halving.{found_gap}
use Rattle.knots.specs.Lent.{lent}
use Rattle.knots.proofs.Accepted.{Stood, stood, Ranged, ranged}
use Rattle.gaps.specs.declared.Knot.{Knot}
use Rattle.jumps.specs.declared.Order.{Order}
use Rattle.jumps.specs.declared.Order.TheVariants.{Third, Fourth}
use Rattle.jumps.specs.declared.Span.{Span}
use Rattle.jumps.specs.Sides.{order_of, jump_of, allowing, leeways, past}
use Rattle.jumps.specs.Spans.{span, no_span, span_if, met_jump, met_leeways}
use Rattle.jumps.specs.Limits.{Tried}
use Rattle.gaps.specs.Limits.{InGap}
use Rattle.parts.specs.Limits.{Tame}
use Rattle.parts.proofs.OfKinds.{quintic_readable}
use Rattle.jumps.proofs.Gapwise.{compared_alike}
use Rattle.jumps.proofs.JumpIs.{jump_is, allowed_is, jumps_is}
use Rattle.jumps.proofs.OfKinds.{quintic_testable}
use Rattle.lists.specs.declared.Spell.{Spell}
use Rattle.lists.specs.Lists.{Checked, InPlace, spelt, numbers_at, code_of, square_of, tests, jumps_of}
use mir.Syntax.{w64}
use mir.Val.{to_z}
use mir.Facts.{to_z_pos}
use Rattle.lists.proofs.OfKinds.{narrow, knot_tried, minute_in_gap, gap_tame, level_right, level_left}

module _ {xs : List ℕ} {ys ms cs : List ℤ} (k : Checked xs ys ms cs) where
  stands_there : Stood quintic xs ys
  stands_there = stood k.stand

  pub minutes_rise : Rises xs
  minutes_rise = stands_there.rising

  in_range_there : Ranged quintic xs ms cs
  unfolding knots
  in_range_there = ranged (lent xs ys ms cs 0 0) k.range

  abbrev numbers : ℕ → Knot
  numbers = numbers_at ys ms cs

  -- the knot between its gaps keeps within what the jump test asks
  pub settled_knot : (i : ℕ) → i < length xs → (square : ℕ) → square ≤ 2 ^ 8
      → Tried (pos square) (pos (left_gap xs i)) (pos (right_gap xs i)) (numbers (back i)) (numbers i) (numbers (min (i + 1) (length xs - 1)))
  settled_knot i l = knot_tried quintic quintic_readable stands_there in_range_there i l quintic_testable

  -- what `reading::Reading::between` asks
  module _ (i minute : ℕ) (p : InPlace xs i minute) where
    abbrev h : ℕ
    h = get_or xs (i + 1) 0 - get_or xs i 0

    -- as the code has it
    pub gap_signed : to_z w64 h ≡ pos h
    unfolding quintic
    gap_signed = to_z_pos w64 (omega (arith, narrow quintic quintic_readable stands_there in_range_there i minute p))

    pub settled_minute : InGap (pos h) (pos (minute - get_or xs i 0))
    settled_minute = minute_in_gap quintic quintic_readable stands_there in_range_there i minute p

    pub settled_gap : Tame (pos h) (numbers i) (numbers (i + 1))
    settled_gap = gap_tame quintic quintic_readable stands_there in_range_there i minute p

-- what the arithmetic of a gap asks, of where a minute falls
pub spelt_asks : {xs : List ℕ} {ys ms cs : List ℤ} {i minute : ℕ} {s : Spell} {h t : ℤ} → Checked xs ys ms cs → InPlace xs i minute → s ≡ spelt xs ys ms cs i minute
    → h ≡ s.h → t ≡ s.t → (InGap h t) × (Tame h s.from s.to)
spelt_asks {i = i} {minute} k p e f g = rw (f, g, e) (settled_minute k i minute p, settled_gap k i minute p)

-- ---- what is asked at a knot

pub allows : (kind : Kind) (o : Order) (g : ℕ → Formula ℤ) → (kind_of kind).allowance (order_of o) g ≡ allowing (nat (square_of kind o)) o g
unfolding allowance allowing
allows kind Third g = refl
allows kind Fourth g = refl

module _ (kind : Kind) (o : Order) (left right : ℕ) (xs : List ℕ) (ys ms cs : List ℤ) (i : ℕ) where
  abbrev card : Card
  card = lent xs ys ms cs left right

  pub asked_as : (kind_of kind).asks (spot card i) (order_of o) ≡ (kind_of kind).asks (end (code_of left right (length xs) i)) (order_of o)
  unfolding spot knots code_of quintic quintic_asks
  asked_as = go o (eqb i 0) (eqb (suc i) (length xs))
    where
      go : (o : Order) (first last : Bool) → (kind_of kind).asks (cond first (end left) (cond last (end right) inner)) (order_of o) ≡ (kind_of kind).asks (end (cond first left (cond last right 0))) (order_of o)
      go o true last = refl
      go o false true = refl
      go Third false false = refl
      go Fourth false false = refl

  -- a derivative that the kind does not test is nowhere asked, whatever its gaps give
  tested_alone : (code : ℕ) (before after : Span) → jumps_of kind o code (cond (tests kind o) before no_span) (cond (tests kind o) after no_span) ≡ jumps_of kind o code before after
  tested_alone code before after = go o
    where
      asked : (tested there : Bool) → (tested && there) && past (met_jump (cond tested before no_span) (cond tested after no_span)) (met_leeways (cond tested before no_span) (cond tested after no_span))
          ≡ (tested && there) && past (met_jump before after) (met_leeways before after)
      asked true there = refl
      asked false there = refl

      go : (o : Order) → jumps_of kind o code (cond (tests kind o) before no_span) (cond (tests kind o) after no_span) ≡ jumps_of kind o code before after
      go Third = refl
      go Fourth = asked kind.fourth (quintic.asks (end code) (order_of Fourth))

  pub asked_jumps : {code : ℕ} {before after : Span} → code ≡ code_of left right (length xs) i
      → before ≡ span_if (tests kind o) o (pos (square_of kind o)) (pos (left_gap xs i)) (numbers_at ys ms cs (back i)) (numbers_at ys ms cs i)
      → after ≡ span_if (tests kind o) o (pos (square_of kind o)) (pos (right_gap xs i)) (numbers_at ys ms cs i) (numbers_at ys ms cs (min (i + 1) (length xs - 1)))
      → Checked xs ys ms cs → i < length xs → jumps_of kind o code before after ≡ jumps (kind_of kind) (joint card i) (order_of o)
  unfolding jumps joint knot knots gap on
  asked_jumps {before} {after} e f g k l =
      ap (λ code. jumps_of kind o code before after) e
      ∙ ap₂ (λ b a. jumps_of kind o (code_of left right (length xs) i) b a) f g
      ∙ tested_alone (code_of left right (length xs) i)
      (span o (pos (square_of kind o)) (pos (left_gap xs i)) (numbers_at ys ms cs (back i)) (numbers_at ys ms cs i))
      (span o (pos (square_of kind o)) (pos (right_gap xs i)) (numbers_at ys ms cs i) (numbers_at ys ms cs (min (i + 1) (length xs - 1))))
      ∙ ap₂ ◌&&◌ (sym asked_as)
      (compared_alike o (pos (square_of kind o)) (pos (left_gap xs i)) (pos (right_gap xs i)) (numbers_at ys ms cs (back i)) (numbers_at ys ms cs i) (numbers_at ys ms cs (min (i + 1) (length xs - 1)))
      ∙ jumps_is o (knot card (back i)) (knot card i) (knot card (on card i)) (level_right xs (minutes_rise k) ys i l) (level_left xs (minutes_rise k) ys i l) (kind_of kind) (square_of kind o) (allows kind o))

  -- how far a derivative jumps at a knot, and what is allowed there, are what the arithmetic of its gaps gives
  pub jump_there : Checked xs ys ms cs → i < length xs
      → (let j = joint card i in jump (order_of o) j.before j.here j.after)
      ≡ jump_of o (pos (left_gap xs i)) (pos (right_gap xs i)) (numbers_at ys ms cs (back i)) (numbers_at ys ms cs i) (numbers_at ys ms cs (min (i + 1) (length xs - 1)))
  unfolding joint knot knots gap on
  jump_there k l = jump_is o (knot card (back i)) (knot card i) (knot card (on card i)) (level_right xs (minutes_rise k) ys i l) (level_left xs (minutes_rise k) ys i l)

  pub allowed_there : (let j = joint card i in allowed (kind_of kind) (order_of o) j.before j.here j.after) ≡ leeways o (pos (square_of kind o)) (pos (left_gap xs i)) (pos (right_gap xs i))
  unfolding joint knot knots gap on
  allowed_there = allowed_is o (knot card (back i)) (knot card i) (knot card (on card i)) (kind_of kind) (square_of kind o) (allows kind o)

-- ---- the gap of a minute that 11 accepts

pub minute_in_place : (xs : List ℕ) (minute : ℕ) → 2 ≤ length xs → outside xs minute ≡ accepted → InPlace xs (gap_of xs minute) minute
minute_in_place xs minute n e = record { inside = g.inside; from = g.from; to = ⊎_elim last (λ h. le_of_lt (g.before (omega arith))) (eq-or-lt_of_le {n = gap_of xs minute + 2} {m = length xs} (omega (arith, g.inside))) }
  where
    g : IsGap xs minute (gap_of xs minute)
    g = gap_is xs minute (in_card xs minute e).0 n

    last : gap_of xs minute + 2 ≡ length xs → minute ≤ get_or xs (gap_of xs minute + 1) 0
    last q = let z : length xs - 1 ≡ gap_of xs minute + 1 = omega arith in subst (λ j. minute ≤ get_or xs j 0) z (in_card xs minute e).1

-- the one gap that the looks leave is the minute's
pub found_place : {xs : List ℕ} {ys ms cs : List ℤ} {minute : ℕ} {l : Left} → Checked xs ys ms cs → 2 ≤ length xs → outside xs minute ≡ accepted → l ≡ found xs minute
    → (l.first ≡ gap_of xs minute) × (InPlace xs l.first minute)
found_place {xs} {minute = minute} {l} k n e f = (is, subst (λ i. InPlace xs i minute) (sym is) (minute_in_place xs minute n e))
  where
    is : l.first ≡ gap_of xs minute
    is = ap (λ (l : Left). l.first) f ∙ found_gap xs minute n (minutes_rise k) (in_card xs minute e).0
