-- A card's swing, of bytes that the card test accepts, by the readings off them.
-- Assumes nothing.
use Prim.Native.Nat.{ℕ, ◌+◌, ◌-◌, ◌≤◌, ◌<◌, max}
use mathlib.Core.Path.{◌≡◌, refl, sym, ap, ap₂, subst, ◌∙◌}
use mathlib.Core.List.{List}
use native.Mathlib.Omega.{arith}
use Rattle.answer.specs.Answer.{accepted}
use Rattle.answer.proofs.Steps.{both_accept}
use Rattle.curve.specs.Kind.{quintic}
use Rattle.curve.specs.Card.{Card, knots, knot, gap}
use Rattle.curve.specs.Reading.{reads_at}
use Rattle.curve.specs.Orders.{reading_order}
use Rattle.curve.specs.Demand.{OnGap}
use Rattle.curve.proofs.Accepted.{Good, not_falling, gap_wide}
use Rattle.curve.proofs.Gap.{card_in}
use Rattle.minutes.specs.Search.{found}
use Rattle.lists.specs.Lists.{answered, answer_at}
use Rattle.card_bytes.specs.Held.{card_of}
use Rattle.card_bytes.specs.Records.{kind_by}
use Rattle.card_bytes.proofs.ByHead.{accepted_good, accepted_count}
use Rattle.card.specs.Answers.{own, read_off}
use Rattle.swing.specs.declared.Swung.{Swung}
use Rattle.swing.specs.Swing as Swing
use Rattle.swing.specs.Swing.{peak, below_at, above_at, gap_swing, widest, swung}
use Rattle.swing.proofs.Swings.{beyond_at, lowest_is, highest_is, FirstFurthest, first_furthest, widest_is}
use Rattle.demands.specs.Calls.{AReading, reading_bytes, minute}
use Rattle.demands.specs.Demands.{below, above, beyond, Swings}

module _ (s : List ℕ) (a : own s ≡ accepted) where
  abbrev c : Card
  c = card_of s

  good_card : Good (kind_by s) c
  good_card = accepted_good s a

  -- ---- what is read t minutes into a gap

  module _ (r : AReading) (same : reading_bytes r ≡ s) (i t : ℕ) (on : OnGap c (minute r) i t) where
    value_is : r.answer.value ≡ (reads_at c ((knot c i).x + t)).value
    unfolding read_off answer_at reading_order knot knots gap
    value_is =
        ap (λ r. r.value) (r.promised ∙ ap (λ s. read_off s (minute r)) same)
        ∙ ap (λ v. (answered (found c.minutes (minute r)).looks v).value) (both_accept a (both_accept (card_in c.minutes (minute r) from to) refl))
        ∙ ap (λ m. (reads_at c m).value) (sym on.from)
      where
        from : (knot c 0).x ≤ minute r
        from = omega (arith, on.from, not_falling good_card 0 i (omega arith) (omega (arith, on.inside)))

        to : minute r ≤ (knot c (knots c - 1)).x
        to = omega (arith, on.from, on.to, gap_wide good_card i on.inside, not_falling good_card (i + 1) (knots c - 1) (omega (arith, on.inside)) (omega (arith, on.inside)))

    below_is : below c i r ≡ below_at c i t
    unfolding below_at
    below_is = ap (Swing.below (knot c i).y (knot c (i + 1)).y) value_is

    above_is : above c i r ≡ above_at c i t
    unfolding above_at
    above_is = ap (Swing.above (knot c i).y (knot c (i + 1)).y) value_is

    beyond_is : beyond c i r ≡ beyond_at c i t
    beyond_is = ap₂ max below_is above_is

  -- ---- the gap that goes furthest

  abbrev j : ℕ
  j = widest c

  one_of_the_gaps : j + 1 < knots c
  unfolding quintic
  one_of_the_gaps = omega (arith, (widest_is c).inside, (accepted_count s a).some)

  first : FirstFurthest c j
  first = first_furthest c j

  abbrev h : ℕ
  h = gap (knot c j) (knot c (j + 1))

  -- so many minutes into it
  into : (t : ℕ) → t ≤ h → {m : ℕ} → m ≡ (knot c j).x + t → OnGap c m j t
  into t l e = record { inside = one_of_the_gaps; from = sym e; to = l }

  goes : (r : AReading) → reading_bytes r ≡ s → (i t : ℕ) → OnGap c (minute r) i t → beyond c i r ≤ Swing.furthest (gap_swing c i)
  goes r same i t on = let f = first_furthest c i in omega (arith, beyond_is r same i t on, f.is.largest t on.to, f.far)

  swings_so : Swings s (swung accepted c)
  unfolding swung gap_swing Swing.furthest
  swings_so =
      record {
        on_its_gap = record { inside = one_of_the_gaps; from = omega (arith, first.minute); to = omega (arith, first.minute, first.is.inside) };
        at_most = λ r same t on. (omega (arith, below_is r same j t on, (lowest_is c j).largest t on.to), omega (arith, above_is r same j t on, (highest_is c j).largest t on.to));
        so_low =
            let t = peak (below_at c j) h in
            let l = (lowest_is c j).inside in
            record { at = (knot c j).x + t; minutes = t; on = into t l refl; holds = λ r same at. below_is r same j t (into t l at) };
        so_high =
            let t = peak (above_at c j) h in
            let l = (highest_is c j).inside in
            record { at = (knot c j).x + t; minutes = t; on = into t l refl; holds = λ r same at. above_is r same j t (into t l at) };
        there = λ r same at. beyond_is r same j first.after (into first.after first.is.inside (at ∙ first.minute)) ∙ first.far;
        furthest = λ r same i t on. omega (arith, goes r same i t on, (widest_is c).largest i (omega (arith, on.inside)));
        first_gap = λ r same i t on l. omega (arith, goes r same i t on, (widest_is c).first i l);
        first_there = λ r same t on l. omega (arith, beyond_is r same j t on, first.is.first t (omega (arith, on.from, first.minute)), first.far);
      }

  pub swings : {w : Swung} → w ≡ swung (own s) c → (w.number ≡ 0) × Swings s w
  unfolding swung
  swings e = let is = e ∙ ap (λ v. swung v c) a in (ap (λ w. w.number) is, subst (Swings s) (sym is) swings_so)
