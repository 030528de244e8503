-- Demand 3 of bytes that the card test accepts, and of what is read off them.
-- Assumes nothing.
use Prim.Native.Nat.{ℕ, ◌+◌, ◌-◌, ◌≤◌, ◌<◌, min}
use mathlib.Core.Path.{◌≡◌, sym, ap, subst, ◌∙◌}
use mathlib.Core.List.{List}
use native.Mathlib.Decide.{dec_lt}
use native.Mathlib.Omega.{arith}
use lib.IntN.{pos}
use lib.ListN.{length, get_or}
use Rattle.answer.specs.Answer.{accepted}
use Rattle.curve.specs.Kind.{quintic, sloped}
use Rattle.curve.specs.Card.{Card, knots, knot, gap}
use Rattle.curve.specs.Reading.{Reading, gap_of}
use Rattle.curve.specs.Orders.{verdict, reading}
use Rattle.curve.specs.Demand.{Close, OnGap, numbers, Demand3}
use Rattle.curve.proofs.Accepted.{minutes_rise}
use Rattle.curve.proofs.Gap.{IsGap, gap_is}
use Rattle.minutes.specs.Search.{found}
use Rattle.minutes.proofs.Halving.{found_one, found_gap, found_looks, found_six}
use Rattle.lists.specs.declared.CardReading.{CardReading}
use Rattle.lists.specs.Lists.{answered, answer_at}
use Rattle.card_bytes.specs.Held.{card_of}
use Rattle.card_bytes.specs.Records.{kind_by}
use Rattle.card_bytes.proofs.RoundTrip.{reads_its_card, accepted_card}
use Rattle.card_bytes.proofs.ByHead.{accepted_good, accepted_count, demand_3_by_head}
use Rattle.sloped.specs.Sloped.{WithinTwo, FlatEnds}
use Rattle.sloped.proofs.Sloped.{within_two}
use Rattle.sloped.proofs.Ends as Ends
use Rattle.card.specs.Answers.{own, read_off}
use Rattle.table.specs.declared.Tabled.{Tabled}
use Rattle.table.specs.Table.{minutes_left}
use Rattle.table.specs.Promise.{Columns, table_verdict, Tables}
use Rattle.table.proofs.Readings.{count_is, minutes_inside, table_is_readings}
use Rattle.demands.specs.Demands.{OnTheCard, AGap, Looks}

-- ---- readings

-- every minute of a card of enough knots stands on a gap of it
pub stands_on_a_gap : (c : Card) → quintic.fewest_knots ≤ knots c → (m : ℕ) → OnTheCard c m → AGap c m
unfolding knots knot quintic gap
stands_on_a_gap c some m h = record { left_knot = i; minutes = m - get_or c.minutes i 0; on = record { inside = g.inside; from = omega (arith, g.from); to = omega (arith, upper, g.from) } }
  where
    i : ℕ
    i = gap_of c.minutes m

    g : IsGap c.minutes m i
    g = gap_is c.minutes m h.0 (omega (arith, some))

    upper : m ≤ get_or c.minutes (i + 1) 0
    upper = elim (dec_lt (i + 2) (length c.minutes)) [ yes l ↦ omega (arith, g.before l) | no l ↦ subst (λ k. m ≤ get_or c.minutes k 0) (last l) h.1 ]
      where
        last : ¬ (i + 2 < length c.minutes) → length c.minutes - 1 ≡ i + 1
        last l = omega (arith, g.inside, l)

module _ (s : List ℕ) (a : own s ≡ accepted) where
  abbrev c : Card
  c = card_of s

  pub of_card : Demand3 (kind_by s) c
  of_card = demand_3_by_head s a

  -- order 8's own, where the head is of its kind
  module _ (headed : kind_by s ≡ sloped) where
    as_sloped : verdict sloped c ≡ accepted
    as_sloped = subst (λ K. verdict K c ≡ accepted) headed (accepted_card (kind_by s) s a)

    pub within_2 : WithinTwo c
    within_2 = within_two c as_sloped

    pub flat_ends : FlatEnds c
    flat_ends = Ends.flat_ends c as_sloped

  -- what is read off the bytes is what is read off their card
  reads : (minute : ℕ) {r : CardReading} → r ≡ read_off s minute → r ≡ answered (found c.minutes minute).looks (reading (kind_by s) c minute)
  unfolding read_off answer_at
  reads minute e = e ∙ ap (answered _) (reads_its_card (kind_by s) s a minute)

  abbrev three_of : CardReading → Reading
  three_of r = record { value = r.value; slope = r.slope; curvature = r.curvature }

  pub close : (minute : ℕ) → OnTheCard c minute → {r : CardReading} → r ≡ read_off s minute
      → (r.number ≡ 0) × ((i t : ℕ) → OnGap c minute i t → Close (knot c i) (knot c (i + 1)) t (three_of r))
  close minute h e =
      let r = of_card.readings minute h.0 h.1 in
      let is = reads minute e ∙ ap (answered _) r.1 in
      (ap (λ a. a.number) is, λ i t on. subst (λ a. Close (knot c i) (knot c (i + 1)) t (three_of a)) (sym is) (r.2 i t on))

  pub at_knots : (i : ℕ) → i < knots c → {r : CardReading} → r ≡ read_off s (knot c i).x → (r.number ≡ 0) × (three_of r ≡ numbers (knot c i))
  at_knots i l e = let is = reads (knot c i).x e ∙ ap (answered _) (of_card.at_knots i l) in (ap (λ a. a.number) is, ap three_of is)

  -- the looks for the minute's gap, and what they leave
  module _ (minute : ℕ) (h : OnTheCard c minute) where
    pub looks : {r : CardReading} → r ≡ read_off s minute → Looks c minute r.looks
    unfolding knots
    looks e =
        let is = ap (λ r. r.looks) (reads minute e ∙ ap (answered _) (of_card.readings minute h.0 h.1).1) in
        record {
          counted = is;
          few = λ p l. subst (λ n. n ≤ p) (sym is) (found_looks c.minutes minute p l);
          six = subst (λ n. n ≤ 6) (sym is) (found_six c.minutes minute (accepted_count s a).many);
        }

    pub gap_left : (let l = found c.minutes minute in (l.gaps ≡ 1) × (l.first ≡ gap_of c.minutes minute))
    unfolding knots knot quintic
    gap_left = let some = (accepted_count s a).some in (found_one c.minutes minute (omega (arith, some)), found_gap c.minutes minute (omega (arith, some)) (minutes_rise (accepted_good s a)) h.0)

  -- the three numbers at a place of a table's lists
  abbrev row_of : Columns → ℕ → Reading
  row_of l i = record { value = get_or l.values i (pos 0); slope = get_or l.slopes i (pos 0); curvature = get_or l.curvatures i (pos 0) }

  module _ {from : ℕ} {entry exit : Columns} {t : Tabled} (tables : Tables s from entry exit t) (v : table_verdict entry s from ≡ accepted) where
    pub on_its_card : (i : ℕ) → i < t.count → OnTheCard c (from + i)
    unfolding knots knot
    on_its_card = minutes_inside tables v

    pub in_table : (i : ℕ) → i < t.count → {r : CardReading} → r ≡ read_off s (from + i) → (r.number ≡ 0) × (row_of exit i ≡ three_of r)
    in_table i l e =
        let w = table_is_readings tables v i l in
        (ap (λ r. r.number) e ∙ w.number, (λ j. record { value = w.value j; slope = w.slope j; curvature = w.curvature j }) ∙ ap three_of (sym e))

    pub table_counted : t.count ≡ min (length entry.values) ((knot c (knots c - 1)).x + 1 - from)
    unfolding knots knot minutes_left
    table_counted = count_is tables v
