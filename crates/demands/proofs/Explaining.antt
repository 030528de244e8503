-- What an explanation of a card's bytes says: its number and place, its zeros, what a value is made of, and why
-- a card is refused with 10. Assumes nothing.
use Prim.Native.Nat.{ℕ, ◌+◌, ◌-◌}
use mathlib.Core.Path.{◌≡◌, refl, sym, ap, ap₂, subst, ◌∙◌}
use mathlib.Core.Logic.{◌≢◌}
use mathlib.Core.List.{List}
use native.Mathlib.Omega.{arith}
use lib.IntN.{nat_abs}
use Rattle.whole.specs.Whole.{nearest}
use Rattle.answer.specs.Answer.{Verdict, refused, given, accepted, number, place}
use Rattle.answer.proofs.Steps.{both_accept}
use Rattle.curve.specs.Kind.{Kind, quintic}
use Rattle.curve.specs.Card.{Card, knots, knot, gap}
use Rattle.curve.specs.Reading.{gap_of, reads_at}
use Rattle.curve.specs.Steps.{outside}
use Rattle.curve.specs.Orders.{reading_order}
use Rattle.curve.specs.Demand.{OnGap}
use Rattle.curve.proofs.Gap.{card_in}
use Rattle.minutes.specs.Search.{found}
use Rattle.lists.specs.Lists.{answered, answer_at, InPlace}
use Rattle.lists.proofs.Settled.{minute_in_place}
use Rattle.card_bytes.specs.Held.{card_of}
use Rattle.card_bytes.specs.Records.{kind_by}
use Rattle.card_bytes.proofs.ByHead.{accepted_count}
use Rattle.card.specs.declared.Checked.{Checked}
use Rattle.card.specs.Answers.{own, read_off}
use Rattle.explain.specs.declared.Explained.{Explained}
use Rattle.explain.specs.Explain.{parted, explain}
use Rattle.explain.proofs.Told.{inside_explained, accepted_explained}
use Rattle.reasons.specs.Reasons as Order9
use Rattle.reasons.specs.Reasons.{NoParts, NoReason, Because, Fits64}
use Rattle.reasons.proofs.Parts.{terms, parts_sum, explains}
use Rattle.reasons.proofs.Says.{explain_says}
use Rattle.demands.specs.Calls.{AReading, reading_bytes, minute}
use Rattle.demands.specs.Demands.{Says, OnTheCard, MadeOf, NamesExactly}
use Rattle.demands.proofs.Numbered.{reading_numbered, says}

ten_is : (v : Verdict) → number v ≡ 10 → v ≡ refused 10 (place v)
unfolding number place
ten_is (refused n p) e = ap (λ n. refused n p) e
ten_is (given u) e = absurd (omega (arith, e))

module _ (s : List ℕ) (m : ℕ) where
  abbrev K : Kind
  K = kind_by s

  abbrev c : Card
  c = card_of s

  module _ {e : Explained} (is : e ≡ explain s m) where
    order_9 : Order9.Says s m e
    order_9 = subst (Order9.Says s m) (sym is) (explain_says s m)

    pub explain_answers : Says (reading_order (own s) c m) e.number e.place
    explain_answers = says (reading_order (own s) c m) (reading_numbered s m) order_9.reading.number_is order_9.reading.place_is

    pub explain_zeros : e.number ≢ 0 → NoParts e
    explain_zeros = order_9.exactly.refused_parts

    pub explain_no_reason : e.number ≢ 10 → NoReason e
    explain_no_reason = order_9.exactly.else_none

    pub explain_why : e.number ≡ 10 → Because K c e.place e
    explain_why t = order_9.reasons e.place (order_9.exactly.tens t)

    pub explain_names : {r : Checked} → r.number ≡ number (own s) → r.place ≡ place (own s) → NamesExactly e r
    unfolding number
    explain_names {r} n p =
        record {
          named = λ t.
              let b = order_9.reasons (place (own s)) (ten_is (own s) (sym n ∙ t)) in
              (b.number_10, b.knot_p ∙ sym p, order_9.exactly.ten_ordered b.number_10);
          only = λ o. n ∙ ap number (order_9.exactly.only o);
        }

    pub explain_fits : Fits64 e
    explain_fits = order_9.fits

  -- ---- accepted, at a minute of the card

  module _ (a : own s ≡ accepted) (h : OnTheCard c m) where
    abbrev i : ℕ
    i = gap_of c.minutes m

    inside : outside c.minutes m ≡ accepted
    unfolding knot knots
    inside = card_in c.minutes m h.0 h.1

    in_place : InPlace c.minutes i m
    unfolding quintic knots
    in_place = minute_in_place c.minutes m (omega (arith, (accepted_count s a).some)) inside

    parted_is : explain s m ≡ parted c i m
    unfolding explain
    parted_is = sym (inside_explained K c m inside ∙ accepted_explained K c m a)

    value_is : (r : AReading) → reading_bytes r ≡ s → minute r ≡ m → r.answer.value ≡ (reads_at c m).value
    unfolding read_off answer_at reading_order
    value_is r same there =
        ap (λ r. r.value) (r.promised ∙ ap₂ read_off same there)
        ∙ ap (λ v. (answered (found c.minutes m).looks v).value) (both_accept a (both_accept inside refl))

    made : ((parted c i m).number ≡ 0) × MadeOf s m (parted c i m)
    unfolding parted knot knots gap
    made = (
      refl,
      record {
        its_gap = refl;
        on_its_gap = record { inside = in_place.inside; from = omega (arith, in_place.from); to = omega (arith, in_place.from, in_place.to) };
        terms = terms c i m;
        together = parts_sum c i m;
        read_as = λ r same there. value_is r same there ∙ (explains c m).value_is;
      },
    )

    pub explain_made : {e : Explained} → e ≡ explain s m → (e.number ≡ 0) × MadeOf s m e
    explain_made is = subst (λ e. (e.number ≡ 0) × MadeOf s m e) (sym (is ∙ parted_is)) made
