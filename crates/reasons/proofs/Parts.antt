-- Each part is its term of document 01's N; together they are the numerator of the exact value, and rounded
-- over the denominator they are what is read. Assumes nothing.
use Prim.Native.Nat.{ℕ, ◌+◌, ◌-◌}
use mathlib.Core.Path.{◌≡◌, refl, sym, ap, ◌∙◌}
use mathlib.Core.List.{List, [], ◌∷◌}
use native.Mathlib.Nat.{sub-zero}
use lib.IntN.{ℤ, pos}
use Rattle.whole.specs.Whole.{nearest}
use Rattle.whole.proofs.Order.{linear}
use Rattle.whole.proofs.Solve.{E, ◌:+◌, #, ring}
use Rattle.answer.specs.Answer.{refused, Verdict, ◌then◌, number, place}
use Rattle.answer.proofs.Steps.{not_both, given_same}
use Rattle.curve.specs.Formula.{Formula, num, power, worth, ∂^}
use Rattle.curve.specs.Curve.{N}
use Rattle.curve.specs.Kind.{Kind}
use Rattle.curve.specs.Card.{Card, Knot, knot, gap}
use Rattle.curve.specs.Reading.{gap_of, spell, between, denominator, reads, reads_at}
use Rattle.curve.specs.Demand.{exact}
use Rattle.curve.specs.Orders.{reading_order}
use Rattle.curve.proofs.Written.{curve, worth_e}
use Rattle.gaps.specs.Knots.{numbers}
use Rattle.weights.specs.declared.Quantity.{Quantity}
use Rattle.weights.specs.declared.Quantity.TheVariants.{Value, Slope, Curvature}
use Rattle.weights.specs.Weights.{weight}
use Rattle.parts.specs.Parts.{weight', part, added, parts, drawn, sum_of}
use Rattle.parts.proofs.Numerators.{numerator_is}
use Rattle.explain.specs.declared.Explained.{Explained}
use Rattle.explain.specs.Explain.{parts_from, parted, sum, because, explained}
use Rattle.reasons.specs.Reasons.{NWith, Terms, Explains, Passes}
use Rattle.reasons.proofs.Told.{reason_one_of, explained_one_of}

-- ---- each by itself

-- a part as it is defined, beside N with one number
abbrev part_e : Quantity → (h t k : E) → Formula E → E
part_e of h t k w = worth_e (part of (num h) (num k) w) t

pub terms : (c : Card) (i minute : ℕ) → Terms c i minute (parted c i minute)
unfolding parted parts_from parts added part weight weight' NWith N worth ∂^ power denominator
terms c i minute =
    record {
      y = ring (all a.y) (λ h t k. (part_e Value h t k (weight Value (num h)), worth_e (curve h k (# 0) (# 0) (# 0) (# 0) (# 0)) t)) tt;
      y' = ring (all b.y) (λ h t k. (part_e Value h t k (weight' Value (num h)), worth_e (curve h (# 0) k (# 0) (# 0) (# 0) (# 0)) t)) tt;
      m = ring (all a.m) (λ h t k. (part_e Slope h t k (weight Slope (num h)), worth_e (curve h (# 0) (# 0) k (# 0) (# 0) (# 0)) t)) tt;
      m' = ring (all b.m) (λ h t k. (part_e Slope h t k (weight' Slope (num h)), worth_e (curve h (# 0) (# 0) (# 0) k (# 0) (# 0)) t)) tt;
      M = ring (all a.M) (λ h t k. (part_e Curvature h t k (weight Curvature (num h)), worth_e (curve h (# 0) (# 0) (# 0) (# 0) k (# 0)) t)) tt;
      M' = ring (all b.M) (λ h t k. (part_e Curvature h t k (weight' Curvature (num h)), worth_e (curve h (# 0) (# 0) (# 0) (# 0) (# 0) k) t)) tt;
      under = refl;
    }
  where
    a : Knot
    a = knot c i

    b : Knot
    b = knot c (i + 1)

    all : ℤ → List ℤ
    all k = pos (gap a b) ∷ pos (minute - a.x) ∷ k ∷ []

-- ---- together

-- "The parts must sum to the numerator of the exact value."
pub parts_sum : (c : Card) (i minute : ℕ) → sum (parted c i minute) ≡ exact 0 (knot c i) (knot c (i + 1)) (minute - (knot c i).x)
unfolding sum parted parts_from sum_of exact drawn between gap ∂^
parts_sum c i minute =
    let a = knot c i in
    let b = knot c (i + 1) in
    let h = gap a b in
    let t = pos (minute - a.x) in
    let p = parts Value (pos h) t (numbers a) (numbers b) in
    ring (p.left.ordinate ∷ p.right.ordinate ∷ p.left.slope ∷ p.right.slope ∷ p.left.curvature ∷ p.right.curvature ∷ [])
    (λ y y' m m' M M'. (y :+ y' :+ m :+ m' :+ M :+ M', y :+ m :+ M :+ (y' :+ m' :+ M'))) tt
    ∙ sym (numerator_is Value (pos h) t (numbers a) (numbers b) (omega linear))
    ∙ ap (λ n. worth (curve (pos n) a.y b.y a.m b.m a.M b.M) t) (sub-zero h)

-- ---- rounded

pub explains : (c : Card) (minute : ℕ) → (let i = gap_of c.minutes minute in Explains c minute (parted c i minute) (reads_at c minute))
unfolding parted reads_at reads spell exact
explains c minute =
    let i = gap_of c.minutes minute in
    record {
      gap_is = refl;
      minutes_are = refl;
      parts_are = terms c i minute;
      sum_is = parts_sum c i minute;
      value_is = ap (λ z. nearest z (denominator (knot c i) (knot c (i + 1)))) (sym (parts_sum c i minute));
    }

pub passes : (K : Kind) (own : Verdict) (c : Card) (minute : ℕ) → Passes c minute (explained K own c minute) (reading_order own c minute)
unfolding parted reading_order ◌then◌ because number place
passes K own c minute =
    explained_one_of K c own minute (λ e. Passes c minute e (reading_order own c minute))
    (λ p f. rw f (reason_one_of K c p (λ e. Passes c minute e (refused 10 p)) (λ g. refusing) (λ g. refusing)))
    (λ n p h f. rw f refusing)
    (λ f g. rw (f, g) refusing)
    (λ f g. rw (f, g) (record { number_is = refl; place_is = refl; given_is = λ v g. rw (← given_same g) (explains c minute) }))
  where
    refusing : {e : Explained} → Passes c minute e (refused e.number e.place)
    refusing = record { number_is = refl; place_is = refl; given_is = λ v g. absurd (not_both g) }
