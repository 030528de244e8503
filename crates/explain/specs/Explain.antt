-- Document 02, order 9, "Why did it say that": a reading by the parts of its numerator, and a refusal with 10
-- by the jump that is over its allowance. Assumes nothing.
use Rattle.std.specs.Prelude.{ℕ, ◌+◌, ◌-◌, cond, List, eqb, ℤ, pos, nat_abs, ◌+ℤ◌}
use Rattle.answer.specs.Answer.{Answer, refused, given, Verdict, ◌then◌}
use Rattle.curve.specs.Curve.{Order, third, fourth, degree}
use Rattle.curve.specs.Kind.{Kind}
use Rattle.curve.specs.Card.{Card, knot, gap, Joint, joint}
use Rattle.curve.specs.Jump.{jump, allowed, jumps}
use Rattle.curve.specs.Reading.{gap_of, denominator}
use Rattle.curve.specs.Steps.{outside}
use Rattle.gaps.specs.Knots.{numbers}
use Rattle.weights.specs.declared.Quantity.TheVariants.{Value}
use Rattle.parts.specs.declared.Parts.{Parts}
use Rattle.parts.specs.Parts.{parts}
use Rattle.card_bytes.specs.Held.{card_of}
use Rattle.card_bytes.specs.Records.{kind_by}
use Rattle.card.specs.Answers.{own}
use Rattle.explain.specs.declared.Jump.{Jump}
use Rattle.explain.specs.declared.Explained.{Explained}

-- ---- a reading

-- "the six parts (ordinate, slope and curvature from either side) as whole numerators": those of N, at a minute
-- of the gap from knot i
unfoldable pub parts_from : Card → (i minute : ℕ) → Parts
parts_from c i minute =
    let a = knot c i in
    let b = knot c (i + 1) in
    parts Value (pos (gap a b)) (pos (minute - a.x)) (numbers a) (numbers b)

-- "the gap, the minute within it", the parts "and the denominator"; a gap is told by the place of its left knot
unfoldable pub parted : Card → (i minute : ℕ) → Explained
parted c i minute =
    let p = parts_from c i minute in
    record {
      number = 0;
      place = 0;
      gap = i;
      minutes = minute - (knot c i).x;
      ordinate = p.left.ordinate;
      ordinate1 = p.right.ordinate;
      slope = p.left.slope;
      slope1 = p.right.slope;
      curvature = p.left.curvature;
      curvature1 = p.right.curvature;
      denominator = pos (denominator (knot c i) (knot c (i + 1)));
      knot = 0;
      order = 0;
      jump = pos 0;
      allowance = pos 0;
    }

-- the parts together
unfoldable pub sum : Explained → ℤ
sum e = e.ordinate +ℤ e.ordinate1 +ℤ e.slope +ℤ e.slope1 +ℤ e.curvature +ℤ e.curvature1

-- ---- a refusal with 10

-- "the size of the jump and the allowance", both as the jump test has them: over the product of the adjoining
-- gaps' cubes or fourth powers, and at an end over the one gap's
unfoldable pub jump_at : Kind → Joint → Order → Jump
jump_at K j o = record { size = pos (nat_abs (jump o j.before j.here j.after)); allowance = allowed K o j.before j.here j.after }

-- "it names, where document 01 has zeros, the knot, third or fourth", as 3 or 4
unfoldable pub because : (i order : ℕ) → Jump → Explained
because i order j =
    record {
      number = 10;
      place = i;
      gap = 0;
      minutes = 0;
      ordinate = pos 0;
      ordinate1 = pos 0;
      slope = pos 0;
      slope1 = pos 0;
      curvature = pos 0;
      curvature1 = pos 0;
      denominator = pos 0;
      knot = i;
      order = order;
      jump = j.size;
      allowance = j.allowance;
    }

-- "and the third if both are over"
unfoldable pub reason : Kind → Card → ℕ → Explained
reason K c i =
    let j = joint c i in
    cond (jumps K j third) (because i (degree third) (jump_at K j third)) (because i (degree fourth) (jump_at K j fourth))

-- ---- an answer

-- zeros beside a refusal
abbrev pub zeros : (number place : ℕ) → Explained
zeros number place =
    record {
      number = number;
      place = place;
      gap = 0;
      minutes = 0;
      ordinate = pos 0;
      ordinate1 = pos 0;
      slope = pos 0;
      slope1 = pos 0;
      curvature = pos 0;
      curvature1 = pos 0;
      denominator = pos 0;
      knot = 0;
      order = 0;
      jump = pos 0;
      allowance = pos 0;
    }

-- "Other refusals pass through"
unfoldable pub told : Kind → Card → Answer Explained → Explained
told K c (refused n p) = cond (eqb n 10) (reason K c p) (zeros n p)
told K c (given e) = e

-- the card's, then 11, as of a reading
unfoldable pub explained : Kind → Verdict → Card → ℕ → Explained
explained K own c minute = told K c (own then outside c.minutes minute then given (parted c (gap_of c.minutes minute) minute))

-- off a card's bytes, as the kind of card that their head names
unfoldable pub explain : List ℕ → ℕ → Explained
explain s minute = explained (kind_by s) (own s) (card_of s) minute

-- ---- inside

-- the parts together, each counted positive
unfoldable pub sizes : Explained → ℕ
sizes e =
    nat_abs e.ordinate + nat_abs e.ordinate1
    + nat_abs e.slope + nat_abs e.slope1
    + nat_abs e.curvature + nat_abs e.curvature1
