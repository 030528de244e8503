-- How far a card's curve swings: how far what the card reads at the whole minutes of a gap goes below the
-- lower and above the higher of the gap's two knots, at which minute first so far, and which gap goes
-- furthest. No document asks for it; a load was lost to it. Assumes nothing.
use Rattle.std.specs.Prelude.{ℕ, zero, suc, ◌+◌, ◌-◌, min, max, cond, ltb, ℤ, pos, negsuc, ◌-ℤ◌}
use Rattle.answer.specs.Answer.{refused, given, Verdict}
use Rattle.curve.specs.Card.{Card, knots, knot, gap}
use Rattle.curve.specs.Reading.{reads_at}
use Rattle.swing.specs.declared.GapSwing.{GapSwing}
use Rattle.swing.specs.declared.Swung.{Swung}
use Rattle.swing.specs.declared.Reach.{Reach}
use Rattle.swing.specs.declared.AtKnot.{AtKnot}

-- ---- a value

-- a whole number that is not negative; else 0
unfoldable pub surplus : ℤ → ℕ
surplus (pos n) = n
surplus (negsuc n) = 0

-- how far a value is below both of two ordinates, and so below the lower; and how far it is above both
unfoldable pub below : (y y' value : ℤ) → ℕ
below y y' value = min (surplus (y -ℤ value)) (surplus (y' -ℤ value))

unfoldable pub above : (y y' value : ℤ) → ℕ
above y y' value = min (surplus (value -ℤ y)) (surplus (value -ℤ y'))

-- ---- a gap

-- the first of the places 0 to n at which f is largest
unfoldable pub peak : (ℕ → ℕ) → ℕ → ℕ
peak f zero = zero
peak f (suc n) = cond (ltb (f (peak f n)) (f (suc n))) (suc n) (peak f n)

-- what the card reads, t minutes into the gap from place j, beside the ordinates of the gap's two knots
unfoldable pub below_at : Card → (j t : ℕ) → ℕ
below_at c j t = below (knot c j).y (knot c (j + 1)).y (reads_at c ((knot c j).x + t)).value

unfoldable pub above_at : Card → (j t : ℕ) → ℕ
above_at c j t = above (knot c j).y (knot c (j + 1)).y (reads_at c ((knot c j).x + t)).value

-- from the gap's left knot to its right one: how far, and the minute at which first so far
unfoldable pub gap_swing : Card → ℕ → GapSwing
gap_swing c j =
    let h = gap (knot c j) (knot c (j + 1)) in
    let lowest = peak (below_at c j) h in
    let highest = peak (above_at c j) h in
    record { below = below_at c j lowest; lowest = (knot c j).x + lowest; above = above_at c j highest; highest = (knot c j).x + highest }

-- how far it goes to either side, and the minute at which first so far
unfoldable pub furthest : GapSwing → ℕ
furthest g = max g.below g.above

unfoldable pub first_minute : GapSwing → ℕ
first_minute g = cond (ltb g.above g.below) g.lowest (cond (ltb g.below g.above) g.highest (min g.lowest g.highest))

-- ---- a card

-- the gap that goes furthest, the first of equals, by the place of its left knot
unfoldable pub widest : Card → ℕ
widest c = peak (λ j. furthest (gap_swing c j)) (knots c - 2)

-- of the card that is accepted; zeros behind a refusal
unfoldable pub swung : Verdict → Card → Swung
swung (refused n p) c = record { number = n; place = p; knot = 0; minute = 0; below = 0; above = 0 }
swung (given u) c =
    let g = gap_swing c (widest c) in
    record { number = 0; place = 0; knot = widest c; minute = first_minute g; below = g.below; above = g.above }

-- ---- inside

-- what is reached, or what a later minute reaches where it is further
unfoldable pub further : Reach → (by at : ℕ) → Reach
further r by at = cond (ltb r.by by) (record { by = by; at = at }) r

-- and the same of gaps
unfoldable pub wider : AtKnot → ℕ → GapSwing → AtKnot
wider w knot g = cond (ltb (furthest w.gap) (furthest g)) (record { knot = knot; gap = g }) w

-- a card's
unfoldable pub widest_of : Card → AtKnot
widest_of c = record { knot = widest c; gap = gap_swing c (widest c) }
