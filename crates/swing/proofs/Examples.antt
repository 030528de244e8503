-- Swings, computed from the definitions: of Table 3's card, whose first and last gaps go equally far, of a
-- gap that goes equally far to both sides before one that goes further, and of a card that stays within. The
-- numbers were worked out apart, by the exact curve in fractions. Assumes nothing.
use mathlib.Core.Path.{◌≡◌, refl}
use mathlib.Core.List.{[], ◌∷◌}
use Prim.Native.Nat.{ℕ}
use lib.IntN.{pos}
use Rattle.whole.specs.Whole.{minus, nearest}
use Rattle.answer.specs.Answer.{refused, accepted}
use Rattle.curve.specs.Formula.{power, worth, ∂, ∂^, amount}
use Rattle.curve.specs.Curve.{N}
use Rattle.curve.specs.Card.{Card, knots, knot, gap}
use Rattle.curve.specs.Reading.{last_at, gap_of, spell, denominator, between, reads, reads_at}
use Rattle.curve.proofs.Cases.{table_3, p1}
use Rattle.swing.specs.declared.GapSwing.{GapSwing}
use Rattle.swing.specs.declared.Swung.{Swung}
use Rattle.swing.specs.Swing.{surplus, below, above, peak, below_at, above_at, gap_swing, furthest, first_minute, widest, swung}

-- below its knots at 12 as far as above them at 11, and then further above
unfoldable pub swerving : Card
swerving =
    record {
      minutes = 10 ∷ 13 ∷ 15 ∷ [];
      ordinates = pos 0 ∷ pos 0 ∷ pos 7 ∷ [];
      slopes = pos 81_920 ∷ pos 81_920 ∷ minus 81_920 ∷ [];
      curvatures = pos 0 ∷ pos 0 ∷ pos 0 ∷ [];
      left = 0;
      right = 0;
    }

unfoldable pub level : Card
level =
    record {
      minutes = 5 ∷ 7 ∷ 9 ∷ [];
      ordinates = pos 3 ∷ pos 3 ∷ pos 3 ∷ [];
      slopes = pos 0 ∷ pos 0 ∷ pos 0 ∷ [];
      curvatures = pos 0 ∷ pos 0 ∷ pos 0 ∷ [];
      left = 0;
      right = 0;
    }

abbrev of_gap : (below lowest above highest : ℕ) → GapSwing
of_gap b l a h = record { below = b; lowest = l; above = a; highest = h }

abbrev of_card : (knot minute below above : ℕ) → Swung
of_card k m b a = record { number = 0; place = 0; knot = k; minute = m; below = b; above = a }

pub gaps :
    (gap_swing p1 0 ≡ of_gap 65 6 0 0) × (gap_swing p1 3 ≡ of_gap 65 26 0 24)
    × (gap_swing swerving 0 ≡ of_gap 7 12 7 11) × (first_minute (of_gap 7 12 7 11) ≡ 11) × (gap_swing swerving 1 ≡ of_gap 0 13 9 14)
unfolding surplus below above peak below_at above_at gap_swing first_minute swerving p1 table_3
    nearest power worth ∂ ∂^ amount N knots knot gap last_at gap_of spell denominator between reads reads_at
gaps = (refl, refl, refl, refl, refl)

pub cards :
    (swung accepted p1 ≡ of_card 0 6 65 0) × (swung accepted swerving ≡ of_card 1 14 0 9) × (swung accepted level ≡ of_card 0 5 0 0)
    × (swung (refused 10 2) p1 ≡ record { number = 10; place = 2; knot = 0; minute = 0; below = 0; above = 0 })
unfolding surplus below above peak below_at above_at gap_swing furthest first_minute widest swung swerving level p1 table_3
    nearest power worth ∂ ∂^ amount N knots knot gap last_at gap_of spell denominator between reads reads_at
cards = (refl, refl, refl, refl)
