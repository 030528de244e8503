-- Document 02, order 9, by computation: explanations of Table 3's card, of cards at both ends of its
-- allowance, of jumps at each sort of knot, and of kind 6. One claim, of the definitions. The numbers were
-- worked out apart from them, in fractions, by the documents. Assumes nothing.
use mathlib.Core.Path.{◌≡◌, refl}
use mathlib.Core.List.{List, [], ◌∷◌, ◌++◌, map}
use Prim.Native.Nat.{ℕ}
use lib.IntN.{ℤ, pos}
use lib.ListN.{replicate}
use Rattle.whole.specs.Whole.{minus, beyond}
use Rattle.answer.specs.Answer.{◌then◌, refuse, each}
use Rattle.curve.specs.Formula.{power, worth, ∂^, amount}
use Rattle.curve.specs.Curve.{degree, rightward, leftward, allowance}
use Rattle.curve.specs.Kind.{quintic_asks, quintic, sloped_asks, sloped_allowance, sloped}
use Rattle.curve.specs.Card.{Card, knots, knot, back, on, gap, spot, joint}
use Rattle.curve.specs.Jump.{inverse, clear, over, rise, jump, allowed, jumps}
use Rattle.curve.specs.Steps.{slope_beyond, curvature_beyond, lengths, counted, codes, stands, in_range, smooth, outside}
use Rattle.curve.specs.Orders.{numbers_sound, sound, verdict}
use Rattle.curve.specs.Reading.{last_at, gap_of, denominator}
use Rattle.curve.proofs.Cases.{table_3}
use Rattle.weights.specs.Weights.{weight}
use Rattle.parts.specs.Parts.{weight', part, added, parts}
use Rattle.explain.specs.declared.Explained.{Explained}
use Rattle.explain.specs.Explain.{parts_from, parted, jump_at, because, reason, told, explained}

-- every field, in the answer's order
abbrev fields : Explained → List ℤ
fields e =
    pos e.number ∷ pos e.place ∷ pos e.gap ∷ pos e.minutes
    ∷ e.ordinate ∷ e.ordinate1 ∷ e.slope ∷ e.slope1 ∷ e.curvature ∷ e.curvature1 ∷ e.denominator
    ∷ pos e.knot ∷ pos e.order ∷ e.jump ∷ e.allowance ∷ []

-- a reading: the gap, the minutes, y, y', m, m', M, M' and what they are over
abbrev reads : List ℤ → List ℤ
reads ns = pos 0 ∷ pos 0 ∷ ns ++ replicate 4 (pos 0)

-- a refusal with 10: the knot, the order, the jump and the allowance
abbrev jumped : (at order : ℕ) → (jump allowance : ℤ) → List ℤ
jumped at order j a = pos 10 ∷ pos at ∷ replicate 9 (pos 0) ++ (pos at ∷ pos order ∷ j ∷ a ∷ [])

abbrev refuses : ℕ → ℕ → List ℤ
refuses n p = pos n ∷ pos p ∷ replicate 13 (pos 0)

-- three knots, the gaps 2 and 3
abbrev zeros : List ℤ
zeros = pos 0 ∷ pos 0 ∷ pos 0 ∷ []

abbrev bent : (ms Ms : List ℤ) → (left right : ℕ) → Card
bent ms Ms left right = record { minutes = 0 ∷ 2 ∷ 5 ∷ []; ordinates = zeros; slopes = ms; curvatures = Ms; left = left; right = right }

-- the squares of 1, 3 and 8, from minute 3 on
abbrev squares : Card
squares =
    record {
      minutes = 3 ∷ 5 ∷ 10 ∷ [];
      ordinates = pos 1 ∷ pos 9 ∷ pos 64 ∷ [];
      slopes = pos 8192 ∷ pos 24_576 ∷ pos 65_536 ∷ [];
      curvatures = pos 8192 ∷ pos 8192 ∷ pos 8192 ∷ [];
      left = 0;
      right = 0;
    }

infix 4 ◌is◌
pub record Case : Type 0 where
  pub found : Explained
  pub wanted : List ℤ

abbrev ◌is◌ : Explained → List ℤ → Case
f is w = record { found = f; wanted = w }

abbrev one : Card → ℕ → Explained
one c minute = explained quintic (verdict quintic c) c minute

abbrev six : Card → ℕ → Explained
six c minute = explained sloped (verdict sloped c) c minute

unfoldable pub cases : List Case
cases =
    (one (table_3 (minus 108_800)) 0 is reads (pos 0 ∷ pos 0 ∷ pos 134_217_728_000 ∷ pos 0 ∷ pos 0 ∷ pos 0 ∷ pos 0 ∷ pos 0 ∷ pos 268_435_456 ∷ []))
    ∷ (one (table_3 (minus 108_800)) 4 is reads (pos 0 ∷ pos 4 ∷ pos 67_108_864_000 ∷ pos 0 ∷ minus 67_108_864_000 ∷ minus 18_874_368_000 ∷ pos 9_646_899_200 ∷ pos 5_452_595_200 ∷ pos 268_435_456 ∷ []))
    ∷ (one (table_3 (minus 108_800)) 12 is reads (pos 1 ∷ pos 4 ∷ pos 0 ∷ pos 67_108_864_000 ∷ pos 18_874_368_000 ∷ pos 0 ∷ pos 5_452_595_200 ∷ minus 7_130_316_800 ∷ pos 268_435_456 ∷ []))
    -- an inner knot is its right gap's, the last knot the last gap's
    ∷ (one (table_3 (minus 108_800)) 16 is reads (pos 2 ∷ pos 0 ∷ pos 134_217_728_000 ∷ pos 0 ∷ pos 0 ∷ pos 0 ∷ pos 0 ∷ pos 0 ∷ pos 268_435_456 ∷ []))
    ∷ (one (table_3 (minus 108_800)) 32 is reads (pos 3 ∷ pos 8 ∷ pos 0 ∷ pos 134_217_728_000 ∷ pos 0 ∷ pos 0 ∷ pos 0 ∷ pos 0 ∷ pos 268_435_456 ∷ []))
    ∷ (one (table_3 (minus 108_800)) 33 is refuses 11 0)
    -- six parts that are not 0, of the value 16
    ∷ (one squares 6 is reads (pos 1 ∷ pos 1 ∷ pos 217_055_232 ∷ pos 94_896_128 ∷ pos 125_829_120 ∷ minus 44_564_480 ∷ pos 13_107_200 ∷ pos 3_276_800 ∷ pos 25_600_000 ∷ []))
    ∷ (one squares 2 is refuses 11 0)
    -- P4, P5 and P6: at the allowance, and over it on either side
    ∷ (one (table_3 (minus 108_798)) 17 is reads (pos 2 ∷ pos 1 ∷ pos 132_063_232_000 ∷ pos 0 ∷ pos 0 ∷ pos 748_339_200 ∷ minus 2_388_333_696 ∷ pos 260_915_200 ∷ pos 268_435_456 ∷ []))
    ∷ (one (table_3 (minus 108_797)) 17 is jumped 2 3 (pos 589_824) (pos 393_216))
    ∷ (one (table_3 (minus 108_802)) 17 is reads (pos 2 ∷ pos 1 ∷ pos 132_063_232_000 ∷ pos 0 ∷ pos 0 ∷ pos 748_339_200 ∷ minus 2_388_421_504 ∷ pos 260_915_200 ∷ pos 268_435_456 ∷ []))
    ∷ (one (table_3 (minus 108_803)) 17 is jumped 2 3 (pos 589_824) (pos 393_216))
    -- both over, and a jump at the last knot too; the fourth alone; and the third alone, the gaps 2 and 5
    ∷ (one (bent (pos 0 ∷ pos 50 ∷ pos 0 ∷ []) zeros 1 0) 1 is jumped 1 3 (pos 18_000) (pos 1968))
    ∷ (one (bent (pos 0 ∷ pos 2 ∷ pos 0 ∷ []) zeros 1 1) 1 is jumped 1 4 (pos 6720) (pos 6072))
    ∷ (one (record { minutes = 0 ∷ 2 ∷ 7 ∷ []; ordinates = zeros; slopes = zeros; curvatures = pos 0 ∷ pos 4 ∷ pos 0 ∷ []; left = 1; right = 1 }) 1 is jumped 1 3 (pos 8400) (pos 7440))
    -- at the first knot and at the last, over the one gap's power; with code 2 the fourth, with 1 nothing
    ∷ (one (bent zeros (pos 5 ∷ pos 0 ∷ pos 0 ∷ []) 0 1) 1 is jumped 0 3 (pos 60) (pos 48))
    ∷ (one (bent zeros (pos 5 ∷ pos 0 ∷ pos 0 ∷ []) 2 1) 1 is jumped 0 4 (pos 60) (pos 56))
    ∷ (one (bent zeros (pos 5 ∷ pos 0 ∷ pos 0 ∷ []) 1 1) 1 is reads (pos 0 ∷ pos 1 ∷ pos 0 ∷ pos 0 ∷ pos 0 ∷ pos 0 ∷ pos 20 ∷ pos 0 ∷ pos 262_144 ∷ []))
    ∷ (one (bent zeros (pos 0 ∷ pos 0 ∷ pos 4 ∷ []) 1 0) 1 is jumped 2 3 (pos 108) (pos 84))
    ∷ (one (bent zeros (pos 0 ∷ pos 0 ∷ pos 4 ∷ []) 1 2) 1 is jumped 2 4 (pos 108) (pos 96))
    -- kind 6: 4g per side, and the third alone
    ∷ (six (table_3 (minus 108_799)) 17 is reads (pos 2 ∷ pos 1 ∷ pos 132_063_232_000 ∷ pos 0 ∷ pos 0 ∷ pos 748_339_200 ∷ minus 2_388_355_648 ∷ pos 260_915_200 ∷ pos 268_435_456 ∷ []))
    ∷ (six (table_3 (minus 108_798)) 17 is jumped 2 3 (pos 393_216) (pos 262_144))
    ∷ (six (bent zeros (pos 0 ∷ pos 2 ∷ pos 0 ∷ []) 0 0) 1 is jumped 1 3 (pos 1080) (pos 720))
    -- other refusals
    ∷ (one (bent (pos 0 ∷ pos 1_048_577 ∷ pos 0 ∷ []) zeros 0 0) 1 is refuses 9 1)
    ∷ (one (bent zeros zeros 0 3) 1 is refuses 15 1)
    ∷ (six (bent zeros zeros 1 0) 1 is refuses 15 0)
    ∷ []

pub hold : map (λ c. fields c.found) cases ≡ map (λ c. c.wanted) cases
unfolding cases table_3 beyond ◌then◌ refuse each power worth ∂^ amount degree rightward leftward allowance
    quintic_asks quintic sloped_asks sloped_allowance sloped knots knot back on gap spot joint inverse clear over rise jump allowed jumps
    slope_beyond curvature_beyond lengths counted codes stands in_range smooth outside numbers_sound sound verdict
    last_at gap_of denominator weight weight' part added parts parts_from parted jump_at because reason told explained
hold = refl
