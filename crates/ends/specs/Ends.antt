-- Document 01, "The curve and its card" and number 7: the ends of a fit, by kind or by code number, and the numbers given for them.
-- Assumes nothing.
use Rattle.std.specs.Prelude.{ℕ, ◌-◌, Bool, not, ◌||◌, cond, false, eqb, pos, Float}
use Rattle.std.specs.Float.{binary64}
use Rattle.std.specs.Float.Ieee.{of_bits, neg, lt}
use Rattle.answer.specs.Answer.{Verdict, ◌then◌, refuse}
use Rattle.knots.specs.Kinds.{most_given}
use Rattle.rows.specs.declared.End.{End}
use Rattle.rows.specs.declared.End.TheVariants.{Free, Both, Curvature}
use Rattle.elimination.specs.Refusal.{is_finite}

-- ---- codes

-- the end that a code number asks, with the numbers that come beside it; free for a code that 15 refuses
unfoldable pub end_by : ℕ → Float → Float → End
end_by number slope curvature = cond (eqb number 1) (Both slope curvature) (cond (eqb number 2) (Curvature curvature) Free)

-- ---- 7

abbrev pub f256 : Float
f256 = of_bits binary64 0x4070_0000_0000_0000

-- "NaN, infinite or beyond ±256"
abbrev pub unfit : Float → Bool
unfit x = not (is_finite x) || (lt f256 x || lt x (neg f256))

-- it looks only at the numbers that the end's kind takes
abbrev pub unfit_end : End → Bool
unfit_end Free = false
unfit_end (Both slope curvature) = unfit slope || unfit curvature
unfit_end (Curvature curvature) = unfit curvature

-- "7 left, right", at the end knots of n
unfoldable pub ends : ℕ → End → End → Verdict
ends n left right =
    refuse 7 0 (unfit_end left)
    then refuse 7 (n - 1) (unfit_end right)
