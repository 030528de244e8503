-- The cases of document 01 at the edge of 7: "An end slope of 256 passes 7; the next float up does not"; and
-- its place, "end knot". Assumes nothing.
use mathlib.Core.Path.{◌≡◌, refl}
use mathlib.Core.Bool.{true, false}
use mathlib.Core.List.{[], ◌∷◌, map}
use lib.Ieee.{nan, inf, binary64, of_bits, neg, lt}
use Rattle.answer.specs.Answer.{refused, accepted, refuse, ◌then◌}
use Rattle.rows.specs.declared.End.TheVariants.{Free, Both, Curvature}
use Rattle.ends.specs.Ends.{f256, unfit, ends}

-- 256, −256, −0, the smallest number above 0
within : map unfit (f256 ∷ neg f256 ∷ of_bits binary64 0x8000_0000_0000_0000 ∷ of_bits binary64 1 ∷ []) ≡ false ∷ false ∷ false ∷ false ∷ []
unfolding of_bits neg lt
within = refl

-- the next up from 256, its opposite, the infinities, NaN
beyond : map unfit (of_bits binary64 0x4070_0000_0000_0001 ∷ neg (of_bits binary64 0x4070_0000_0000_0001) ∷ inf false ∷ inf true ∷ nan ∷ []) ≡ true ∷ true ∷ true ∷ true ∷ true ∷ []
unfolding of_bits neg lt
beyond = refl

-- 7 stands at the end's knot, of five: at the left; at the right; at the left where both are unfit; and what
-- an end's kind does not take is not looked at
places : ends 5 (Both nan f256) Free ∷ ends 5 Free (Curvature (inf true)) ∷ ends 5 (Curvature nan) (Both f256 nan) ∷ ends 5 (Both f256 (neg f256)) (Curvature f256) ∷ ends 5 Free Free ∷ []
    ≡ refused 7 0 ∷ refused 7 4 ∷ refused 7 0 ∷ accepted ∷ accepted ∷ []
unfolding of_bits neg lt ends refuse ◌then◌
places = refl
