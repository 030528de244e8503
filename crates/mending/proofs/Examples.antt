-- Mending, computed of its definitions: ties to even on both sides of zero, holes in a row, what is listed, and the order of the refusals.
-- Assumes nothing.
use Prim.Native.Nat.{ℕ}
use mathlib.Core.Path.{◌≡◌, refl}
use mathlib.Core.List.{List, [], ◌∷◌, map}
use lib.IntN.{ℤ, pos}
use lib.ListN.{get_or}
use Rattle.whole.specs.Whole.{nearest, minus, beyond}
use Rattle.answer.specs.Answer.{Verdict, refused, given, accepted, ◌then◌, refuse, each}
use Rattle.curve.specs.Kind.{quintic}
use Rattle.curve.specs.Card.{back}
use Rattle.curve.specs.Steps.{lengths, counted, stands}
use Rattle.curve.proofs.Cases.{line}
use Rattle.fit.proofs.Table3.{fits_are}
use Rattle.holes.specs.Hole as Hole
use Rattle.holes.specs.Hole.{hole, is_hole, hole_at, before, after, left_of, right_of, bridged, holes, holes_to, line_at, put_at, filled_at, filled, mended}
use Rattle.mend.specs.Changes.{change_at, changes_to, changes, restored}
use Rattle.mend.specs.Order.{mendable, mend_order, mend}

-- the number in the middle between 0 and an ordinate
abbrev middle : ℤ → ℤ
middle z = get_or (mended (0 ∷ 2 ∷ 4 ∷ []) (pos 0 ∷ hole ∷ z ∷ [])) 1 (pos 0)

-- 0.5, 1.5, 2.5 and 3.5, below zero too
pub ties_to_even :
    map middle (pos 1 ∷ pos 3 ∷ pos 5 ∷ pos 7 ∷ minus 1 ∷ minus 3 ∷ minus 5 ∷ minus 7 ∷ [])
    ≡ (pos 0 ∷ pos 2 ∷ pos 2 ∷ pos 4 ∷ pos 0 ∷ minus 2 ∷ minus 2 ∷ minus 4 ∷ [])
unfolding filled filled_at put_at line_at Hole.line nearest hole_at is_hole before after left_of right_of
ties_to_even = refl

-- two holes in a row: both lie on the line between the sound knots, at a third and at two thirds; from the first, once filled, the second would come to 0
pub in_a_row : mended (0 ∷ 1 ∷ 2 ∷ 3 ∷ []) (pos 0 ∷ hole ∷ hole ∷ pos 1 ∷ []) ≡ (pos 0 ∷ pos 0 ∷ pos 1 ∷ pos 1 ∷ [])
unfolding filled filled_at put_at line_at Hole.line nearest hole_at is_hole before after left_of right_of
in_a_row = refl

-- their list, in rising order, and the sheet as it came
pub are_listed : (let ys = pos 0 ∷ hole ∷ hole ∷ pos 1 ∷ [] in let zs = pos 0 ∷ pos 0 ∷ pos 1 ∷ pos 1 ∷ [] in
    (changes ys zs ≡ (record { place = 1; old = hole; new = pos 0 } ∷ record { place = 2; old = hole; new = pos 1 } ∷ [])) × (restored (changes ys zs) zs ≡ ys))
unfolding changes changes_to change_at hole_at is_hole restored
are_listed = (refl, refl)

-- of three knots, into lists of three places and a list of changes of so many
abbrev of_three : (ys : List ℤ) (room : ℕ) → Verdict
of_three ys room = mend_order (0 ∷ 2 ∷ 4 ∷ []) ys 3 3 room

pub answers :
    (of_three (pos 0 ∷ hole ∷ pos 1 ∷ []) 1
    ∷ of_three (pos 0 ∷ hole ∷ pos 1 ∷ []) 0
    ∷ of_three (pos 0 ∷ pos 1 ∷ pos 2 ∷ []) 0
    ∷ of_three (hole ∷ pos 0 ∷ hole ∷ []) 0
    ∷ of_three (pos 0 ∷ pos 1 ∷ hole ∷ []) 9
    ∷ of_three (pos 0 ∷ hole ∷ hole ∷ []) 9
    ∷ of_three (hole ∷ hole ∷ hole ∷ []) 9
    ∷ of_three (hole ∷ minus 20_001 ∷ hole ∷ []) 9
    ∷ of_three (pos 0 ∷ minus 32_767 ∷ pos 0 ∷ []) 9
    ∷ mend_order (0 ∷ 2 ∷ 2 ∷ []) (hole ∷ hole ∷ hole ∷ []) 3 3 0
    ∷ mend_order (0 ∷ 61 ∷ 62 ∷ []) (hole ∷ hole ∷ hole ∷ []) 3 3 0
    ∷ mend_order (0 ∷ 2 ∷ []) (hole ∷ hole ∷ []) 2 2 0
    ∷ mend_order (0 ∷ 2 ∷ []) (hole ∷ hole ∷ []) 3 3 0 ∷ [])
    ≡ (accepted ∷ refused 18 0 ∷ accepted ∷ refused 17 0 ∷ refused 17 2 ∷ refused 17 1 ∷ refused 17 0 ∷ refused 6 1 ∷ refused 6 1 ∷ refused 4 2 ∷ refused 5 1 ∷ refused 1 0 ∷ refused 3 0 ∷ [])
unfolding mend_order mendable lengths counted quintic each stands back beyond bridged refuse ◌then◌ filled filled_at put_at holes holes_to hole_at is_hole before after right_of
answers = refl

-- P7's knots with a hole in the middle: mended and fitted they are its card
pub mended_line : mend line.minutes (pos 0 ∷ hole ∷ pos 2 ∷ []) 3 3 1 ≡ given line
unfolding mend mend_order mendable lengths counted quintic each stands back beyond bridged refuse ◌then◌ filled filled_at put_at line_at Hole.line nearest holes holes_to hole_at is_hole
    before after left_of right_of line
mended_line = fits_are.3
