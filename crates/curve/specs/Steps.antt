-- Document 01, "Numbers of refusal": each step of the orders, on what it reads. Those of bytes, of given end numbers and of the elimination stand
-- with their crates. Assumes nothing.
use Rattle.std.specs.Prelude.{ℕ, ◌+◌, ◌-◌, ◌*◌, max, Bool, not, ◌&&◌, ◌||◌, List, ℤ, pos, leb, ltb, eqb, length, get_or}
use Rattle.whole.specs.Whole.{beyond}
use Rattle.answer.specs.Answer.{Verdict, ◌then◌, refuse}
use Rattle.curve.specs.Curve.{third, fourth}
use Rattle.curve.specs.Kind.{Kind}
use Rattle.curve.specs.Card.{Card, gap, back, Joint, joint}
use Rattle.curve.specs.Jump.{jumps}

-- 3, of the lent lists' lengths
unfoldable pub lengths : ℕ → ℕ → ℕ → ℕ → Verdict
lengths n ys ms Ms = refuse 3 0 (not (eqb ys n && eqb ms n && eqb Ms n))

-- 1, 2
unfoldable pub counted : Kind → ℕ → Verdict
counted K n =
    refuse 1 0 (ltb n K.fewest_knots)
    then refuse 2 0 (ltb K.most_knots n)

-- 15
unfoldable pub codes : Kind → ℕ → ℕ → Verdict
codes K left right =
    refuse 15 0 (K.no_code left)
    then refuse 15 1 (K.no_code right)

-- 4, 5, 6 at a knot
unfoldable pub stands : Kind → List ℕ → List ℤ → ℕ → Verdict
stands K xs ys i =
    refuse 4 i (ltb 0 i && leb (get_or xs i 0) (get_or xs (back i) 0))
    then refuse 5 i (ltb K.widest_gap (get_or xs i 0 - get_or xs (back i) 0))
    then refuse 6 i (beyond K.ordinates (get_or ys i (pos 0)))

-- 9 at a knot
unfoldable pub slope_beyond : Kind → Joint → Bool
slope_beyond K j = beyond K.slopes j.here.m

unfoldable pub curvature_beyond : Kind → Joint → Bool
curvature_beyond K j = beyond (K.curvatures (max (gap j.before j.here) (gap j.here j.after))) j.here.M

unfoldable pub in_range : Kind → Card → ℕ → Verdict
in_range K c i = refuse 9 i (slope_beyond K (joint c i) || curvature_beyond K (joint c i))

-- order 8: "9 for the given slopes", whatever the curvatures
unfoldable pub slope_in_range : Kind → Card → ℕ → Verdict
slope_in_range K c i = refuse 9 i (slope_beyond K (joint c i))

-- 10 at a knot
unfoldable pub smooth : Kind → Card → ℕ → Verdict
smooth K c i = refuse 10 i (jumps K (joint c i) third || jumps K (joint c i) fourth)

-- 11
unfoldable pub outside : List ℕ → ℕ → Verdict
outside xs minute = refuse 11 0 (ltb minute (get_or xs 0 0) || ltb (get_or xs (length xs - 1) 0) minute)

-- "Size 14 + 16n"
abbrev pub size : ℕ → ℕ
size n = 14 + 16 * n

-- 26, where less room is lent than is needed
unfoldable pub room : ℕ → ℕ → Verdict
room needed lent = refuse 26 0 (ltb lent needed)
