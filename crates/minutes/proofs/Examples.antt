-- The halving rule worked out by hand: what it leaves of the first cards, and of a full one. Computed from the definitions; assumes nothing.
use Prim.Native.Nat.{ℕ, zero, suc, ◌+◌}
use mathlib.Core.Path.{◌≡◌, refl}
use mathlib.Core.List.{List, [], ◌∷◌}
use Rattle.minutes.specs.declared.Left.{Left}
use Rattle.minutes.specs.Search.{middle, look, looking, every_gap, found}

-- so many knots, one at every second minute
unfoldable pub knots : ℕ → ℕ → List ℕ
knots zero x = []
knots (suc n) x = x ∷ knots n (x + 2)

abbrev left : ℕ → ℕ → Left
left first looks = record { first = first; gaps = 1; looks = looks }

-- 3 knots: each of the 2 gaps by one look; an inner knot belongs to the gap on its right, the last knot to the last gap
pub three : (found (knots 3 0) 0 ≡ left 0 1) × (found (knots 3 0) 1 ≡ left 0 1) × (found (knots 3 0) 2 ≡ left 1 1) × (found (knots 3 0) 4 ≡ left 1 1)
unfolding middle look looking every_gap found knots
three = (refl, refl, refl, refl)

-- 4 knots: of 3 gaps the lower part is one, the rest two
pub four : (found (knots 4 0) 1 ≡ left 0 1) × (found (knots 4 0) 2 ≡ left 1 2) × (found (knots 4 0) 4 ≡ left 2 2) × (found (knots 4 0) 6 ≡ left 2 2)
unfolding middle look looking every_gap found knots
four = (refl, refl, refl, refl)

-- 64 knots: five looks at the first gap, six at the second and at the last
pub full : (found (knots 64 0) 0 ≡ left 0 5) × (found (knots 64 0) 2 ≡ left 1 6) × (found (knots 64 0) 125 ≡ left 62 6) × (found (knots 64 0) 126 ≡ left 62 6)
unfolding middle look looking every_gap found knots
full = (refl, refl, refl, refl)
