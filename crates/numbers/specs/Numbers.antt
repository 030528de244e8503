-- Document 01, "The elimination", point 4: the pairs of the knots in card units. Assumes nothing.
use Rattle.std.specs.Prelude.{ℕ, ◌<◌, ◌≡◌, true, List, get_or, replicate, ℤ, pos}
use Rattle.front.specs.Front.{over}
use Rattle.rows.specs.declared.Pair.{Pair}
use Rattle.elimination.specs.Refusal.{both_finite}
use Rattle.passes.specs.Sheet.{most}
use Rattle.passes.specs.Back.{no_pair}
use Rattle.units.specs.Units.{units_of, held}
use Rattle.numbers.specs.declared.Numbers.{Numbers}

module _ (pairs : List Pair) where
  -- "Each number u becomes the whole number nearest to the exact 4096·u"
  abbrev pub slope_at : ℕ → ℤ
  slope_at k = units_of (get_or pairs k no_pair).s

  abbrev pub curvature_at : ℕ → ℤ
  curvature_at k = units_of (get_or pairs k no_pair).c

  -- the first n, as the passes leave them
  abbrev pub AllFinite : ℕ → Type 0
  AllFinite n = (k : ℕ) → k < n → both_finite (get_or pairs k no_pair) ≡ true

  -- of the first n, zeros behind them
  abbrev pub scaled : ℕ → Numbers
  scaled n =
      let places = replicate most (pos 0) in
      record { slopes = over (λ k. held (slope_at k)) n places; curvatures = over (λ k. held (curvature_at k)) n places }
