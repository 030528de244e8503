-- How many looks for a gap: the halving rule, look by look. Document 02, order 7.
-- Assumes nothing.
use Rattle.std.specs.Prelude.{ℕ, zero, suc, ◌+◌, ◌-◌, ◌/◌, cond, List, ltb, length, get_or}
use Rattle.minutes.specs.declared.Left.{Left}

-- the place of "the knot that begins the gap numbered k halved, rounded down", of the k that are left
unfoldable pub middle : Left → ℕ
middle l = l.first + l.gaps / 2

-- one look, at that knot's minute: it "keeps the lower part if the minute is before that knot, else the rest", and "adds one to the count"
unfoldable pub look : Left → (minute knot : ℕ) → Left
look l minute knot =
    cond (ltb minute knot)
    (record { first = l.first; gaps = l.gaps / 2; looks = l.looks + 1 })
    (record { first = middle l; gaps = l.gaps - l.gaps / 2; looks = l.looks + 1 })

-- "While more than one gap is left", of n looks at most
unfoldable pub looking : ℕ → List ℕ → ℕ → Left → Left
looking zero xs minute l = l
looking (suc n) xs minute l = cond (ltb 1 l.gaps) (looking n xs minute (look l minute (get_or xs (middle l) 0))) l

-- before any look: every gap of n knots
unfoldable pub every_gap : ℕ → Left
every_gap n = record { first = 0; gaps = n - 1; looks = 0 }

-- a look leaves fewer gaps, so that as many looks as there are knots are enough
unfoldable pub found : List ℕ → ℕ → Left
found xs minute = looking (length xs) xs minute (every_gap (length xs))
