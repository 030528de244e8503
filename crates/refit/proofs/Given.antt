-- The fresh fit of a card, from the numbers that are given for its ends.
-- Assumes nothing.
use Prim.Native.Nat.{ℕ, ◌-◌}
use mathlib.Core.Path.{◌≡◌}
use lib.Ieee.{Float}
use Rattle.curve.specs.Card.{Card, knots, knot}
use Rattle.fit.specs.Fit.{fit_codes}
use Rattle.lines.specs.Lines.{hundredths}
use Rattle.refit.specs.Fresh.{fresh_between}

pub fresh_is : (c : Card) {n k k' : ℕ} {a b a' b' : Float} → knots c ≡ n → k ≡ n → k' ≡ n
    → a ≡ hundredths (knot c 0).m → b ≡ hundredths (knot c 0).M → a' ≡ hundredths (knot c (n - 1)).m → b' ≡ hundredths (knot c (n - 1)).M
    → fit_codes c.minutes c.ordinates k k' c.left a b c.right a' b' ≡ fresh_between c
unfolding fresh_between
fresh_is c q k k' e f g h = rw (k, k', e, f, g, h, ← q)
