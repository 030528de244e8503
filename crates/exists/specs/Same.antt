-- Document 01, "The equations": "the exact solution is unique": two solutions of a card, of either kind, are
-- the same fractions. Compared by cross multiplication. Assumes nothing.
use Rattle.std.specs.Prelude.{◌≡◌, ℕ}
use Rattle.whole.specs.Whole.{◌·◌}
use Rattle.curve.specs.Kind.{Kind}
use Rattle.curve.specs.Card.{Card}
use Rattle.curve.specs.Exact.{Exact}

-- slope and curvature at place i are the same fractions in both
abbrev pub Same : {K : Kind} {card : Card} (e f : Exact K card) (i : ℕ) → Type 0
Same e f i = (f.q · e.s i ≡ e.q · f.s i) × (f.q · e.c i ≡ e.q · f.c i)
