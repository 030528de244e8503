-- `refit::anew` meets its contract. Assumes nothing.
use mathlib.Core.Path.{refl}
use Rattle.curve.specs.Card.{knots}
use Rattle.refit.proofs.Renewal.{renews_given, renews_refused}
use Rattle.refit.proofs.anew.Goals as goal

pub returns-then-fitted-eq0 : goal.returns-then-fitted-eq0
unfolding knots
returns-then-fitted-eq0 c = renews_given c.fresh-fitted.ensures c.if-fitted-eq0.true refl c.changed.ensures

pub returns : goal.returns
returns c = renews_refused c.fresh-fitted.ensures c.if-fitted-eq0.false
