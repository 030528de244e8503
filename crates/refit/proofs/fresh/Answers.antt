-- `refit::fresh` meets its contract, by what the kind asks.
-- Assumes nothing.
use Rattle.curve.specs.Card.{knots}
use Rattle.knots.specs.Lent.{card_lent}
use Rattle.fit.proofs.Fitting.{fits_along}
use Rattle.refit.proofs.Renewal.{fresh_of_ends, fresh_of_slopes}
use Rattle.refit.proofs.fresh.Goals as goal
use Rattle.refit.proofs.fresh.Goals.{Start}

pub returns-then-kind : goal.returns-then-kind
returns-then-kind c = fits_along (fresh_of_ends c.args.kind (card_lent c.args.held) c.if-kind.true) c.fresh_between.ensures

pub returns : goal.returns
unfolding knots
returns c =
    let s = (goal.at.returns c).Start in
    fits_along (fresh_of_slopes s.args.kind (card_lent s.args.held) c.if-kind.false s.requires.slopes_len.1) c.fresh_by_slopes.ensures
