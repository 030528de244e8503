-- `refit::fresh_by_slopes` meets its contract: the card's own slopes are given back where the fit accepts.
-- Assumes nothing.
use Rattle.slope_fit.proofs.Numbered.{slopes_fit_numbered}
use Rattle.refit.proofs.Renewal.{given_back, left_alone}
use Rattle.refit.proofs.fresh_by_slopes.Goals as goal
use Rattle.refit.proofs.fresh_by_slopes.Goals.{Start}

pub returns-then-fitted-eq0 : goal.returns-then-fitted-eq0
returns-then-fitted-eq0 c =
    let s = (goal.at.returns-then-fitted-eq0 c).Start in
    given_back c.fit-fitted.ensures s.args.slopes.now c.copy_from_slice.ensures.after (slopes_fit_numbered _ _ _ _) c.if-fitted-eq0.true

pub returns-else-fitted-eq0 : goal.returns-else-fitted-eq0
returns-else-fitted-eq0 c = left_alone c.fit-fitted.ensures _ c.if-fitted-eq0.false
