-- `fit_listing::list_fit` meets its contract: the listing of the fit's answer. Assumes nothing.
use mathlib.Core.Path.{◌∙◌}
use Rattle.fit_listing.specs.Printed.{fit_listing}
use Rattle.fit_listing.proofs.Listings.{listed_fit}
use Rattle.listing.proofs.Plain.{same_faults}
use borrow.Author.Rules.{rules}
use Rattle.fit_listing.proofs.list_fit.Goals as goal

pub returns : goal.returns
unfolding fit_listing
returns c =
    let a = c.args in
    let f = c.fit-fitted.result in
    let l = c.list.ensures in
    let e = same_faults f.number f.place a.minutes.now a.ordinates.now _ _ l.0 a.faults.now (λ z i h. (let told = ((l.1 z).1 i h).0 in search rules)) in
    rw (e ∙ listed_fit a.minutes.now a.ordinates.now a.faults.now c.fit-fitted.ensures) at l.2
