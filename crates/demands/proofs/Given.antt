-- Demand 2 of a fit and of a mean: what they give where they accept.
-- Assumes nothing.
use Prim.Native.Nat.{ℕ, ◌+◌, ◌*◌, ◌≤◌}
use mathlib.Core.Path.{◌≡◌, ap, ◌∙◌}
use mathlib.Core.List.{List}
use native.Mathlib.Omega.{arith}
use lib.IntN.{pos}
use lib.ListN.{length}
use Rattle.whole.specs.Whole.{nearest}
use Rattle.answer.specs.Answer.{given}
use Rattle.little_endian.specs.Numbers.{Bytes}
use Rattle.curve.specs.Card.{latest}
use Rattle.curve.specs.Log.{count, sum, faults, middle, mean_of, mean}
use Rattle.curve.proofs.Middle.{stated}
use Rattle.curve.proofs.Faults.{accepted_together, half_is_good}
use Rattle.log_mean.specs.declared.Mean.{Mean as Answered}
use Rattle.log_mean.specs.Answers.{answered}
use Rattle.fit.specs.Promise.{Fits, slopes_after, curvatures_after}
use Rattle.demands.specs.Calls.{Fitting, the_fit}
use Rattle.demands.specs.Demands.{IsGiven, Eliminates}
use Rattle.demands.proofs.Jobs.{its_card, card_is}

-- an accepted fit writes the card that its elimination gives
pub eliminates : (f : Fitting) → Fits (the_fit f) f.slopes f.curvatures f.slopes' f.curvatures' f.answer → IsGiven (the_fit f) → Eliminates f
eliminates f fits g =
    let is = its_card f.minutes f.ordinates _ _ f.job g.is ∙ card_is f.job f.minutes f.ordinates in
    record {
      slopes = fits.slopes ∙ ap (λ v. slopes_after v f.slopes) g.is ∙ ap (λ c. c.slopes) is;
      curvatures = fits.curvatures ∙ ap (λ v. curvatures_after v f.curvatures) g.is ∙ ap (λ c. c.curvatures) is;
    }

-- an accepted mean is the stated one, and every byte of the log is counted once
pub mean_given : (first : ℕ) (log : List ℕ) {r : Answered} → r ≡ answered (mean first log) → Bytes log → IsGiven (mean first log)
    → (r.minute ≡ middle first (length log)) × (r.minute ≤ latest) × (r.ordinate ≡ nearest (pos (50 * sum log)) (count log)) × (r.good ≡ count log)
    × (r.faults ≡ faults log) × (r.good + r.faults ≡ length log) × (length log ≤ 2 * r.good)
unfolding mean_of answered Bytes
mean_given first log e bytes g =
    let m = stated first log g.is in
    let is = e ∙ ap answered (g.is ∙ ap given m.is) in
    let at = ap (λ r. r.minute) is in
    let good = ap (λ r. r.good) is in
    let fault = ap (λ r. r.faults) is in
    let all = accepted_together first log g.is (λ i. omega (arith, bytes i)) in
    (at, omega (arith, at, m.in_time), ap (λ r. r.ordinate) is, good, fault, omega (arith, good, fault, all), omega (arith, good, half_is_good first log g.is))
