-- "The promise of a public function leaves its caller one possible outcome" (document 01, "What a promise says"): two that meet a fit's promise are the same.
-- Assumes nothing.
use mathlib.Core.Path.{◌≡◌}
use mathlib.Core.List.{List}
use lib.IntN.{ℤ}
use Rattle.answer.specs.Answer.{Answer}
use Rattle.answer.proofs.Outcome.{one_outcome}
use Rattle.curve.specs.Card.{Card}
use Rattle.fit.specs.declared.Fitted.{Fitted}
use Rattle.fit.specs.Promise.{Fits}

pub one_fit : {fit : Answer Card} {ms Ms ms' Ms' ms'' Ms'' : List ℤ} {r s : Fitted} → Fits fit ms Ms ms' Ms' r → Fits fit ms Ms ms'' Ms'' s → (r ≡ s) × (ms' ≡ ms'') × (Ms' ≡ Ms'')
one_fit f g = (one_outcome f.answer g.answer, one_outcome f.slopes g.slopes, one_outcome f.curvatures g.curvatures)
