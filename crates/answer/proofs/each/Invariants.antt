-- `answer::each`: the places before i are accepted.
-- Assumes nothing.
use Rattle.std.proofs.Common.{ℕ}
use Rattle.answer.specs.Answer.{Verdict}
use Rattle.answer.specs.Judge.{AnswersAs}
use Rattle.answer.proofs.Loops.{Rest}
use Rattle.answer.proofs.each.Given as goal

abbrev pub invariant-loop-i : goal.invariant-loop-i
invariant-loop-i g l = (step : ℕ → Verdict) → AnswersAs (λ i. g.F.Fn.post l.check (i, tt)) l.n step → Rest step l.n l.i
