-- `answer::first` meets its contract. Assumes nothing.
use Rattle.std.proofs.Common.{◌≡◌, Ok, Err, refl, ap, ◌∙◌}
use Rattle.std.specs.Result.{result_and}
use Rattle.answer.specs.Answer.{◌then◌}
use Rattle.answer.specs.Judge.{Judged, verdict_of}
use Rattle.answer.proofs.first.Goals as goal

then_and : (step next : Judged) → verdict_of (result_and step next) ≡ (verdict_of step then verdict_of next)
unfolding ◌then◌
then_and (Ok u) next = refl
then_and (Err r) next = refl

pub returns : goal.returns
returns c = ap verdict_of c.and.ensures ∙ then_and c.args.step c.args.next
