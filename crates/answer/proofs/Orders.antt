-- An order of checks as the code takes it, one `?` after the other: what is answered where a check refuses, and behind one that accepts.
-- Assumes nothing.
use Rattle.std.specs.Prelude.{◌≡◌, ℕ, Ok, Err, IsErrAnd}
use Rattle.std.proofs.Common.{refl, ap, sym, ◌∙◌}
use Rattle.std.proofs.lemmas.Result.{err_from_is_err_and}
use Rattle.answer.specs.Answer.{Answer, refused, given, Verdict, accepted, ◌then◌}
use Rattle.answer.specs.Judge.{Judged, number_of, verdict_of}
use Rattle.answer.specs.declared.Refusal.{Refusal}

pub then_refused : {A : Type 0} (n p : ℕ) (b : Answer A) → (refused n p then b) ≡ refused n p
unfolding ◌then◌
then_refused n p b = refl

pub then_accepted : {A : Type 0} (b : Answer A) → (accepted then b) ≡ b
unfolding ◌then◌
then_accepted b = refl

-- what a `?` returns where the check refuses
pub exits : (r : Judged) (e : Refusal) → IsErrAnd r (λ d. d ≡ e) → verdict_of r ≡ refused (number_of e.reason) e.place
exits r e h = let p = err_from_is_err_and r h in rw (p.1, p.2)

pub ruleset orders = (then_refused, then_accepted, exits)
