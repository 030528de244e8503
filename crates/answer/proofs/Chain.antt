-- A step of an order as the code takes it: it answers a `Judged`, and where that accepts, what follows.
-- Assumes nothing.
use mathlib.Core.Path.{◌≡◌, sym, ap, ◌∙◌}
use Rattle.answer.specs.Answer.{Answer, refused, Verdict, accepted, ◌then◌}
use Rattle.answer.specs.Judge.{Judged, number_of, verdict_of}
use Rattle.answer.specs.declared.Refusal.{Refusal}
use Rattle.std.specs.Prelude.{Ok, Err}

pub step_accepts : {v : Verdict} {j : Judged} → verdict_of j ≡ v → j ≡ Ok tt → v ≡ accepted
step_accepts e q = sym e ∙ ap verdict_of q

pub step_refused : {v : Verdict} {j : Judged} {r : Refusal} → verdict_of j ≡ v → j ≡ Err r → v ≡ refused (number_of r.reason) r.place
step_refused e q = sym e ∙ ap verdict_of q

module _ {A : Type 0} {v : Verdict} {j : Judged} (b : Answer A) (e : verdict_of j ≡ v) where
  pub step_refuses : {r : Refusal} → j ≡ Err r → refused (number_of r.reason) r.place ≡ (v then b)
  unfolding ◌then◌
  step_refuses q = ap (λ u. u then b) (sym (ap verdict_of q) ∙ e)

  pub step_passes : {a : Answer A} → j ≡ Ok tt → a ≡ b → a ≡ (v then b)
  unfolding ◌then◌
  step_passes q f = f ∙ ap (λ u. u then b) (sym (ap verdict_of q) ∙ e)
