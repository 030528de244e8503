-- What is worked out has one outcome: the numbers are fixed whole; whether there are any, and for what there are none, is told
-- by what they mean. Assumes nothing.
use Prim.Native.Nat.{ℕ}
use mathlib.Core.Path.{◌≡◌, refl, ap, ap₂}
use mathlib.Core.List.{List}
use lib.IntN.{ℤ}
use Rattle.std.specs.Prelude.{Result, Ok, Err, IfOk}
use Rattle.answer.specs.Answer.{refused}
use Rattle.answer.specs.Judge.{Judged, number_of}
use Rattle.answer.specs.declared.Refusal.{Refusal}
use Rattle.answer.proofs.Outcome.{one_outcome, one_judgement}
use Rattle.passes.specs.declared.Job.{Job}
use Rattle.numbers.specs.declared.Numbers.{Numbers}
use Rattle.worked.specs.Jobs.{handed, numbers_by}

module _ (xs : List ℕ) (ys ms : List ℤ) (job : Job) where
  pub one_work : (a b : Result Numbers Refusal) → handed xs ys ms job a ≡ handed xs ys ms job b → IfOk a (λ x. x ≡ numbers_by xs ys ms job) → IfOk b (λ x. x ≡ numbers_by xs ys ms job) → a ≡ b
  one_work (Ok x) (Ok y) e p q = ap Ok (one_outcome p q)
  one_work (Ok x) (Err f) e p q = cc
  one_work (Err r) (Ok y) e p q = cc
  one_work (Err r) (Err f) e p q =
      let number : number_of r.reason ≡ number_of f.reason = cc in
      let place : r.place ≡ f.place = cc in
      ap worked (one_judgement {a = Err r} {b = Err f} (ap₂ refused number place) refl)
    where
      worked : Judged → Result Numbers Refusal
      worked (Ok u) = Err r
      worked (Err g) = Err g
