-- What a lent list holds after a refusal, and after an acceptance by which its front was written.
-- Assumes nothing.
use Prim.Native.Nat.{ℕ, ◌+◌, ◌≤◌}
use mathlib.Core.Path.{◌≡◌, refl, ◌∙◌}
use mathlib.Core.List.{List, ◌++◌}
use native.Mathlib.Omega.{arith}
use lib.ListN.{length, drop}
use lib.Seq.{sets, sets-eq}
use Rattle.answer.specs.Answer.{refused, Verdict, accepted}
use Rattle.answer.specs.Lent.{lent_after}

pub after_refused : {A : Type 0} {v : Verdict} {n p : ℕ} (vs list : List A) → v ≡ refused n p → list ≡ lent_after v vs list
unfolding lent_after
after_refused vs list e = rw e

pub after_given : {A : Type 0} {v : Verdict} {n : ℕ} (vs list : List A) {left : List A} → v ≡ accepted → length vs ≡ n → left ≡ vs ++ drop n list → left ≡ lent_after v vs list
unfolding lent_after
after_given vs list p l q = q ∙ rw (p, l)

-- by a run of stores at the front
pub after_stored : {v : Verdict} (vs list : List ℕ) {left : List ℕ} → v ≡ accepted → length vs ≤ length list → left ≡ sets list 0 vs → left ≡ lent_after v vs list
after_stored vs list p l q =
    let z : 0 + length vs ≡ length vs = omega arith in
    after_given vs list p refl (q ∙ rw z at (sets-eq vs list 0 (omega arith)))
