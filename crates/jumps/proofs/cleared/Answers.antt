-- `cleared` meets its contract.
-- Assumes nothing.
use mathlib.Core.Path.{◌≡◌, sym, ◌∙◌, ap}
use mathlib.Core.Bool.{true, false}
use mathlib.Core.List.{List, [], ◌∷◌}
use lib.Dec.{T}
use lib.IntN.{pos, nat_abs}
use lib.Signed.{◌≤ℤ◌, lt_z}
use mir.Syntax.{w64}
use mir.Val.{SFits}
use Rattle.whole.proofs.Order.{lt_z_true, lt_z_false}
use Rattle.whole.proofs.Solve.{E, ◌:*◌, v0 as h}
use Rattle.whole.proofs.Interval.{Iv, ◌to◌}
use Rattle.whole.proofs.Machine.{held, In, res, safe, step, back, gives}
use Rattle.curve.specs.Curve.{degree}
use Rattle.curve.specs.Jump.{clear}
use Rattle.jumps.specs.Sides.{order_of}
use Rattle.gaps.specs.Limits.{widest}
use Rattle.gaps.proofs.Minutes.{gap_in}
use Rattle.jumps.proofs.Comparing.{clear_none, clear_third, clear_fourth}
use Rattle.jumps.proofs.cleared.Goals as goal
use Rattle.jumps.proofs.cleared.Goals.{Else-h-lt1, In-Fourth, In-Third, Start}

abbrev tops : List Iv
tops = pos 0 to pos widest ∷ []

within : (c : Start) → In w64 (held c.args.h ∷ []) tops
within c = record { each = (gap_in c.requires, tt) }

pub returns-then-h-lt1 : goal.returns-then-h-lt1
returns-then-h-lt1 c =
    let d = (goal.at.returns-then-h-lt1 c).Start in
    sym (clear_none (degree (order_of d.args.order)) d.requires.from (lt_z_true (gives (within d) (h ∷ []) (λ z. lt_z z (pos 1) ≡ true) tt c.if-h-lt1.true)))

wide : (c : Else-h-lt1) → pos 1 ≤ℤ c.args.h
wide c = lt_z_false (gives (within (goal.at.Else-h-lt1 c).Start) (h ∷ []) (λ z. lt_z z (pos 1) ≡ false) tt c.if-h-lt1.false)

-- an operation of either arm
third : (e : E) → T (safe w64 tops e) → (c : In-Third) → SFits w64 (res w64 (held c.args.h ∷ []) e)
third e t c = step (within (goal.at.In-Third c).Start) e t

fourth : (e : E) → T (safe w64 tops e) → (c : In-Fourth) → SFits w64 (res w64 (held c.args.h ∷ []) e)
fourth e t c = step (within (goal.at.In-Fourth c).Start) e t

pub returns-in-Third : goal.returns-in-Third
unfolding degree
returns-in-Third c =
    let a = c.args in
    back (within (goal.at.returns-in-Third c).Start) (h :* h :* h) tt
    ∙ clear_third a.h (wide (goal.at.returns-in-Third c).Else-h-lt1)
    ∙ ap (λ o. pos (clear (nat_abs a.h) (degree (order_of o)))) (sym c.in-Third.is)

pub returns-in-Fourth : goal.returns-in-Fourth
unfolding degree
returns-in-Fourth c =
    let a = c.args in
    back (within (goal.at.returns-in-Fourth c).Start) (h :* h :* h :* h) tt
    ∙ clear_fourth a.h (wide (goal.at.returns-in-Fourth c).Else-h-lt1)
    ∙ ap (λ o. pos (clear (nat_abs a.h) (degree (order_of o)))) (sym c.in-Fourth.is)

pub overflow_mul-result : goal.overflow_mul-result
overflow_mul-result = third (h :* h) tt

pub overflow_mul-result-in-Third : goal.overflow_mul-result-in-Third
overflow_mul-result-in-Third = third (h :* h :* h) tt

pub overflow_mul-result-in-Fourth : goal.overflow_mul-result-in-Fourth
overflow_mul-result-in-Fourth = fourth (h :* h) tt

pub overflow_mul-result-in-Fourth-2 : goal.overflow_mul-result-in-Fourth-2
overflow_mul-result-in-Fourth-2 = fourth (h :* h :* h) tt

pub overflow_mul-result-in-Fourth-3 : goal.overflow_mul-result-in-Fourth-3
overflow_mul-result-in-Fourth-3 = fourth (h :* h :* h :* h) tt
