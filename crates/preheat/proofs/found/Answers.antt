-- `preheat::found` meets its contract: what its steps accept is worked out.
-- Assumes nothing.
use Rattle.std.proofs.Common.{◌≡◌, ◌∙◌, sym, ap, arith, ◌≤◌, nat_abs, ◌*◌, w32, w64, FitsSigned, to_z, of_z}
use Rattle.std.proofs.lemmas.Int.{to_z-of_z}
use Rattle.whole.proofs.Linear.{abs_fits}
use Rattle.answer.specs.Answer.{given}
use Rattle.curve.specs.Kind.{quintic}
use Rattle.unknowns.proofs.Ranges.{sound}
use Rattle.preheat.proofs.Counts.{value_size}
use Rattle.preheat.proofs.Readings.{asked_accepts, answered}
use Rattle.preheat.proofs.found.Goals as goal
use Rattle.preheat.proofs.found.Goals.{After-value_in}

pub asked-requires : goal.asked-requires
unfolding quintic
asked-requires c = let s = sound (sym c.in_ok-check.ensures) in (omega (arith, s.least), omega (arith, s.most))

pub value_in-requires-clause-sound : goal.value_in-requires-clause-sound
value_in-requires-clause-sound c = sound (sym c.in_ok-check.ensures)

pub value_in-requires-clause-fewest_parts_le_parts : goal.value_in-requires-clause-fewest_parts_le_parts
value_in-requires-clause-fewest_parts_le_parts c = let a = asked_accepts _ _ _ (sym c.in_ok-asked.ensures) in (a.least, a.most, a.within)

small : (c : After-value_in) → nat_abs c.value_in.result ≤ 3 * quintic.ordinates
small c =
    let a = asked_accepts _ _ _ (sym c.in_ok-asked.ensures) in
    rw c.value_in.ensures (value_size (sound (sym c.in_ok-check.ensures)) a.least a.within)

kept : (c : After-value_in) → FitsSigned w32 c.value_in.result
unfolding quintic
kept c = abs_fits (omega (arith, small c))

wide : (c : After-value_in) → to_z w64 (of_z w64 c.value_in.result) ≡ c.value_in.result
wide c = to_z-of_z w64 _ (record { sfits = c.value_in.type_inv })

pub overflow_cast-result : goal.overflow_cast-result
overflow_cast-result c = rw (wide c) (kept c)

pub returns : goal.returns
returns c =
    ap (λ z. given (to_z w32 (of_z w32 z))) (wide c)
    ∙ ap given (to_z-of_z w32 c.value_in.result (kept c) ∙ c.value_in.ensures)
    ∙ sym (answered _ _ _ (sym c.in_ok-check.ensures) (sym c.in_ok-asked.ensures))
