-- `unknowns::unknown_at` meets its contract: what its steps accept is worked out.
-- Assumes nothing.
use Rattle.std.proofs.Common.{◌∙◌, sym, ap₂, arith, ℤ, w64}
use Rattle.std.proofs.lemmas.Int.{to_z-of_z}
use borrow.Author.Tests.{leb-false}
use Rattle.answer.specs.Answer.{Answer, given}
use Rattle.answer.proofs.Steps.{refuse_accepts}
use Rattle.curve.specs.Kind.{quintic}
use Rattle.cubic.specs.Cubic.{scale}
use Rattle.unknowns.specs.declared.Unknown.{Unknown}
use Rattle.unknowns.proofs.Ranges.{sound, entered}
use Rattle.unknowns.proofs.Told.{solved}
use Rattle.unknowns.proofs.unknown_at.Goals as goal

pub one_at-requires-clause-sound : goal.one_at-requires-clause-sound
one_at-requires-clause-sound c = sound (sym c.in_ok-check.ensures)

pub one_at-requires-clause-i_in_bounds : goal.one_at-requires-clause-i_in_bounds
one_at-requires-clause-i_in_bounds c = omega (arith, leb-false _ _ (refuse_accepts 11 0 _ (sym c.in_ok-refuse.ensures)))

pub overflow_sub-ys : goal.overflow_sub-ys
unfolding quintic
overflow_sub-ys c = omega (arith, (sound (sym c.in_ok-check.ensures)).least)

pub entry-requires : goal.entry-requires
entry-requires c = entered (sound (sym c.in_ok-check.ensures))

abbrev answer : ℤ → ℤ → Answer Unknown
answer u s = given (record { unknown = u; scale = s })

pub returns : goal.returns
unfolding scale
returns c =
    ap₂ answer (to_z-of_z w64 _ (record { sfits = c.one_at.type_inv }) ∙ c.one_at.ensures) (to_z-of_z w64 _ (record { sfits = c.entry.type_inv }) ∙ c.entry.ensures)
    ∙ sym (solved _ _ (sym c.in_ok-check.ensures) (omega (arith, leb-false _ _ (refuse_accepts 11 0 _ (sym c.in_ok-refuse.ensures)))))
