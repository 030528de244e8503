-- `values::first_wrong` meets its contract: a word, or what is found behind it. Assumes nothing.
use mathlib.Core.Path.{sym, ap, ◌∙◌}
use native.Mathlib.Omega.{arith}
use lib.ListN.{length}
use Rattle.std.specs.Prelude.{Ok}
use Rattle.numeral.specs.Number.{ordinate}
use Rattle.values.proofs.Reading.{no_wrong, goes_past, stops_at_hole, stops_at_wrong, shorter}
use Rattle.values.proofs.+first_wrong.Goals as goal

pub returns-then-first-eq0 : goal.returns-then-first-eq0
returns-then-first-eq0 t c = no_wrong _ c.past-first.ensures c.if-first-eq0.true

pub first_wrong-requires : goal.first_wrong-requires
first_wrong-requires t c = (omega (arith, c.decreases, shorter _ c.past-first.ensures c.if-first-eq0.false, ap length c.past.ensures), tt)

pub returns-in-Ok-Some : goal.returns-in-Ok-Some
returns-in-Ok-Some t c =
    c.first_wrong.ensures
    ∙ rw c.past.ensures
    (goes_past _ c.past-first.ensures c.if-first-eq0.false (sym (ap ordinate c.until-word.ensures) ∙ sym c.ordinate.ensures ∙ c.in-Ok-Some.is ∙ ap Ok c.in-Ok-Some.field-0-is))

pub returns-in-Ok-None : goal.returns-in-Ok-None
returns-in-Ok-None t c =
    c.until-word.ensures
    ∙ stops_at_hole _ c.past-first.ensures c.if-first-eq0.false (sym (ap ordinate c.until-word.ensures) ∙ sym c.ordinate.ensures ∙ c.in-Ok-None.is ∙ ap Ok c.in-Ok-None.field-0-is)

pub returns-in-Err : goal.returns-in-Err
returns-in-Err t c =
    c.until-word.ensures
    ∙ stops_at_wrong _ c.past-first.ensures c.if-first-eq0.false (sym (ap ordinate c.until-word.ensures) ∙ sym c.ordinate.ensures ∙ c.in-Err.is)
