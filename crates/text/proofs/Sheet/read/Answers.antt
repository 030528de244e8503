-- `text::Sheet::read` meets its contract: a loop over the lines. Assumes nothing.
use mathlib.Core.Path.{◌≡◌, sym, ap, ◌∙◌}
use native.Mathlib.Omega.{arith}
use lib.ListN.{drop}
use native.Mathlib.Nat.{add_assoc}
use Rattle.std.proofs.lemmas.Result.{err_from_is_err_and}
use borrow.Author.Tests.{lt-ltb}
use Rattle.split.specs.Parts.{until}
use Rattle.split.specs.declared.Mark.TheVariants.{LineEnd}
use Rattle.text.specs.Sheet.{left, with_line, sheet}
use Rattle.text.proofs.Readings.{reading_starts, reading_stops, reading_ends, reading_goes_on, reading_breaks}
use Rattle.text.proofs.Sheet.read.Goals as goal
use Rattle.text.proofs.Sheet.read.Goals.{After-take_line}

pub returns-then-text-gt-LONGEST : goal.returns-then-text-gt-LONGEST
unfolding sheet
returns-then-text-gt-LONGEST c = rw (lt-ltb _ _ c.if-text-gt-LONGEST.true)

pub loop-sheet-init : goal.loop-sheet-init
loop-sheet-init c = rw c.new-sheet.ensures (reading_starts _ _)

-- the line that was found
took : (c : After-take_line)
    → left c.take_line.result c.take_line.new.self ≡ with_line c.args.mends c.loop-sheet.sheet c.loop-sheet.line (until LineEnd (drop c.loop-sheet.at c.args.text.now))
took c = rw (c.until-found.ensures, c.from.ensures) at c.take_line.ensures

pub returns-in_err-take_line : goal.returns-in_err-take_line
unfolding left
returns-in_err-take_line c =
    let p = err_from_is_err_and c.from_residual.result c.from_residual.ensures.1 in
    let q = (goal.at.returns-in_err-take_line c).After-take_line in
    rw (p.1, p.2) (reading_breaks c.loop-sheet.invariant c.loop-sheet-test.true c.if-at-text.true (omega arith) (sym (took q) ∙ ap (λ r. left r q.take_line.new.self) c.in_err-take_line.was))

pub loop-sheet-preserved : goal.loop-sheet-preserved
unfolding left
loop-sheet-preserved c =
    let q = (goal.at.loop-sheet-preserved c).After-take_line in
    rw (c.until-found.ensures, c.from.ensures, ← add_assoc)
    (reading_goes_on c.loop-sheet.invariant c.loop-sheet-test.true c.if-at-text.true (sym (took q) ∙ ap (λ r. left r q.take_line.new.self) c.in_ok-take_line.was))

pub returns-else-at-text : goal.returns-else-at-text
returns-else-at-text c = reading_ends c.loop-sheet.invariant (omega arith) c.if-at-text.false

pub returns-after-loop-sheet : goal.returns-after-loop-sheet
returns-after-loop-sheet c = reading_stops c.loop-sheet.invariant (omega arith) c.loop-sheet-test.false
