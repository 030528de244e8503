-- `values::Values::read` meets its contract: a loop over the lines. Assumes nothing.
use mathlib.Core.Path.{◌≡◌, sym, ap, ◌∙◌}
use native.Mathlib.Nat.{add_assoc}
use native.Mathlib.Omega.{arith}
use lib.ListN.{drop}
use borrow.Author.Tests.{lt-ltb}
use Rattle.std.proofs.lemmas.Result.{err_from_is_err_and}
use Rattle.split.specs.Parts.{until, words, bare}
use Rattle.split.specs.declared.Mark.TheVariants.{LineEnd}
use Rattle.text.specs.Sheet.{left}
use Rattle.values.specs.Values.{with_words, values}
use Rattle.values.proofs.Reading.{reading_starts, reading_ends, reading_goes_on, reading_breaks}
use Rattle.values.proofs.Values.read.Goals as goal
use Rattle.values.proofs.Values.read.Goals.{After-take_words}

pub returns-then-text-gt-LONGEST : goal.returns-then-text-gt-LONGEST
unfolding values
returns-then-text-gt-LONGEST c = rw (lt-ltb _ _ c.if-text-gt-LONGEST.true)

pub loop-at-init : goal.loop-at-init
loop-at-init c = rw c.new-values.ensures (reading_starts _)

-- the words of the line that was found
took : (c : After-take_words)
    → left c.take_words.result c.take_words.new.self ≡ with_words c.loop-at.values c.loop-at.line (words (bare (until LineEnd (drop c.loop-at.at c.args.text.now))))
took c = rw (c.until.ensures, c.until-found.ensures, c.from.ensures) at c.take_words.ensures

pub returns-in_err-take_words : goal.returns-in_err-take_words
unfolding left
returns-in_err-take_words c =
    let p = err_from_is_err_and c.from_residual.result c.from_residual.ensures.1 in
    let q = (goal.at.returns-in_err-take_words c).After-take_words in
    rw (p.1, p.2) (reading_breaks c.loop-at.invariant (omega arith) (omega arith) (sym (took q) ∙ ap (λ r. left r q.take_words.new.self) c.in_err-take_words.was))

pub loop-at-preserved : goal.loop-at-preserved
unfolding left
loop-at-preserved c =
    let q = (goal.at.loop-at-preserved c).After-take_words in
    rw (c.until-found.ensures, c.from.ensures, ← add_assoc)
    (reading_goes_on c.loop-at.invariant (omega arith) (sym (took q) ∙ ap (λ r. left r q.take_words.new.self) c.in_ok-take_words.was))

pub returns : goal.returns
returns c = reading_ends c.loop-at.invariant (omega arith) (omega arith)
