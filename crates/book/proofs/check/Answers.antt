-- `check` meets its contract, by the walk's answer. Assumes nothing.
use mathlib.Core.Path.{◌∙◌, sym}
use native.Mathlib.Omega.{arith}
use Rattle.book.proofs.Answers.{walk_refused, walk_sound, told_refused, told_bytes}
use Rattle.book.proofs.check.Goals as goal

pub returns-in-Err : goal.returns-in-Err
returns-in-Err c = c.from.ensures ∙ told_refused _ (walk_refused 0 _ (sym c.in-Err.ensures))

pub returns-in-Ok : goal.returns-in-Ok
returns-in-Ok c = told_bytes (walk_sound 0 c.args.book.now (sym c.in-Ok.ensures))

pub overflow_cast-result : goal.overflow_cast-result
overflow_cast-result c = let w = walk_sound 0 c.args.book.now (sym c.in-Ok.ensures) in omega (arith, w.within)
