-- `values::Values::take_words` meets its contract: a word, and those behind it. Assumes nothing.
use Prim.Native.Nat.{ℕ}
use mathlib.Core.Path.{◌≡◌, sym, ap, ◌∙◌}
use native.Mathlib.Omega.{arith}
use lib.ListN.{length}
use Rattle.std.proofs.lemmas.Result.{err_from_is_err_and}
use Rattle.split.specs.Parts.{until}
use Rattle.split.specs.declared.Mark.TheVariants.{Blank}
use Rattle.numeral.specs.Number.{ordinate}
use Rattle.text.specs.Sheet.{left}
use Rattle.values.specs.Values.{taken}
use Rattle.values.proofs.Reading.{no_more, stays_full, next, breaks, shorter}
use Rattle.values.proofs.Values.+take_words.Goals as goal
use Rattle.values.proofs.Values.+take_words.Goals.{After-take}

pub returns-then-first-eq0 : goal.returns-then-first-eq0
unfolding left
returns-then-first-eq0 t c = no_more _ c.past-first.ensures _ _ c.if-first-eq0.true

pub returns-then-self-ge-MOST : goal.returns-then-self-ge-MOST
unfolding left
returns-then-self-ge-MOST t c = stays_full _ c.past-first.ensures c.if-first-eq0.false _ _ c.if-self-ge-MOST.true

pub take_words-requires : goal.take_words-requires
take_words-requires t c = (omega (arith, c.decreases, shorter _ c.past-first.ensures c.if-first-eq0.false, ap length c.past.ensures), tt)

took : (t : ℕ) (c : After-take t)
    → left c.take.result c.take.new.self ≡ taken c.args.self.now c.args.line (ordinate (until Blank c.past-first.result.now))
took t c = rw (c.ordinate.ensures, c.until-word.ensures) at c.take.ensures

pub returns-in_err-take : goal.returns-in_err-take
unfolding left
returns-in_err-take t c =
    let p = err_from_is_err_and c.from_residual.result c.from_residual.ensures.1 in
    let q = (goal.at.returns-in_err-take t c).After-take in
    rw (p.1, p.2) (breaks _ c.past-first.ensures c.if-first-eq0.false _ _ (omega (arith, c.if-self-ge-MOST.false)) (sym (took t q) ∙ ap (λ r. left r q.take.new.self) c.in_err-take.was))

pub returns : goal.returns
unfolding left
returns t c =
    let q = (goal.at.returns t c).After-take in
    c.take_words.ensures
    ∙ rw c.past.ensures (next _ c.past-first.ensures c.if-first-eq0.false _ _ (omega (arith, c.if-self-ge-MOST.false)) (sym (took t q) ∙ ap (λ r. left r q.take.new.self) c.in_ok-take.was))
