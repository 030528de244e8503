-- `text::Line::of_words` meets its contract, word by word. Assumes nothing.
use mathlib.Core.Path.{◌≡◌, ap, ◌∙◌}
use Rattle.split.specs.Parts.{words, past, until}
use Rattle.numeral.specs.Number.{signed_number}
use Rattle.std.proofs.lemmas.Result.{err_from_is_err_and}
use Rattle.text.specs.Sheet.{knot, with_slope, line_by}
use Rattle.split.specs.declared.Mark.TheVariants.{Blank, Word}
use Rattle.text.proofs.Lines.{no_words, one_word, two_words, three_words, four_words}
use Rattle.text.proofs.Line.of_words.Goals as goal
use Rattle.text.proofs.Line.of_words.Goals.{After-knot-two, After-past-fourth, After-past-second, After-past-third, Else-first-eq0, Else-fourth-gt0, Else-second-eq0, Else-third-eq0}

second : (c : After-past-second) → c.past-second.result.now ≡ past Word (past Blank c.past-first.result.now)
second c = c.past-second.ensures ∙ ap (past Word) c.past.ensures

third : (c : After-past-third) → c.past-third.result.now ≡ past Word (past Blank c.past-second.result.now)
third c = c.past-third.ensures ∙ ap (past Word) c.past-2.ensures

fourth : (c : After-past-fourth) → c.past-fourth.result.now ≡ past Word (past Blank c.past-third.result.now)
fourth c = c.past-fourth.ensures ∙ ap (past Word) c.past-3.ensures

-- the knot of the first two words
pair : (c : After-knot-two)
    → c.knot-two.result ≡ knot (until Blank c.past-first.result.now) (until Blank c.past-second.result.now)
pair c = c.knot-two.ensures ∙ rw (c.until.ensures, c.until-2.ensures)

pub returns-then-first-eq0 : goal.returns-then-first-eq0
returns-then-first-eq0 c = no_words _ c.past-first.ensures c.if-first-eq0.true

pub returns-then-second-eq0 : goal.returns-then-second-eq0
returns-then-second-eq0 c =
    let q = (goal.at.returns-then-second-eq0 c).Else-first-eq0 in
    one_word _ q.past-first.ensures q.if-first-eq0.false (second (goal.at.returns-then-second-eq0 c).After-past-second) c.if-second-eq0.true

pub returns-then-third-eq0 : goal.returns-then-third-eq0
returns-then-third-eq0 c =
    let k = (goal.at.returns-then-third-eq0 c).After-knot-two in
    let r = (goal.at.After-knot-two k).Else-second-eq0 in
    let q = (goal.at.Else-second-eq0 r).Else-first-eq0 in
    pair k ∙ two_words _ q.past-first.ensures q.if-first-eq0.false (second (goal.at.Else-second-eq0 r).After-past-second) r.if-second-eq0.false (third (goal.at.returns-then-third-eq0 c).After-past-third) c.if-third-eq0.true

pub returns-then-fourth-gt0 : goal.returns-then-fourth-gt0
returns-then-fourth-gt0 c =
    let e = (goal.at.returns-then-fourth-gt0 c).Else-third-eq0 in
    let r = (goal.at.Else-third-eq0 e).Else-second-eq0 in
    let q = (goal.at.Else-second-eq0 r).Else-first-eq0 in
    four_words _ q.past-first.ensures q.if-first-eq0.false (second (goal.at.Else-second-eq0 r).After-past-second) r.if-second-eq0.false (third (goal.at.Else-third-eq0 e).After-past-third) e.if-third-eq0.false (fourth (goal.at.returns-then-fourth-gt0 c).After-past-fourth) c.if-fourth-gt0.true

-- three words, where there is no fourth
all : (c : Else-fourth-gt0)
    → with_slope c.knot-two.result (signed_number (until Blank c.past-third.result.now)) ≡ line_by (words c.args.text.now)
all d =
    let e = (goal.at.Else-fourth-gt0 d).Else-third-eq0 in
    let k = (goal.at.Else-third-eq0 e).After-knot-two in
    let r = (goal.at.After-knot-two k).Else-second-eq0 in
    let q = (goal.at.Else-second-eq0 r).Else-first-eq0 in
    rw (pair k)
    (three_words _ q.past-first.ensures q.if-first-eq0.false (second (goal.at.Else-second-eq0 r).After-past-second) r.if-second-eq0.false (third (goal.at.Else-third-eq0 e).After-past-third) e.if-third-eq0.false (fourth (goal.at.Else-fourth-gt0 d).After-past-fourth) d.if-fourth-gt0.false)

pub returns-in_err-two : goal.returns-in_err-two
unfolding with_slope
returns-in_err-two c =
    let p = err_from_is_err_and c.from_residual.result c.from_residual.ensures.1 in
    rw (p.1, p.2) (rw c.in_err-two.was at (all (goal.at.returns-in_err-two c).Else-fourth-gt0))

pub returns : goal.returns
returns c = c.with_slope.ensures ∙ rw (← c.in_ok-two.was, c.signed.ensures, c.until-3.ensures) (all (goal.at.returns c).Else-fourth-gt0)
