-- `text::blamed_word` meets its contract, word by word. Assumes nothing.
use mathlib.Core.Path.{◌≡◌, ap, ◌∙◌}
use Rattle.split.specs.Parts.{past}
use Rattle.split.specs.declared.Mark.TheVariants.{Blank, Word}
use Rattle.text.proofs.Blames.{blames_none, blames_one, blames_two, blames_three, blames_four}
use Rattle.text.proofs.blamed_word.Goals as goal
use Rattle.text.proofs.blamed_word.Goals.{After-past-fourth, After-past-second, After-past-third, After-until-minute, After-until-word, Else-first-eq0, Else-fourth-gt0, Else-second-eq0, Else-third-eq0, Then-fourth-gt0, Then-third-eq0}

second : (c : After-past-second) → c.past-second.result.now ≡ past Word (past Blank c.past-first.result.now)
second c = c.past-second.ensures ∙ ap (past Word) c.past.ensures

third : (c : After-past-third) → c.past-third.result.now ≡ past Word (past Blank c.past-second.result.now)
third c = c.past-third.ensures ∙ ap (past Word) c.past-2.ensures

fourth : (c : After-past-fourth) → c.past-fourth.result.now ≡ past Word (past Blank c.past-third.result.now)
fourth c = c.past-fourth.ensures ∙ ap (past Word) c.past-3.ensures

pub returns-then-first-eq0 : goal.returns-then-first-eq0
returns-then-first-eq0 c = blames_none _ c.past-first.ensures c.if-first-eq0.true

pub returns-then-second-eq0 : goal.returns-then-second-eq0
returns-then-second-eq0 c =
    let u = (goal.at.returns-then-second-eq0 c).After-until-minute in
    let q = (goal.at.After-until-minute u).Else-first-eq0 in
    u.until-minute.ensures ∙ blames_one _ q.past-first.ensures q.if-first-eq0.false (second (goal.at.returns-then-second-eq0 c).After-past-second) c.if-second-eq0.true

pub returns-then-third-eq0 : goal.returns-then-third-eq0
returns-then-third-eq0 c =
    let e = (goal.at.returns-then-third-eq0 c).Then-third-eq0 in
    let v = (goal.at.Then-third-eq0 e).After-until-word in
    let r = (goal.at.After-until-word v).Else-second-eq0 in
    let u = (goal.at.Else-second-eq0 r).After-until-minute in
    let q = (goal.at.After-until-minute u).Else-first-eq0 in
    c.blamed_two.ensures ∙ rw (u.until-minute.ensures, v.until-word.ensures)
    (blames_two _ q.past-first.ensures q.if-first-eq0.false (second (goal.at.Else-second-eq0 r).After-past-second) r.if-second-eq0.false (third (goal.at.Then-third-eq0 e).After-past-third) e.if-third-eq0.true)

pub returns-then-fourth-gt0 : goal.returns-then-fourth-gt0
returns-then-fourth-gt0 c =
    let d = (goal.at.returns-then-fourth-gt0 c).Then-fourth-gt0 in
    let e = (goal.at.Then-fourth-gt0 d).Else-third-eq0 in
    let r = (goal.at.Else-third-eq0 e).Else-second-eq0 in
    let q = (goal.at.Else-second-eq0 r).Else-first-eq0 in
    c.until.ensures ∙ blames_four _ q.past-first.ensures q.if-first-eq0.false (second (goal.at.Else-second-eq0 r).After-past-second) r.if-second-eq0.false (third (goal.at.Else-third-eq0 e).After-past-third) e.if-third-eq0.false (fourth (goal.at.Then-fourth-gt0 d).After-past-fourth) d.if-fourth-gt0.true

pub returns : goal.returns
returns c =
    let d = (goal.at.returns c).Else-fourth-gt0 in
    let e = (goal.at.Else-fourth-gt0 d).Else-third-eq0 in
    let v = (goal.at.Else-third-eq0 e).After-until-word in
    let r = (goal.at.After-until-word v).Else-second-eq0 in
    let u = (goal.at.Else-second-eq0 r).After-until-minute in
    let q = (goal.at.After-until-minute u).Else-first-eq0 in
    c.blamed_three.ensures ∙ rw (u.until-minute.ensures, v.until-word.ensures, c.until-2.ensures)
    (blames_three _ q.past-first.ensures q.if-first-eq0.false (second (goal.at.Else-second-eq0 r).After-past-second) r.if-second-eq0.false (third (goal.at.Else-third-eq0 e).After-past-third) e.if-third-eq0.false (fourth (goal.at.Else-fourth-gt0 d).After-past-fourth) d.if-fourth-gt0.false)
