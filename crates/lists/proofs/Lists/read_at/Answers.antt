-- `Lists::read_at` meets its contract: 11, then the reading of the minute's gap.
-- Assumes nothing.
use mathlib.Core.Path.{◌≡◌, sym, ◌∙◌, ap, ap₂}
use Rattle.answer.specs.Answer.{given, ◌then◌}
use Rattle.curve.specs.Reading.{reads_at, spell, gap_of}
use Rattle.curve.specs.Orders.{reading_order}
use Rattle.minutes.specs.declared.Left.{Left}
use Rattle.minutes.specs.Search.{found}
use Rattle.knots.specs.Lent.{lent}
use Rattle.lists.specs.Lists.{InPlace, answered, answer_at, spell_of}
use Rattle.lists.proofs.Settled.{found_place}
use Rattle.lists.proofs.Lists.read_at.Goals as goal
use Rattle.lists.proofs.Lists.read_at.Goals.{After-find}

-- the gap that the looks leave is the minute's
left_is : (c : After-find) → (let a = c.args in (c.find.result.first ≡ gap_of a.self.minutes.now a.minute) × InPlace a.self.minutes.now c.find.result.first a.minute)
left_is c = found_place c.args.self.checked c.requires (sym c.in-Ok.ensures) c.find.ensures

pub read_gap-requires : goal.read_gap-requires
read_gap-requires c = (left_is c).1

pub returns-in-Ok : goal.returns-in-Ok
unfolding answer_at reading_order reads_at spell ◌then◌
returns-in-Ok c left right =
    let a = c.args in
    let s = a.self in
    let card = lent s.minutes.now s.ordinates.now s.slopes.now s.curvatures.now left right in
    let looks = (found s.minutes.now a.minute).looks in
    c.read_gap.ensures left right
    ∙ ap₂ (λ n i. answered n (given (spell_of card i a.minute))) (ap (λ (l : Left). l.looks) c.find.ensures) (left_is (goal.at.returns-in-Ok c).After-find).0
    ∙ ap (λ v. answered looks (v then given (spell_of card (gap_of s.minutes.now a.minute) a.minute))) c.in-Ok.ensures

pub returns-in-Err : goal.returns-in-Err
unfolding answer_at reading_order ◌then◌
returns-in-Err c left right =
    let a = c.args in
    let s = a.self in
    let card = lent s.minutes.now s.ordinates.now s.slopes.now s.curvatures.now left right in
    c.from.ensures
    ∙ ap (λ v. answered (found s.minutes.now a.minute).looks (v then given (reads_at card a.minute))) c.in-Err.ensures
