-- `worked::judge` meets its contract. Assumes nothing.
use Rattle.std.proofs.Common.{ℕ, length, take, sym, ap, ap₂, ◌∙◌}
use Rattle.curve.specs.Card.{Card}
use Rattle.curve.specs.Orders.{numbers_sound}
use Rattle.knots.specs.Kinds.{kind_of}
use Rattle.knots.specs.Lent.{lent}
use Rattle.knots.proofs.Carried.{quintic_is, sloped_is}
use Rattle.worked.specs.Jobs.{kind_by, card_with}
use Rattle.worked.proofs.judge.Goals as goal

pub returns-in-Ends : goal.returns-in-Ends
returns-in-Ends c =
    let s = c.args in
    let n = length s.minutes.now in
    let card : ℕ → ℕ → Card = λ l r. lent s.minutes.now s.ordinates.now (take n s.numbers.now.slopes) (take n s.numbers.now.curvatures) l r in
    c.numbers_sound.ensures
    ∙ ap (λ k. numbers_sound (kind_of k) (card c.code.result c.code-in-Ends.result)) c.quintic.ensures
    ∙ ap₂ numbers_sound quintic_is (ap₂ card c.code.ensures c.code-in-Ends.ensures)
    ∙ sym (ap (λ j. numbers_sound (kind_by j) (card_with s.minutes.now s.ordinates.now s.slopes.now j s.numbers.now)) c.in-Ends.is)

pub returns-in-Slopes : goal.returns-in-Slopes
returns-in-Slopes c =
    let s = c.args in
    let card = lent s.minutes.now s.ordinates.now s.slopes.now (take (length s.minutes.now) s.numbers.now.curvatures) 0 0 in
    c.numbers_sound-in-Slopes.ensures
    ∙ ap (λ k. numbers_sound (kind_of k) card) c.sloped.ensures
    ∙ ap (λ K. numbers_sound K card) sloped_is
    ∙ sym (ap (λ j. numbers_sound (kind_by j) (card_with s.minutes.now s.ordinates.now s.slopes.now j s.numbers.now)) c.in-Slopes.is)
