-- `opened::Opened::of` meets its contract: decoded where the records are in order, zeros where they are not.
-- Assumes nothing.
use mathlib.Core.Path.{refl, sym, ap, ◌∙◌}
use Rattle.answer.proofs.Chain.{step_refuses, step_passes, step_accepts, step_refused}
use Rattle.curve.specs.Orders.{sound}
use Rattle.knots.specs.Kinds.{kind_of}
use Rattle.decode.specs.Decoded.{Holds}
use Rattle.decode.proofs.Holding.{holds}
use Rattle.opened.specs.Steps.{laid_out}
use Rattle.opened.proofs.Shape.{card_verdict_is, quintic_few, shape_room}
use borrow.Author.Rules.{rules}
use Rattle.opened.proofs.Opened.of.Goals as goal
use Rattle.opened.proofs.Opened.of.Goals.{After-of-held, In-Ok}

pub of-held-requires : goal.of-held-requires
of-held-requires c = shape_room _ quintic_few _ (step_accepts c.shaped.ensures c.in-Ok.is)

opened : (c : After-of-held) → Holds c.of-held.result c.args.card.now
opened c = holds _ (of-held-requires (goal.at.After-of-held c).In-Ok).0 c.of-held.ensures

pub sound-requires : goal.sound-requires
sound-requires c = (opened (goal.at.sound-requires c).After-of-held).full

pub returns-in-Err : goal.returns-in-Err
unfolding laid_out
returns-in-Err c =
    let s = c.args.card.now in
    let v = c.shaped.ensures in
    let r = c.in-Err.is in
    record { kind = refl; judged = step_refuses _ v r ∙ card_verdict_is _ _; card = c.none.ensures ∙ ap (λ u. laid_out u s) (sym (step_refused v r)) }

pub returns-in-Ok : goal.returns-in-Ok
unfolding laid_out
returns-in-Ok c =
    let s = c.args.card.now in
    let K = kind_of c.args.kind in
    let v = c.shaped.ensures in
    let a = c.in-Ok.is in
    record {
      kind = refl;
      judged = step_passes _ v a (c.sound.ensures ∙ ap (sound K) (opened (goal.at.returns-in-Ok c).After-of-held).is) ∙ card_verdict_is _ _;
      card = c.of-held.ensures ∙ ap (λ u. laid_out u s) (sym (step_accepts v a));
    }
