-- `reply::mend` meets its contract, by what the reading of the text and the gathering of its knots answer. Assumes nothing.
use mathlib.Core.Path.{◌≡◌, sym, ◌∙◌}
use mathlib.Core.Bool.{true}
use native.Mathlib.Omega.{arith}
use Rattle.std.specs.Prelude.{Ok}
use Rattle.text.specs.Sheet.{sheet}
use Rattle.text.proofs.Room.{Roomy as SheetRoomy, roomy as sheet-roomy}
use Rattle.reply.specs.Mending.{mend_reply, lines_of}
use Rattle.reply.proofs.Gathers.{Roomy, roomy}
use Rattle.reply.proofs.Lists.{minutes_hold, ordinates_hold, as_many_minutes, as_many_ordinates, as_many_zeros, few_minutes, one_length}
use Rattle.reply.proofs.Replies.{answers_as, replies_first_faults, replies_wrong, replies_log, replies_knots, plans_nothing, plans_log, plans_knots}
use Rattle.reply.proofs.mend.Goals as goal
use Rattle.reply.proofs.mend.Goals.{After-gathered-all, In-Ok}

read : (c : In-Ok) → sheet true c.args.text.now ≡ Ok c.in-Ok.sheet
read c = sym c.requires.0 ∙ c.in-Ok.is

roomy_sheet : (c : In-Ok) → SheetRoomy c.in-Ok.sheet
roomy_sheet c = rw (read c) at (sheet-roomy true c.args.text.now)

room : (c : After-gathered-all) → Roomy c.gathered-all.result
room c = rw c.gathered-all.ensures (roomy _ _ (roomy_sheet (goal.at.After-gathered-all c).In-Ok).few)

its_lines : (c : In-Ok) → c.in-Ok.sheet.lines ≡ lines_of c.args.sheet
unfolding lines_of
its_lines c = rw c.in-Ok.is

pub returns-in-Err : goal.returns-in-Err
unfolding lines_of
returns-in-Err c =
    let e = sym c.requires.0 ∙ c.in-Err.is in
    record {
      answers = replies_wrong (λ a. mend_reply) c.args.text.now _ c.args.card.now e c.complain.ensures;
      changes = c.unchanged.ensures ∙ plans_nothing _ e;
      lines = rw c.in-Err.is;
    }

pub gathered-all-requires : goal.gathered-all-requires
gathered-all-requires c = (roomy_sheet (goal.at.gathered-all-requires c).In-Ok).few

pub returns-then-all-ne0 : goal.returns-then-all-ne0
returns-then-all-ne0 c =
    let g = (goal.at.returns-then-all-ne0 c).After-gathered-all in
    let o = (goal.at.After-gathered-all g).In-Ok in
    record {
      answers = replies_log (λ a. mend_reply) g.args.text.now _ g.args.card.now (read o) g.gathered-all.ensures c.if-all-ne0.true c.refuse_knots.ensures;
      changes = c.unchanged-then-all-ne0.ensures ∙ plans_log _ (read o) g.gathered-all.ensures c.if-all-ne0.true;
      lines = its_lines o;
    }

pub slice_bounds-minutes-end : goal.slice_bounds-minutes-end
slice_bounds-minutes-end c = minutes_hold (room (goal.at.slice_bounds-minutes-end c).After-gathered-all)

pub slice_bounds-mend_lists-end : goal.slice_bounds-mend_lists-end
slice_bounds-mend_lists-end c = as_many_minutes (room (goal.at.slice_bounds-mend_lists-end c).After-gathered-all)

pub slice_bounds-ordinates-end : goal.slice_bounds-ordinates-end
slice_bounds-ordinates-end c = ordinates_hold (room (goal.at.slice_bounds-ordinates-end c).After-gathered-all)

pub slice_bounds-mend_lists-end-2 : goal.slice_bounds-mend_lists-end-2
slice_bounds-mend_lists-end-2 c = as_many_ordinates (room (goal.at.slice_bounds-mend_lists-end-2 c).After-gathered-all)

pub slice_bounds-slopes-end : goal.slice_bounds-slopes-end
slice_bounds-slopes-end c = (room (goal.at.slice_bounds-slopes-end c).After-gathered-all).few

pub slice_bounds-mend_lists-end-3 : goal.slice_bounds-mend_lists-end-3
slice_bounds-mend_lists-end-3 c = as_many_zeros (room (goal.at.slice_bounds-mend_lists-end-3 c).After-gathered-all)

pub slice_bounds-curvatures-end : goal.slice_bounds-curvatures-end
slice_bounds-curvatures-end c = (room (goal.at.slice_bounds-curvatures-end c).After-gathered-all).few

pub slice_bounds-mend_lists-end-4 : goal.slice_bounds-mend_lists-end-4
slice_bounds-mend_lists-end-4 c = as_many_zeros (room (goal.at.slice_bounds-mend_lists-end-4 c).After-gathered-all)

pub mend_lists-requires : goal.mend_lists-requires
mend_lists-requires c =
    let r = room (goal.at.mend_lists-requires c).After-gathered-all in record { ordinates_len = one_length r; minutes_len_bound = (few_minutes r, c.requires.1) }

pub returns : goal.returns
returns c =
    let g = (goal.at.returns c).After-gathered-all in
    let o = (goal.at.After-gathered-all g).In-Ok in
    let accepted : g.gathered-all.result.number ≡ 0 = omega (arith, c.if-all-ne0.false) in
    let m = c.mend_lists.ensures in
    record {
      answers = answers_as (replies_first_faults _ _ _ _ _ _ _ (as_many_minutes (room g)) ∙ replies_knots (λ a. mend_reply) g.args.text.now _ g.args.card.now (read o) g.gathered-all.ensures accepted) m.answers;
      changes = m.changes ∙ plans_knots _ (read o) g.gathered-all.ensures accepted;
      lines = m.lines ∙ its_lines o;
    }
