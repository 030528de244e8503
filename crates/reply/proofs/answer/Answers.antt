-- `reply::answer` meets its contract, by what the reading of the text and the gathering of its knots answer. Assumes nothing.
use mathlib.Core.Path.{◌≡◌, sym, ◌∙◌}
use mathlib.Core.Bool.{false}
use native.Mathlib.Omega.{arith}
use Rattle.std.specs.Prelude.{Ok}
use Rattle.text.specs.Sheet.{sheet}
use Rattle.text.proofs.Room.{Roomy as SheetRoomy, roomy as sheet-roomy}
use Rattle.reply.specs.Reply.{sheet_reply}
use Rattle.reply.proofs.Gathers.{Roomy, roomy}
use Rattle.reply.proofs.Lists.{minutes_hold, ordinates_hold, list_holds, as_many_minutes, as_many_ordinates, as_many_zeros, as_many_of, few_minutes, one_length}
use Rattle.reply.proofs.Replies.{answers_as, replies_wrong, replies_log, replies_slopes, sheet_first_faults, replies_knots}
use Rattle.reply.proofs.answer.Goals as goal
use Rattle.reply.proofs.answer.Goals.{After-gathered-all, In-Ok}

read : (c : In-Ok) → sheet false c.args.text.now ≡ Ok c.in-Ok.sheet
read c = sym c.requires.0 ∙ c.in-Ok.is

roomy_sheet : (c : In-Ok) → SheetRoomy c.in-Ok.sheet
roomy_sheet c = rw (read c) at (sheet-roomy false c.args.text.now)

its_sheet : (c : After-gathered-all) → SheetRoomy c.in-Ok.sheet
its_sheet c = roomy_sheet (goal.at.After-gathered-all c).In-Ok

room : (c : After-gathered-all) → Roomy c.gathered-all.result
room c = rw c.gathered-all.ensures (roomy _ _ (its_sheet c).few)

pub returns-in-Err : goal.returns-in-Err
returns-in-Err c = replies_wrong (sheet_reply c.args.left c.args.right) c.args.text.now _ c.args.card.now (sym c.requires.0 ∙ c.in-Err.is) c.complain.ensures

pub gathered-all-requires : goal.gathered-all-requires
gathered-all-requires c = (roomy_sheet (goal.at.gathered-all-requires c).In-Ok).few

pub returns-then-all-ne0 : goal.returns-then-all-ne0
returns-then-all-ne0 c =
    let g = (goal.at.returns-then-all-ne0 c).After-gathered-all in
    replies_log (sheet_reply g.args.left g.args.right) g.args.text.now _ g.args.card.now (read (goal.at.After-gathered-all g).In-Ok) g.gathered-all.ensures c.if-all-ne0.true c.refuse_knots.ensures

pub slice_bounds-minutes-end : goal.slice_bounds-minutes-end
slice_bounds-minutes-end c = minutes_hold (room (goal.at.slice_bounds-minutes-end c).After-gathered-all)

pub slice_bounds-sheet_lists-end : goal.slice_bounds-sheet_lists-end
slice_bounds-sheet_lists-end c = as_many_minutes (room (goal.at.slice_bounds-sheet_lists-end c).After-gathered-all)

pub slice_bounds-ordinates-end : goal.slice_bounds-ordinates-end
slice_bounds-ordinates-end c = ordinates_hold (room (goal.at.slice_bounds-ordinates-end c).After-gathered-all)

pub slice_bounds-sheet_lists-end-2 : goal.slice_bounds-sheet_lists-end-2
slice_bounds-sheet_lists-end-2 c = as_many_ordinates (room (goal.at.slice_bounds-sheet_lists-end-2 c).After-gathered-all)

pub slice_bounds-given-end : goal.slice_bounds-given-end
slice_bounds-given-end c = let g = (goal.at.slice_bounds-given-end c).After-gathered-all in list_holds (room g) g.in-Ok.sheet.slopes (its_sheet g).slopes

pub slice_bounds-sheet_lists-end-3 : goal.slice_bounds-sheet_lists-end-3
slice_bounds-sheet_lists-end-3 c = let g = (goal.at.slice_bounds-sheet_lists-end-3 c).After-gathered-all in as_many_of (room g) g.in-Ok.sheet.slopes (its_sheet g).slopes

pub slice_bounds-slopes-end : goal.slice_bounds-slopes-end
slice_bounds-slopes-end c = (room (goal.at.slice_bounds-slopes-end c).After-gathered-all).few

pub slice_bounds-sheet_lists-end-4 : goal.slice_bounds-sheet_lists-end-4
slice_bounds-sheet_lists-end-4 c = as_many_zeros (room (goal.at.slice_bounds-sheet_lists-end-4 c).After-gathered-all)

pub slice_bounds-curvatures-end : goal.slice_bounds-curvatures-end
slice_bounds-curvatures-end c = (room (goal.at.slice_bounds-curvatures-end c).After-gathered-all).few

pub slice_bounds-sheet_lists-end-5 : goal.slice_bounds-sheet_lists-end-5
slice_bounds-sheet_lists-end-5 c = as_many_zeros (room (goal.at.slice_bounds-sheet_lists-end-5 c).After-gathered-all)

pub sheet_lists-requires : goal.sheet_lists-requires
sheet_lists-requires c =
    let g = (goal.at.sheet_lists-requires c).After-gathered-all in
    let r = room g in
    let alike = one_length r in
    record {
      ordinates_len = (alike.0, sym (as_many_of r g.in-Ok.sheet.slopes (its_sheet g).slopes) ∙ as_many_minutes r, alike.1, alike.2);
      minutes_len_bound = (few_minutes r, g.requires.1);
    }

pub returns : goal.returns
returns c =
    let g = (goal.at.returns c).After-gathered-all in
    let a = g.in-Ok.sheet in
    let accepted : g.gathered-all.result.number ≡ 0 = omega (arith, c.if-all-ne0.false) in
    answers_as
    (replies_slopes a.sloped g.args.left g.args.right a.slopes _ (as_many_minutes (room g)) _ _ _ _ _ _
    ∙ sheet_first_faults a.sloped g.args.left g.args.right a.slopes _ (as_many_minutes (room g)) _ _ _ _ _ _
    ∙ replies_knots (sheet_reply g.args.left g.args.right) g.args.text.now _ g.args.card.now (read (goal.at.After-gathered-all g).In-Ok) g.gathered-all.ensures accepted)
    c.sheet_lists.ensures
