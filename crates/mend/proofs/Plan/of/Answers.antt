-- `mend::Plan::of` meets its contract. Assumes nothing.
use Rattle.std.proofs.Common.{◌≡◌, ◌<◌, length, get_or, replicate, pos, w16, to_z, of_z, ap, sym, ◌∙◌, refl, arith, rules}
use Rattle.holes.specs.Needs.{most}
use Rattle.mend.specs.Changes.{change_at, changes_to, changes}
use Rattle.mend.specs.Promise.{column, plan_of}
use Rattle.holes.specs.Hole.{is_hole, hole_at}
use Rattle.mend.proofs.Columns.{holds_hole, holds_sound, no_more_changes}
use Rattle.mend.proofs.Plan.of.Goals as goal
use Rattle.mend.proofs.Plan.of.Goals.{After-is_hole, then-is_hole, else-is_hole}

pub loop-i-init : goal.loop-i-init
unfolding changes_to column
loop-i-init c = record { changes_are = ap (replicate most) c.no_change-changes.ensures; count_is = refl }

-- there is a place for another
few : (c : After-is_hole) → c.loop-i.count < most
few c = omega (arith, c.loop-i.invariant.count_is, no_more_changes c.args.sheet.now c.args.mended.now c.loop-i.i, c.requires)

pub offset_bounds-changes-count : goal.offset_bounds-changes-count
offset_bounds-changes-count c = omega (arith, few (goal.at.offset_bounds-changes-count c).After-is_hole)

pub bounds-changes-count : goal.bounds-changes-count
bounds-changes-count c = few (goal.at.bounds-changes-count c).After-is_hole

pub overflow_add-count : goal.overflow_add-count
overflow_add-count c = omega (arith, few (goal.at.overflow_add-count c).After-is_hole)

tested : (c : After-is_hole) → c.is_hole.result ≡ hole_at c.args.sheet.now c.loop-i.i
unfolding hole_at
tested c =
    let y : to_z w16 (of_z w16 (get_or c.args.sheet.now c.loop-i.i (pos 0))) ≡ get_or c.args.sheet.now c.loop-i.i (pos 0) = search rules in
    c.is_hole.ensures ∙ ap is_hole y

pub loop-i-preserved : goal.loop-i-preserved
unfolding change_at
loop-i-preserved c =
    let b = (goal.at.loop-i-preserved c).After-is_hole in
    elim c.if-is_hole.branch [
      | then-is_hole w ↦ holds_hole _ _ _ c.loop-i.invariant (few b) (sym (tested b) ∙ w.if-is_hole.true) (search rules) w.changes-is w.count-is
      | else-is_hole w ↦ holds_sound _ _ _ c.loop-i.invariant (sym (tested b) ∙ w.if-is_hole.false) w.changes-is w.count-is
    ]

pub overflow_cast-result : goal.overflow_cast-result
overflow_cast-result c = omega (arith, c.loop-i.invariant.count_is, no_more_changes c.args.sheet.now c.args.mended.now c.loop-i.i, c.requires)

pub returns : goal.returns
unfolding changes
returns c =
    let h = c.loop-i.invariant in
    let all : c.loop-i.i ≡ length c.args.sheet.now = omega arith in
    rw (h.changes_are, h.count_is) (ap (λ n. plan_of 0 0 (changes_to c.args.sheet.now c.args.mended.now n)) all)
