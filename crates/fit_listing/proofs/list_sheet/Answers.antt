-- `fit_listing::list_sheet` meets its contract, by the sheet's number. Assumes nothing.
use Prim.Native.Nat.{◌≤◌}
use mathlib.Core.Path.{◌≡◌, ◌∙◌, sym}
use native.Mathlib.Omega.{arith}
use lib.IntN.{pos}
use lib.ListN.{length, replicate}
use lib.Seq.{length-take-le}
use Rattle.listing.proofs.Lengths.{length_refused_line}
use Rattle.gather.specs.declared.Gathered.{Gathered}
use Rattle.gather.specs.Gathered.{most}
use Rattle.fit_listing.proofs.Listings.{listed_refused, listed_of_all_faults}
use borrow.Author.Rules.{rules}
use Rattle.fit_listing.proofs.list_sheet.Goals as goal
use Rattle.fit_listing.proofs.list_sheet.Goals.{Else-sheet-ne0, Start}

-- no more knots than the arrays have places
record Roomy (a : Gathered) : Type 0 where
  minutes : a.knots ≤ length a.minutes
  ordinates : a.knots ≤ length a.ordinates

room : (c : Start) → Roomy c.args.sheet
room c =
    let x : length c.args.sheet.minutes ≡ most = search rules in
    let y : length c.args.sheet.ordinates ≡ most = search rules in
    record { minutes = omega (arith, x, c.requires.0); ordinates = omega (arith, y, c.requires.0) }

pub refused_line-requires : goal.refused_line-requires
refused_line-requires c =
    let a = (goal.at.refused_line-requires c).Start in
    omega (arith, length_refused_line a.args.sheet.number a.args.sheet.place (search rules) (search rules), a.requires.1)

pub returns-then-sheet-ne0 : goal.returns-then-sheet-ne0
returns-then-sheet-ne0 c = rw (listed_refused c.args.sheet c.if-sheet-ne0.true) c.refused_line.ensures

pub slice_bounds-minutes-end : goal.slice_bounds-minutes-end
slice_bounds-minutes-end c = (room (goal.at.slice_bounds-minutes-end c).Start).minutes

pub slice_bounds-list_fit-end : goal.slice_bounds-list_fit-end
slice_bounds-list_fit-end c = sym (length-take-le _ _ (room (goal.at.slice_bounds-list_fit-end c).Start).minutes)

pub slice_bounds-ordinates-end : goal.slice_bounds-ordinates-end
slice_bounds-ordinates-end c = (room (goal.at.slice_bounds-ordinates-end c).Start).ordinates

pub slice_bounds-list_fit-end-2 : goal.slice_bounds-list_fit-end-2
slice_bounds-list_fit-end-2 c = sym (length-take-le _ _ (room (goal.at.slice_bounds-list_fit-end-2 c).Start).ordinates)

pub slice_bounds-list_fit-end-3 : goal.slice_bounds-list_fit-end-3
slice_bounds-list_fit-end-3 c = sym (length-take-le _ (replicate most (pos 0)) c.requires.0)

pub slice_bounds-list_fit-end-4 : goal.slice_bounds-list_fit-end-4
slice_bounds-list_fit-end-4 c = sym (length-take-le _ (replicate most (pos 0)) c.requires.0)

pub list_fit-requires : goal.list_fit-requires
list_fit-requires c =
    let q = (goal.at.list_fit-requires c).Start in
    let a = q.args.sheet in
    let n = a.knots in
    let x = length-take-le n a.minutes (room q).minutes in
    let y = length-take-le n a.ordinates (room q).ordinates in
    let m = length-take-le n (replicate most (pos 0)) q.requires.0 in
    let p = q.requires in record { ordinates_len = (y ∙ sym x, m ∙ sym x, m ∙ sym x); minutes_len_bound = (omega arith, omega arith) }

pub returns : goal.returns
returns c =
    let q = (goal.at.returns c).Else-sheet-ne0 in
    let a = q.args.sheet in
    let z : a.number ≡ 0 = omega (arith, q.if-sheet-ne0.false) in
    let n = sym (length-take-le a.knots a.minutes (room (goal.at.Else-sheet-ne0 q).Start).minutes) in
    rw (listed_of_all_faults a z n) c.list_fit.ensures
