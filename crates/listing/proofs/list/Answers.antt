-- `listing::list` meets its contract, by the number of refusal. Assumes nothing.
use mathlib.Core.List.{[]}
use native.Mathlib.Omega.{arith}
use lib.ListN.{length}
use Rattle.decimal.proofs.Puts.{put_then}
use Rattle.listing.proofs.Lengths.{refused_listing, accepted_listing, length_refused_line, length_ok_line}
use Rattle.listing.proofs.list.Goals as goal
use Rattle.listing.proofs.list.Goals.{Start}

pub refused_line-requires : goal.refused_line-requires
refused_line-requires g c =
    let a = (goal.at.refused_line-requires g c).Start in
    let p = a.requires.minutes_len_bound in
    omega (arith, length_refused_line a.args.number a.args.place (omega arith) (omega arith))

pub returns-then-number-ne0 : goal.returns-then-number-ne0
returns-then-number-ne0 g c =
    let a = c.args in
    let h = c.if-number-ne0.true in
    ([], (λ z. absurd (h z)), rw (refused_listing a.number a.place a.minutes.now a.ordinates.now a.slopes.now a.curvatures.now [] h) c.refused_line.ensures)

pub knot_lines-next-requires : goal.knot_lines-next-requires
knot_lines-next-requires g c =
    let p = c.requires in
    record { ordinates_len = p.ordinates_len; minutes_in_bounds = omega (arith, p.minutes_len_bound); faults_pre = p.faults_pre c.if-number-ne0.false }

pub accepted_line-requires : goal.accepted_line-requires
accepted_line-requires g c =
    let a = (goal.at.accepted_line-requires g c).Start in
    let l = c.knot_lines-next.ensures in
    omega (arith, a.requires.minutes_len_bound, l.2.short, c.knot_lines-next.auto.text, length_ok_line (length a.args.minutes.now) a.requires.minutes_len_bound.0)

pub returns : goal.returns
returns g c =
    let a = c.args in
    let l = c.knot_lines-next.ensures in (
      l.0,
      (λ z. l.1),
      rw (accepted_listing a.number a.place a.minutes.now a.ordinates.now a.slopes.now a.curvatures.now l.0 c.if-number-ne0.false) (put_then l.2.put c.accepted_line.ensures),
    )
