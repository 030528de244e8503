-- `listing::knot_lines` meets its contract. The loop's invariant: the lines of the first i knots stand in the buffer. Assumes nothing.
use mathlib.Core.Path.{◌≡◌, refl}
use mathlib.Core.List.{List, [], ◌∷◌, ◌++◌}
use Prim.Native.Nat.{ℕ, ◌≤◌}
use native.Mathlib.Numerals.{add-one}
use native.Mathlib.Omega.{arith}
use lib.IntN.{pos}
use lib.ListN.{length, get_or}
use mir.Syntax.{w16, w32}
use mir.Val.{to_z, of_z}
use Rattle.little_endian.proofs.Signs.{passed}
use Rattle.listing.specs.Text.{Counted, listed_line, lines, line_of, longest_line}
use Rattle.decimal.proofs.Puts.{put_none, put_then}
use Rattle.decimal.proofs.Widths.{wide, widened}
use Rattle.listing.proofs.Lengths.{length_listed_line}
use Rattle.listing.proofs.OneMore.{last, answered_more, lines_before}
use borrow.Author.Rules.{rules}
use Rattle.listing.proofs.knot_lines.Given as given
use Rattle.listing.proofs.knot_lines.Goals as goal
use Rattle.listing.proofs.knot_lines.Goals.{After-faults_at, At-loop-i}

pub loop-i-init : goal.loop-i-init
unfolding lines
loop-i-init g c = ([], (refl, λ i h. absurd (omega (arith, h))), record { put = put_none (omega arith); short = omega arith })

-- the line of knot i, with the faults that it was told to have
abbrev line : (g : given.Over) → After-faults_at g → List ℕ
line g c =
    let l = (goal.at.After-faults_at g c).At-loop-i in
    let a = l.args in
    let i = l.loop-i.i in
    listed_line (get_or a.minutes.now i 0) (get_or a.ordinates.now i (pos 0)) (get_or a.slopes.now i (pos 0)) (get_or a.curvatures.now i (pos 0)) c.faults_at.result

-- its numbers, as a call passes them on
line_is : (g : given.Over) (c : After-faults_at g)
    → (let l = (goal.at.After-faults_at g c).At-loop-i in
    let a = l.args in
    let i = l.loop-i.i in
    listed_line (get_or a.minutes.now i 0) (to_z w32 (of_z w32 (to_z w16 (of_z w16 (get_or a.ordinates.now i (pos 0)))))) (to_z w32 (of_z w32 (get_or a.slopes.now i (pos 0)))) (to_z w32 (of_z w32 (get_or a.curvatures.now i (pos 0)))) c.faults_at.result
    ≡ line g c)
line_is g c =
    let l = (goal.at.After-faults_at g c).At-loop-i in
    let a = l.args in
    let i = l.loop-i.i in
    let y = widened w16 w32 tt {z = get_or a.ordinates.now i (pos 0)} (record { sfits = c.listed_line-arg-in-loop-i-1.given }) in
    let m = passed w32 (get_or a.slopes.now i (pos 0)) c.listed_line-arg-in-loop-i-2-1.given in
    let M = passed w32 (get_or a.curvatures.now i (pos 0)) c.listed_line-arg-in-loop-i-3-1.given in
    rw (y, m, M)

counted : (g : given.Over) (c : After-faults_at g) → Counted c.faults_at.result
counted g c = let h = c.faults_at.type_inv in search rules

line_short : (g : given.Over) (c : After-faults_at g) → length (line g c) ≤ longest_line
line_short g c =
    let x = c.shared_slice_known-in-loop-i-1.given c.loop-i.i in
    let y = c.listed_line-arg-in-loop-i-1.given in
    let m = c.listed_line-arg-in-loop-i-2-1.given in
    let M = c.listed_line-arg-in-loop-i-3-1.given in
    length_listed_line _ _ _ _ _ (omega arith) (record { sfits = omega arith }) (record { sfits = m }) (record { sfits = M }) (let h = c.faults_at.type_inv in search rules)

pub overflow_cast-ordinates : goal.overflow_cast-ordinates
overflow_cast-ordinates g c =
    let l = (goal.at.overflow_cast-ordinates g c).At-loop-i in
    wide w16 w32 tt {z = get_or l.args.ordinates.now l.loop-i.i (pos 0)} (record { sfits = c.listed_line-arg-in-loop-i-1.given })

pub listed_line-next-requires : goal.listed_line-next-requires
listed_line-next-requires g c =
    let k = (goal.at.listed_line-next-requires g c).After-faults_at in
    let l = (goal.at.listed_line-next-requires g c).At-loop-i in
    rw (line_is g k) (omega (arith, line_short g k, l.loop-i.invariant.2.short, l.loop-i.auto.text, l.requires.minutes_in_bounds))

pub loop-i-preserved : goal.loop-i-preserved
unfolding lines line_of
loop-i-preserved g c =
    let k = (goal.at.loop-i-preserved g c).After-faults_at in
    let a = k.args in
    let fs = k.loop-i.invariant.0 in
    let told = k.loop-i.invariant.1 in
    let i = k.loop-i.invariant.2 in
    let p = rw (line_is g k) at c.listed_line-next.ensures in (
      fs ++ (k.faults_at.result ∷ []),
      rw add-one (answered_more fs k.faults_at.result told.0 (λ j. g.F.Fn.post a.faults (j, tt)) told (k.faults_at.ensures, counted g k)),
      record {
        put = rw (add-one, lines_before fs k.faults_at.result told.0 a.minutes.now a.ordinates.now a.slopes.now a.curvatures.now, last fs k.faults_at.result told.0) (put_then i.put p);
        short = omega (arith, line_short g k, i.short, p.behind);
      },
    )

pub returns : goal.returns
returns g c =
    let e : c.loop-i.i ≡ length c.args.minutes.now = omega arith in
    rw e at c.loop-i.invariant
