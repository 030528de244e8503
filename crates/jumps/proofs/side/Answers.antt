-- `side` meets its contract: its operations fit by the intervals of its numbers.
-- Assumes nothing.
use mathlib.Core.Path.{sym, ◌∙◌, ap}
use mathlib.Core.List.{List}
use lib.Dec.{T}
use mir.Syntax.{w64}
use mir.Val.{SFits}
use Rattle.whole.proofs.Solve.{E, ◌:+◌, ◌:-◌, ◌:*◌, #, v0 as h, v1 as y, v2 as m, v3 as k, v4 as y', v5 as m', v6 as k'}
use Rattle.whole.proofs.Machine.{Src, res, safe, step, back}
use Rattle.jumps.specs.declared.Order.TheVariants.{Third, Fourth}
use Rattle.jumps.specs.Sides.{side}
use Rattle.jumps.proofs.Comparing.{side_args, side_tops, side_in, rise as rises, side_e}
use Rattle.jumps.proofs.side.Goals as goal
use Rattle.jumps.proofs.side.Goals.{In-Fourth, In-Third, Start}

abbrev rise : E
rise = rises y y'

abbrev thirds : E
thirds = side_e Third h y m k y' m' k'

abbrev fourths : E
fourths = side_e Fourth h y m k y' m' k'

abbrev args : Start → List Src
args c = let a = c.args in side_args a.h a.here a.next

op : (e : E) → T (safe w64 side_tops e) → (c : Start) → SFits w64 (res w64 (args c) e)
op e t c = step (side_in c.requires) e t

pub returns-in-Third : goal.returns-in-Third
unfolding side
returns-in-Third c =
    let d = (goal.at.returns-in-Third c).Start in
    back (side_in d.requires) thirds tt ∙ ap (λ o. side o d.args.h d.args.here d.args.next) (sym c.in-Third.is)

pub returns-in-Fourth : goal.returns-in-Fourth
unfolding side
returns-in-Fourth c =
    let d = (goal.at.returns-in-Fourth c).Start in
    back (side_in d.requires) fourths tt ∙ ap (λ o. side o d.args.h d.args.here d.args.next) (sym c.in-Fourth.is)

pub overflow_mul-result-in-Third-3 : goal.overflow_mul-result-in-Third-3
overflow_mul-result-in-Third-3 c = op ((# 12 :* m :+ # 8 :* m') :* h) tt (goal.at.overflow_mul-result-in-Third-3 c).Start

pub overflow_sub-result : goal.overflow_sub-result
overflow_sub-result c = op (# 20 :* rise :- (# 12 :* m :+ # 8 :* m') :* h) tt (goal.at.overflow_sub-result c).Start

pub overflow_mul-result-in-Third-5 : goal.overflow_mul-result-in-Third-5
overflow_mul-result-in-Third-5 c = op ((# 3 :* k :- k') :* h) tt (goal.at.overflow_mul-result-in-Third-5 c).Start

pub overflow_mul-result-in-Third-6 : goal.overflow_mul-result-in-Third-6
overflow_mul-result-in-Third-6 c = op ((# 3 :* k :- k') :* h :* h) tt (goal.at.overflow_mul-result-in-Third-6 c).Start

pub overflow_sub-result-in-Third-2 : goal.overflow_sub-result-in-Third-2
overflow_sub-result-in-Third-2 c = op thirds tt (goal.at.overflow_sub-result-in-Third-2 c).Start

pub overflow_mul-result-in-Fourth-3 : goal.overflow_mul-result-in-Fourth-3
overflow_mul-result-in-Fourth-3 c = op ((# 16 :* m :+ # 14 :* m') :* h) tt (goal.at.overflow_mul-result-in-Fourth-3 c).Start

pub overflow_mul-result-in-Fourth-6 : goal.overflow_mul-result-in-Fourth-6
overflow_mul-result-in-Fourth-6 c = op ((# 3 :* k :- # 2 :* k') :* h) tt (goal.at.overflow_mul-result-in-Fourth-6 c).Start

pub overflow_mul-result-in-Fourth-7 : goal.overflow_mul-result-in-Fourth-7
overflow_mul-result-in-Fourth-7 c = op ((# 3 :* k :- # 2 :* k') :* h :* h) tt (goal.at.overflow_mul-result-in-Fourth-7 c).Start

pub overflow_add-result-in-Fourth-2 : goal.overflow_add-result-in-Fourth-2
overflow_add-result-in-Fourth-2 c = op ((# 16 :* m :+ # 14 :* m') :* h :+ (# 3 :* k :- # 2 :* k') :* h :* h) tt (goal.at.overflow_add-result-in-Fourth-2 c).Start

pub overflow_sub-result-in-Fourth-2 : goal.overflow_sub-result-in-Fourth-2
overflow_sub-result-in-Fourth-2 c = op fourths tt (goal.at.overflow_sub-result-in-Fourth-2 c).Start
