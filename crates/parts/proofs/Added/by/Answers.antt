-- `Added::by` meets its contract: each operation fits by the sum of the terms' sizes.
-- Assumes nothing.
use mathlib.Core.List.{List}
use mir.Syntax.{w64}
use borrow.Author.Rules.{rules}
use mir.Val.{SFits}
use Rattle.whole.proofs.Solve.{E, ◌:*◌, #, v0 as h, v1 as y, v2 as m, v3 as k, v4 as o, v5 as s, v6 as v}
use Rattle.whole.proofs.Machine.{Src, res, Ok, does, gave}
use Rattle.parts.specs.Parts.{adds}
use Rattle.parts.proofs.Terms.{ordinates, slopes, curvatures, numbers, ordinates_fit, slopes_fit, curvatures_fit}
use Rattle.parts.proofs.Added.by.Goals as goal
use Rattle.parts.proofs.Added.by.Goals.{Start}

abbrev args : Start → List Src
args c = let a = c.args in numbers a.h a.k a.w

ordinate : (c : Start) → Ok w64 (args c) ordinates
ordinate c = ordinates_fit _ _ _ c.ranges.h c.requires (search rules) (search rules)

slope : (c : Start) → Ok w64 (args c) slopes
slope c = slopes_fit _ _ _ c.ranges.h c.requires (search rules) (search rules)

curvature : (c : Start) → Ok w64 (args c) curvatures
curvature c = curvatures_fit _ _ _ c.ranges.h c.requires (search rules) (search rules)

op : (c : Start) (e : E) → Ok w64 (args c) e → SFits w64 (res w64 (args c) e)
op c e o = does w64 (args c) e o

pub returns : goal.returns
unfolding adds
returns c = λ i.
    let s = (goal.at.returns c).Start in
    record {
      ordinate = gave w64 (args s) ordinates (ordinate s) i;
      slope = gave w64 (args s) slopes (slope s) i;
      curvature = gave w64 (args s) curvatures (curvature s) i;
    }

pub overflow_mul-result : goal.overflow_mul-result
overflow_mul-result c = let b = (goal.at.overflow_mul-result c).Start in op b (y :* o) (ordinate b).right

pub overflow_mul-result-2 : goal.overflow_mul-result-2
overflow_mul-result-2 c = let b = (goal.at.overflow_mul-result-2 c).Start in op b ordinates (ordinate b)

pub overflow_mul-result-3 : goal.overflow_mul-result-3
overflow_mul-result-3 c = let b = (goal.at.overflow_mul-result-3 c).Start in op b (# 2 :* h) (slope b).left

pub overflow_mul-result-4 : goal.overflow_mul-result-4
overflow_mul-result-4 c = let b = (goal.at.overflow_mul-result-4 c).Start in op b (m :* s) (slope b).right

pub overflow_mul-result-5 : goal.overflow_mul-result-5
overflow_mul-result-5 c = let b = (goal.at.overflow_mul-result-5 c).Start in op b slopes (slope b)

pub overflow_mul-result-6 : goal.overflow_mul-result-6
overflow_mul-result-6 c = let b = (goal.at.overflow_mul-result-6 c).Start in op b (h :* h) (curvature b).left

pub overflow_mul-result-7 : goal.overflow_mul-result-7
overflow_mul-result-7 c = let b = (goal.at.overflow_mul-result-7 c).Start in op b (k :* v) (curvature b).right

pub overflow_mul-result-8 : goal.overflow_mul-result-8
overflow_mul-result-8 c = let b = (goal.at.overflow_mul-result-8 c).Start in op b curvatures (curvature b)
