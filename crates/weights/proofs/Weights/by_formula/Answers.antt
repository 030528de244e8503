-- `Weights::by_formula` meets its contract: its operations fit, and the three are the weights in the value.
-- Assumes nothing.
use mathlib.Core.List.{[], ◌∷◌}
use lib.Dec.{T}
use mir.Syntax.{w64}
use mir.Val.{SFits}
use Rattle.whole.proofs.Solve.{E, ◌:+◌, ◌:-◌, ◌:*◌, #, v0 as h, v1 as t}
use Rattle.whole.proofs.Machine.{held, res, safe, step}
use Rattle.gaps.proofs.Minutes.{gap_tops, minute_in}
use Rattle.weights.specs.declared.Quantity.TheVariants.{Value, Slope, Curvature}
use Rattle.weights.proofs.Written.{coded, weighed}
use Rattle.weights.proofs.Weights.by_formula.Goals as goal
use Rattle.weights.proofs.Weights.by_formula.Goals.{Start}

abbrev s : E
s = h :- t

abbrev cube : E
cube = s :* s :* s

op : (e : E) → T (safe w64 gap_tops e) → (c : Start) → SFits w64 (res w64 (held c.args.h ∷ held c.args.t ∷ []) e)
op e t c = step (minute_in c.requires) e t

pub overflow_sub-s : goal.overflow_sub-s
overflow_sub-s = op s tt

pub overflow_mul-cube : goal.overflow_mul-cube
overflow_mul-cube = op (s :* s) tt

pub overflow_mul-cube-2 : goal.overflow_mul-cube-2
overflow_mul-cube-2 = op cube tt

pub overflow_mul-result : goal.overflow_mul-result
overflow_mul-result = op (h :* h) tt

pub overflow_mul-result-2 : goal.overflow_mul-result-2
overflow_mul-result-2 = op (# 3 :* h) tt

pub overflow_mul-result-3 : goal.overflow_mul-result-3
overflow_mul-result-3 = op (# 3 :* h :* t) tt

pub overflow_add-result : goal.overflow_add-result
overflow_add-result = op (h :* h :+ # 3 :* h :* t) tt

pub overflow_mul-result-4 : goal.overflow_mul-result-4
overflow_mul-result-4 = op (# 6 :* t) tt

pub overflow_mul-result-5 : goal.overflow_mul-result-5
overflow_mul-result-5 = op (# 6 :* t :* t) tt

pub overflow_add-result-2 : goal.overflow_add-result-2
overflow_add-result-2 = op (h :* h :+ # 3 :* h :* t :+ # 6 :* t :* t) tt

pub overflow_mul-result-6 : goal.overflow_mul-result-6
overflow_mul-result-6 = op (coded Value Value h t) tt

pub overflow_mul-result-7 : goal.overflow_mul-result-7
overflow_mul-result-7 = op (t :* cube) tt

pub overflow_mul-result-8 : goal.overflow_mul-result-8
overflow_mul-result-8 = op (# 3 :* t) tt

pub overflow_add-result-3 : goal.overflow_add-result-3
overflow_add-result-3 = op (h :+ # 3 :* t) tt

pub overflow_mul-result-9 : goal.overflow_mul-result-9
overflow_mul-result-9 = op (coded Value Slope h t) tt

pub overflow_mul-result-10 : goal.overflow_mul-result-10
overflow_mul-result-10 = op (t :* t) tt

pub overflow_mul-result-11 : goal.overflow_mul-result-11
overflow_mul-result-11 = op (coded Value Curvature h t) tt

pub returns : goal.returns
returns c = weighed c.requires Value tt tt tt
