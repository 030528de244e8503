-- `Weights::of_slope` meets its contract: its operations fit, and the three are the weights in the slope.
-- Assumes nothing.
use mathlib.Core.List.{[], ◌∷◌}
use lib.Dec.{T}
use lib.IntN.{negsuc}
use mir.Syntax.{w64}
use mir.Val.{SFits}
use Rattle.whole.proofs.Solve.{E, con, ◌:+◌, ◌:-◌, ◌:*◌, #, v0 as h, v1 as t}
use Rattle.whole.proofs.Machine.{held, res, safe, step}
use Rattle.gaps.proofs.Minutes.{gap_tops, minute_in}
use Rattle.weights.specs.declared.Quantity.TheVariants.{Value, Slope, Curvature}
use Rattle.weights.proofs.Written.{coded, weighed}
use Rattle.weights.proofs.Weights.of_slope.Goals as goal
use Rattle.weights.proofs.Weights.of_slope.Goals.{Start}

abbrev s : E
s = h :- t

abbrev square : E
square = s :* s

op : (e : E) → T (safe w64 gap_tops e) → (c : Start) → SFits w64 (res w64 (held c.args.h ∷ held c.args.t ∷ []) e)
op e t c = step (minute_in c.requires) e t

pub overflow_sub-s : goal.overflow_sub-s
overflow_sub-s = op s tt

pub overflow_mul-square : goal.overflow_mul-square
overflow_mul-square = op square tt

pub overflow_mul-result : goal.overflow_mul-result
overflow_mul-result = op (con (negsuc 29) :* t) tt

pub overflow_mul-result-2 : goal.overflow_mul-result-2
overflow_mul-result-2 = op (con (negsuc 29) :* t :* t) tt

pub overflow_mul-result-3 : goal.overflow_mul-result-3
overflow_mul-result-3 = op (coded Slope Value h t) tt

pub overflow_mul-result-4 : goal.overflow_mul-result-4
overflow_mul-result-4 = op (# 6 :* t) tt

pub overflow_add-result : goal.overflow_add-result
overflow_add-result = op (s :+ # 6 :* t) tt

pub overflow_mul-result-5 : goal.overflow_mul-result-5
overflow_mul-result-5 = op (square :* (s :+ # 6 :* t)) tt

pub overflow_mul-result-6 : goal.overflow_mul-result-6
overflow_mul-result-6 = op (# 2 :* t) tt

pub overflow_sub-result : goal.overflow_sub-result
overflow_sub-result = op (s :- # 2 :* t) tt

pub overflow_mul-result-7 : goal.overflow_mul-result-7
overflow_mul-result-7 = op (coded Slope Slope h t) tt

pub overflow_mul-result-8 : goal.overflow_mul-result-8
overflow_mul-result-8 = op (t :* square) tt

pub overflow_mul-result-9 : goal.overflow_mul-result-9
overflow_mul-result-9 = op (# 2 :* s) tt

pub overflow_mul-result-10 : goal.overflow_mul-result-10
overflow_mul-result-10 = op (# 3 :* t) tt

pub overflow_sub-result-2 : goal.overflow_sub-result-2
overflow_sub-result-2 = op (# 2 :* s :- # 3 :* t) tt

pub overflow_mul-result-11 : goal.overflow_mul-result-11
overflow_mul-result-11 = op (coded Slope Curvature h t) tt

pub returns : goal.returns
returns c = weighed c.requires Slope tt tt tt
