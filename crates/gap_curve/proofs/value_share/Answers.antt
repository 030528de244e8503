-- `value_share` meets its contract: but for the last product, which its limits bound, by one computed test of
-- intervals. Assumes nothing.
use mathlib.Core.List.{List}
use lib.Dec.{T}
use lib.IntN.{pos}
use mir.Syntax.{w64}
use mir.Val.{SFits}
use Rattle.whole.proofs.Solve.{E, ◌:+◌, ◌:*◌, v0 as t, v1 as s, v2 as level, v3 as rise, v4 as bend}
use Rattle.whole.proofs.Machine.{Src, res, safe, does, gave, step}
use Rattle.weights.specs.declared.Quantity.TheVariants.{Value}
use Rattle.gap_curve.specs.GapCurve.{by_powers, height, shares}
use Rattle.gap_curve.proofs.Coded.{height_e, share_e}
use Rattle.gap_curve.proofs.Handed.{numbers, tops, within, value_fits}
use Rattle.gap_curve.proofs.value_share.Goals as goal
use Rattle.gap_curve.proofs.value_share.Goals.{Start}

abbrev args : Start → List Src
args c = let a = c.args in numbers a.t a.s (by_powers a.level a.rise a.bend)

op : (e : E) → T (safe w64 (tops (pos 0)) e) → (c : Start) → SFits w64 (res w64 (args c) e)
op e t c = step (within c.requires) e t

abbrev value : E
value = share_e Value level rise bend t s

pub returns : goal.returns
unfolding height shares
returns c = gave w64 (args c) value (value_fits c.requires)

pub overflow_mul-result : goal.overflow_mul-result
overflow_mul-result = op (s :* s) tt

pub overflow_mul-result-2 : goal.overflow_mul-result-2
overflow_mul-result-2 = op (s :* s :* s) tt

pub overflow_mul-result-3 : goal.overflow_mul-result-3
overflow_mul-result-3 = op (bend :* t) tt

pub overflow_add-result : goal.overflow_add-result
overflow_add-result = op (bend :* t :+ rise) tt

pub overflow_mul-result-4 : goal.overflow_mul-result-4
overflow_mul-result-4 = op ((bend :* t :+ rise) :* t) tt

pub overflow_add-result-2 : goal.overflow_add-result-2
overflow_add-result-2 = op (height_e level rise bend t) tt

pub overflow_mul-result-5 : goal.overflow_mul-result-5
overflow_mul-result-5 c = does w64 (args c) value (value_fits c.requires)
