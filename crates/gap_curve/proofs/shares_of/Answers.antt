-- `shares_of` meets its contract: but for the last products, which its limits bound, by one computed test of
-- intervals. Assumes nothing.
use mathlib.Core.List.{List}
use lib.Dec.{T}
use lib.IntN.{pos}
use mir.Syntax.{w64}
use mir.Val.{SFits}
use Rattle.whole.proofs.Linear.{abs_fits}
use Rattle.whole.proofs.Solve.{E, ◌:+◌, ◌:-◌, ◌:*◌, #, v0 as t, v1 as s, v2 as level, v3 as rise, v4 as bend}
use Rattle.whole.proofs.Machine.{Src, res, Ok, safe, ok, does, gave, step}
use Rattle.weights.specs.declared.Quantity.TheVariants.{Value, Slope, Curvature}
use Rattle.gap_curve.specs.GapCurve.{by_powers, height, rate, fall, shares}
use Rattle.gap_curve.proofs.Coded.{height_e, rate_e, fall_e, share_e}
use Rattle.gap_curve.proofs.Handed.{numbers, tops, within, value_fits}
use Rattle.gap_curve.proofs.shares_of.Goals as goal
use Rattle.gap_curve.proofs.shares_of.Goals.{Start}

abbrev args : Start → List Src
args c = let a = c.args in numbers a.t a.s (by_powers a.level a.rise a.bend)

op : (e : E) → T (safe w64 (tops (pos 0)) e) → (c : Start) → SFits w64 (res w64 (args c) e)
op e t c = step (within c.requires) e t

abbrev at : E
at = height_e level rise bend t

abbrev rates : E
rates = rate_e rise bend t

abbrev falls : E
falls = fall_e level rise bend t s

abbrev turns : E
turns = s :* (# 2 :* bend :* s :- # 4 :* rates) :- # 2 :* falls

-- the last products
slope : (c : Start) → Ok w64 (args c) (share_e Slope level rise bend t s)
unfolding height rate fall shares
slope c = record { left = ok (within c.requires) (s :* s) tt; right = ok (within c.requires) falls tt; fits = abs_fits c.requires.slope }

curvature : (c : Start) → Ok w64 (args c) (share_e Curvature level rise bend t s)
unfolding height rate fall shares
curvature c = record { left = ok (within c.requires) s tt; right = ok (within c.requires) turns tt; fits = abs_fits c.requires.curvature }

pub returns : goal.returns
unfolding height rate fall shares
returns c = λ i.
    record {
      value = gave w64 (args c) (share_e Value level rise bend t s) (value_fits c.requires) i;
      slope = gave w64 (args c) (share_e Slope level rise bend t s) (slope c) i;
      curvature = gave w64 (args c) (share_e Curvature level rise bend t s) (curvature c) i;
    }

pub overflow_mul-bent : goal.overflow_mul-bent
overflow_mul-bent = op (bend :* t) tt

pub overflow_add-risen : goal.overflow_add-risen
overflow_add-risen = op (bend :* t :+ rise) tt

pub overflow_mul-value : goal.overflow_mul-value
overflow_mul-value = op ((bend :* t :+ rise) :* t) tt

pub overflow_add-value : goal.overflow_add-value
overflow_add-value = op at tt

pub overflow_add-rate : goal.overflow_add-rate
overflow_add-rate = op rates tt

pub overflow_mul-slope : goal.overflow_mul-slope
overflow_mul-slope = op (s :* rates) tt

pub overflow_mul-slope-2 : goal.overflow_mul-slope-2
overflow_mul-slope-2 = op (# 3 :* at) tt

pub overflow_sub-slope : goal.overflow_sub-slope
overflow_sub-slope = op falls tt

pub overflow_mul-square : goal.overflow_mul-square
overflow_mul-square = op (s :* s) tt

pub overflow_mul-result : goal.overflow_mul-result
overflow_mul-result = op (s :* s :* s) tt

pub overflow_mul-result-2 : goal.overflow_mul-result-2
overflow_mul-result-2 c = does w64 (args c) (share_e Value level rise bend t s) (value_fits c.requires)

pub overflow_mul-result-3 : goal.overflow_mul-result-3
overflow_mul-result-3 c = does w64 (args c) (share_e Slope level rise bend t s) (slope c)

pub overflow_mul-result-4 : goal.overflow_mul-result-4
overflow_mul-result-4 = op (# 2 :* bend) tt

pub overflow_mul-result-5 : goal.overflow_mul-result-5
overflow_mul-result-5 = op (# 2 :* bend :* s) tt

pub overflow_mul-result-6 : goal.overflow_mul-result-6
overflow_mul-result-6 = op (# 4 :* rates) tt

pub overflow_sub-result : goal.overflow_sub-result
overflow_sub-result = op (# 2 :* bend :* s :- # 4 :* rates) tt

pub overflow_mul-result-7 : goal.overflow_mul-result-7
overflow_mul-result-7 = op (s :* (# 2 :* bend :* s :- # 4 :* rates)) tt

pub overflow_mul-result-8 : goal.overflow_mul-result-8
overflow_mul-result-8 = op (# 2 :* falls) tt

pub overflow_sub-result-2 : goal.overflow_sub-result-2
overflow_sub-result-2 = op turns tt

pub overflow_mul-result-9 : goal.overflow_mul-result-9
overflow_mul-result-9 c = does w64 (args c) (share_e Curvature level rise bend t s) (curvature c)
