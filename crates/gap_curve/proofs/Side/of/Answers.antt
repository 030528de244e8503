-- `Side::of` meets its contract: by one computed test of intervals.
-- Assumes nothing.
use mathlib.Core.List.{List, [], ◌∷◌}
use Prim.Native.Nat.{◌^◌}
use lib.Dec.{T}
use lib.IntN.{pos}
use mir.Syntax.{w64}
use mir.Val.{SFits}
use Rattle.whole.proofs.Solve.{E, ◌:+◌, ◌:*◌, #, v0 as h, v1 as y, v2 as m, v3 as k}
use Rattle.whole.proofs.Interval.{Iv, ±, ◌to◌, ∈_abs}
use Rattle.whole.proofs.Machine.{Src, held, res, In, safe, step, back}
use Rattle.gaps.specs.Limits.{widest}
use Rattle.gap_curve.specs.GapCurve.{side}
use Rattle.gap_curve.proofs.Coded.{level_e, rise_e, bend_e}
use Rattle.gap_curve.proofs.Side.of.Goals as goal
use Rattle.gap_curve.proofs.Side.of.Goals.{After-struct_told-3-1, Start}

abbrev start : After-struct_told-3-1 → Start
start c = (goal.at.After-struct_told-3-1 c).Start

abbrev args : After-struct_told-3-1 → List Src
args c = let a = (start c).args in held a.h ∷ held a.k.ordinate ∷ held a.k.slope ∷ held a.k.curvature ∷ []

abbrev tops : List Iv
tops = pos 1 to pos widest ∷ ± (2 ^ 23) ∷ ± (2 ^ 31) ∷ ± (2 ^ 30) ∷ []

within : (c : After-struct_told-3-1) → In w64 (args c) tops
within c =
    let p = (start c).requires in
    record { each = (record { low = p.in_gap.wide; high = p.in_gap.narrow }, (∈_abs p.keeps.ordinate, (∈_abs p.keeps.slope, (∈_abs p.keeps.curvature, tt)))) }

op : (e : E) → T (safe w64 tops e) → (c : After-struct_told-3-1) → SFits w64 (res w64 (args c) e)
op e t c = step (within c) e t

abbrev tall : E
tall = # 8192 :* y

abbrev reach : E
reach = h :* m

pub returns : goal.returns
unfolding side
returns c = λ i.
    record {
      level = back (within c) (level_e h y) tt i;
      rise = back (within c) (rise_e h y m) tt i;
      bend = back (within c) (bend_e h y m k) tt i;
    }

pub overflow_mul-height : goal.overflow_mul-height
overflow_mul-height = op tall tt

pub overflow_mul-reach : goal.overflow_mul-reach
overflow_mul-reach = op reach tt

pub overflow_mul-result : goal.overflow_mul-result
overflow_mul-result = op (h :* h) tt

pub overflow_mul-result-2 : goal.overflow_mul-result-2
overflow_mul-result-2 = op (level_e h y) tt

pub overflow_mul-result-3 : goal.overflow_mul-result-3
overflow_mul-result-3 = op (# 3 :* tall) tt

pub overflow_mul-result-4 : goal.overflow_mul-result-4
overflow_mul-result-4 = op (# 2 :* reach) tt

pub overflow_add-result : goal.overflow_add-result
overflow_add-result = op (# 3 :* tall :+ # 2 :* reach) tt

pub overflow_mul-result-5 : goal.overflow_mul-result-5
overflow_mul-result-5 = op (rise_e h y m) tt

pub overflow_add-result-2 : goal.overflow_add-result-2
overflow_add-result-2 = op (tall :+ reach) tt

pub overflow_mul-result-6 : goal.overflow_mul-result-6
overflow_mul-result-6 = op (# 6 :* (tall :+ reach)) tt

pub overflow_mul-result-7 : goal.overflow_mul-result-7
overflow_mul-result-7 = op (h :* h) tt

pub overflow_mul-result-8 : goal.overflow_mul-result-8
overflow_mul-result-8 = op (h :* h :* k) tt

pub overflow_add-result-3 : goal.overflow_add-result-3
overflow_add-result-3 = op (bend_e h y m k) tt
