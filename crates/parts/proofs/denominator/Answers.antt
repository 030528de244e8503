-- `denominator` meets its contract.
-- Assumes nothing.
use mathlib.Core.Path.{◌≡◌, ap₂}
use mathlib.Core.List.{[], ◌∷◌}
use Prim.Native.Nat.{◌*◌, ◌≤◌, ◌^◌}
use native.Mathlib.Nat.{mul-le-mul, pow-le-pow_left}
use native.Mathlib.Omega.{arith}
use lib.Dec.{T}
use lib.IntN.{ℤ, pos, nat_abs, ◌*ℤ◌}
use lib.Signed.{◌≤ℤ◌, non_neg, yes_non_neg}
use mir.Syntax.{w64}
use mir.Val.{SFits, Fits}
use Rattle.whole.proofs.Order.{linear, abs_le}
use Rattle.whole.proofs.Solve.{E, ◌:*◌, v0 as h}
use Rattle.whole.proofs.Interval.{at_least}
use Rattle.whole.proofs.Machine.{held, res, safe, step, asks}
use Rattle.gaps.specs.Limits.{widest}
use Rattle.gaps.proofs.Minutes.{gap_tops, minute_in}
use Rattle.weights.specs.declared.Quantity.{Quantity}
use Rattle.weights.specs.declared.Quantity.TheVariants.{Value, Slope, Curvature}
use Rattle.parts.specs.Parts.{under}
use Rattle.parts.proofs.Sizes.{fifth_power}
use Rattle.parts.proofs.denominator.Goals as goal
use Rattle.parts.proofs.denominator.Goals.{After-under}

abbrev fifth : E
fifth = h :* h :* h :* h :* h

op : (e : E) → T (safe w64 gap_tops e) → (c : After-under) → SFits w64 (res w64 (held c.args.h ∷ held c.args.h ∷ []) e)
op e t c = step (minute_in c.requires) e t

abbrev power : After-under → ℤ
power c = let h = c.args.h in h *ℤ h *ℤ h *ℤ h *ℤ h

positive : (c : After-under) → pos 0 ≤ℤ power c
positive c = let h = c.args.h in at_least {xs = h ∷ h ∷ []} {bs = gap_tops} (record { each = (minute_in c.requires).each }) fifth (pos 0) tt

small : (c : After-under) → nat_abs (power c) ≤ widest ^ 5
small c =
    let g = c.requires in
    rw (fifth_power c.args.h) (pow-le-pow_left (abs_le c.args.h widest g.narrow (omega (linear, g.wide))) 5)

under_small : (q : Quantity) → under q ≤ 8192
under_small Value = omega arith
under_small Slope = omega arith
under_small Curvature = omega arith

pub overflow_cast-result : goal.overflow_cast-result
overflow_cast-result c =
    asks (minute_in c.requires) (fifth ∷ []) (λ z. T (non_neg z) × Fits w64 (nat_abs z)) tt (yes_non_neg {z = power c} (positive c), omega (arith, small c))

pub overflow_mul-result-5 : goal.overflow_mul-result-5
overflow_mul-result-5 c =
    asks (minute_in c.requires) (fifth ∷ []) (λ z. Fits w64 (c.under.result * nat_abs z)) tt
    (rw c.under.ensures (omega (arith, mul-le-mul (under_small c.args.q) (small c))))

pub returns : goal.returns
returns c =
    asks (minute_in c.requires) (fifth ∷ []) (λ z. c.under.result * nat_abs z ≡ under c.args.q * nat_abs c.args.h ^ 5) tt
    (ap₂ ◌*◌ c.under.ensures (fifth_power c.args.h))

pub overflow_mul-result : goal.overflow_mul-result
overflow_mul-result = op (h :* h) tt

pub overflow_mul-result-2 : goal.overflow_mul-result-2
overflow_mul-result-2 = op (h :* h :* h) tt

pub overflow_mul-result-3 : goal.overflow_mul-result-3
overflow_mul-result-3 = op (h :* h :* h :* h) tt

pub overflow_mul-result-4 : goal.overflow_mul-result-4
overflow_mul-result-4 = op fifth tt
