-- `GapCurve::of` meets its contract.
-- Assumes nothing.
use mathlib.Core.Path.{◌≡◌, ◌∙◌, ap}
use mathlib.Core.List.{[], ◌∷◌}
use Prim.Native.Nat.{◌*◌, ◌^◌}
use native.Mathlib.Omega.{arith}
use lib.IntN.{nat_abs}
use mir.Syntax.{w64}
use Rattle.whole.proofs.Solve.{v0}
use Rattle.whole.proofs.Machine.{held, In, asks, gives, back}
use Rattle.gaps.specs.Limits.{InGap, Keeps}
use Rattle.gaps.proofs.Minutes.{gap_tops, minute_in}
use Rattle.weights.specs.declared.Quantity.TheVariants.{Value}
use Rattle.parts.proofs.Numerators.{right_far}
use Rattle.gap_curve.specs.GapCurve.{side, laid}
use Rattle.gap_curve.specs.Limits.{near}
use Rattle.gap_curve.proofs.Near.{left_near, right_near}
use Rattle.gap_curve.proofs.GapCurve.of.Goals as goal
use Rattle.gap_curve.proofs.GapCurve.of.Goals.{Start}

within : (c : Start) → In w64 (held c.args.h ∷ held c.args.h ∷ []) gap_tops
within c = minute_in c.requires.in_gap

pub of-requires : goal.of-requires
of-requires c =
    let told = asks (within c) (v0 ∷ []) (λ h. (InGap h h) × (Keeps near c.args.a)) tt (c.requires.in_gap, left_near c.requires.in_gap c.requires.tame) in record { in_gap = told.0; keeps = told.1 }

pub mirrored-requires : goal.mirrored-requires
mirrored-requires c = let d = (goal.at.mirrored-requires c).Start in omega (arith, (right_far Value d.requires.in_gap d.requires.tame).slope)

pub of-requires-2 : goal.of-requires-2
of-requires-2 c =
    let told = (let d = (goal.at.of-requires-2 c).Start in
    asks (within d) (v0 ∷ []) (λ h. (InGap h h) × (Keeps near c.mirrored.result)) tt (rw c.mirrored.ensures (d.requires.in_gap, right_near d.requires.in_gap d.requires.tame))) in record { in_gap = told.0; keeps = told.1 }

pub returns : goal.returns
unfolding laid
returns c =
    let d = (goal.at.returns c).Start in
    let a = d.args in
    λ i.
    record {
      h = back (within d) v0 tt i;
      left = gives (within d) (v0 ∷ []) (λ h. c.of.result ≡ side h a.a) tt c.of.ensures i;
      right = (gives (within d) (v0 ∷ []) (λ h. c.of-2.result ≡ side h c.mirrored.result) tt c.of-2.ensures ∙ ap (side a.h) c.mirrored.ensures) i;
      under = gives (within d) (v0 ∷ []) (λ h. c.denominator.result ≡ 8192 * nat_abs h ^ 5) tt c.denominator.ensures i;
      base = gives (within d) (v0 ∷ []) (λ h. c.denominator-2.result ≡ 2 * nat_abs h ^ 5) tt c.denominator-2.ensures i;
    }
