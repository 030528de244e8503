-- `Reading::between` meets its contract: the three are rounded as document 01 rounds them.
-- Assumes nothing.
use mathlib.Core.Path.{◌≡◌, sym, ◌∙◌}
use mathlib.Core.List.{[], ◌∷◌}
use Prim.Native.Nat.{◌<◌, ◌^◌}
use borrow.Author.Rules.{rules}
use lib.IntN.{ℤ}
use lib.Signed.{mag}
use mir.Syntax.{w32, w64}
use mir.Val.{to_z, of_z}
use mir.Facts.{to_z-of_z}
use Rattle.whole.proofs.Solve.{v0, v1}
use Rattle.whole.proofs.Machine.{gives}
use Rattle.weights.specs.declared.Quantity.{Quantity}
use Rattle.weights.specs.declared.Quantity.TheVariants.{Value, Slope, Curvature}
use Rattle.gaps.proofs.Minutes.{minute_in}
use Rattle.reading.proofs.Rounds.{rounds, reading_is}
use Rattle.reading.proofs.Reading.between.Goals as goal
use Rattle.reading.proofs.Reading.between.Goals.{Start}

-- what was read of a quantity, as it is stored
stored : (c : Start) (q : Quantity) {z : ℤ} → mag z < 2 ^ 31 → (let a = c.args in z ≡ rounds q (to_z w64 (of_z w64 a.h)) (to_z w64 (of_z w64 a.t)) a.a a.b)
    → (let a = c.args in to_z w32 (of_z w32 z) ≡ rounds q a.h a.t a.a a.b)
stored c q {z} f e =
    let a = c.args in
    to_z-of_z {w = w32} {z = z} (record { sfits = f }) ∙ gives (minute_in c.requires.in_gap) (v0 ∷ v1 ∷ []) (λ h t. z ≡ rounds q h t a.a a.b) tt e

pub returns : goal.returns
returns c =
    let d = (goal.at.returns c).Start in
    (λ i.
    record {
      value = stored d Value c.rounded.type_inv c.rounded.ensures i;
      slope = stored d Slope c.rounded-2.type_inv c.rounded-2.ensures i;
      curvature = stored d Curvature c.rounded-3.type_inv c.rounded-3.ensures i;
    })
    ∙ sym (reading_is d.args.a d.args.b d.requires.in_gap)
