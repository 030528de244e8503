-- `GapCurve::at` meets its contract: the three numerators, each rounded.
-- Assumes nothing.
use mathlib.Core.Path.{◌≡◌, ◌∙◌, ap}
use mathlib.Core.List.{[], ◌∷◌}
use Prim.Native.Nat.{◌<◌, ◌^◌}
use lib.IntN.{ℤ, nat_abs}
use lib.Signed.{mag}
use mir.Syntax.{w32, w64}
use mir.Val.{to_z, of_z}
use mir.Facts.{to_z-of_z}
use Rattle.whole.specs.Whole.{nearest}
use Rattle.whole.proofs.Linear.{abs_fits}
use Rattle.whole.proofs.Solve.{v0, v1}
use Rattle.whole.proofs.Machine.{held, asked, told, gives}
use Rattle.gaps.proofs.Minutes.{minute_in}
use Rattle.weights.specs.declared.Quantity.{Quantity}
use Rattle.weights.specs.declared.Quantity.TheVariants.{Value, Slope, Curvature}
use Rattle.parts.proofs.Numerators.{numerator_fits, denominator_positive, reading_fits}
use Rattle.gap_curve.specs.declared.GapCurve.{GapCurve}
use Rattle.gap_curve.specs.GapCurve.{added, read_of}
use Rattle.gap_curve.proofs.Coded.{share}
use Rattle.gap_curve.proofs.LaidReads.{beneath, beneath_is, added_is, rounds_is}
use Rattle.gap_curve.proofs.GapCurve.at.Goals as goal
use Rattle.gap_curve.proofs.GapCurve.at.Goals.{After-numerators-n, Start}

module _ (c : After-numerators-n) where
  abbrev d : Start
  d = (goal.at.After-numerators-n c).Start

  abbrev g : GapCurve
  g = d.args.self

  abbrev number : Quantity → ℤ
  number q = share q c.numerators-n.result

  all_is : c.numerators-n.result ≡ added g d.args.t
  all_is = gives (minute_in d.requires.in_gap) (v1 ∷ []) (λ t. c.numerators-n.result ≡ added g t) tt c.numerators-n.ensures

  number_is : (q : Quantity) → number q ≡ share q (added g d.args.t)
  number_is q = ap (share q) all_is

  small : (q : Quantity) → nat_abs (number q) < 2 ^ 63
  small q = let p = d.requires.laid in rw (number_is q ∙ added_is p d.requires.in_gap q) (numerator_fits q d.requires.in_gap p.tame)

  round_is : (q : Quantity) → nearest (number q) (beneath q g) ≡ nearest (share q (added g d.args.t)) (beneath q g)
  round_is q = ap (λ n. nearest n (beneath q g)) (number_is q)

  -- what `rounded` asks, and what it gives
  asks_rounded : (q : Quantity) → (let n = to_z w64 (of_z w64 (number q)) in ((0 < beneath q g) × (nat_abs n < 2 ^ 63)) × (nat_abs (nearest n (beneath q g)) < 2 ^ 31))
  asks_rounded q =
      let p = d.requires.laid in
      asked w64 (held (number q) ∷ []) (v0 ∷ []) (λ n. ((0 < beneath q g) × (nat_abs n < 2 ^ 63)) × (nat_abs (nearest n (beneath q g)) < 2 ^ 31)) (abs_fits (small q), tt)
      ((rw (beneath_is p q) (denominator_positive q d.requires.in_gap p.tame), small q), rw (round_is q ∙ rounds_is p d.requires.in_gap q) (reading_fits q d.requires.in_gap p.tame))

  stored : (q : Quantity) {z : ℤ} → mag z < 2 ^ 31 → z ≡ nearest (to_z w64 (of_z w64 (number q))) (beneath q g) → to_z w32 (of_z w32 z) ≡ nearest (share q (added g d.args.t)) (beneath q g)
  stored q {z} f e =
      to_z-of_z {w = w32} {z = z} (record { sfits = f })
      ∙ told w64 (held (number q) ∷ []) (v0 ∷ []) (λ n. z ≡ nearest n (beneath q g)) (abs_fits (small q), tt) e
      ∙ round_is q

pub returns : goal.returns
unfolding read_of
returns c =
    let n = (goal.at.returns c).After-numerators-n in
    λ i.
    record {
      value = stored n Value c.rounded.type_inv c.rounded.ensures i;
      slope = stored n Slope c.rounded-2.type_inv c.rounded-2.ensures i;
      curvature = stored n Curvature c.rounded-3.type_inv c.rounded-3.ensures i;
    }

pub rounded-requires : goal.rounded-requires
rounded-requires c =
    let told = asks_rounded (goal.at.rounded-requires c).After-numerators-n Value in record { d_nonzero = told.0; d_bound = told.1 }

pub rounded-requires-2 : goal.rounded-requires-2
rounded-requires-2 c =
    let told = asks_rounded (goal.at.rounded-requires-2 c).After-numerators-n Slope in record { d_nonzero = told.0; d_bound = told.1 }

pub rounded-requires-3 : goal.rounded-requires-3
rounded-requires-3 c =
    let told = asks_rounded (goal.at.rounded-requires-3 c).After-numerators-n Curvature in record { d_nonzero = told.0; d_bound = told.1 }
