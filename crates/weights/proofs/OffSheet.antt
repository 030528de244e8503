-- What is taken off the weight sheet is what the formulas give. Assumes nothing.
use mathlib.Core.Path.{◌≡◌, refl, ◌∙◌, ap}
use lib.IntN.{ℤ, pos, negsuc, nat_abs}
use lib.Signed.{◌≤ℤ◌}
use Rattle.curve.specs.Formula.{∂^}
use Rattle.weight_sheet.specs.declared.Row.{Row}
use Rattle.std.specs.Prelude.{Some}
use Rattle.weight_sheet.specs.Sheet.{row, found}
use Rattle.weight_sheet.proofs.Sheet.{found_row}
use Rattle.weights.specs.declared.Quantity.TheVariants.{Value}
use Rattle.weights.specs.Weights.{weight, weighs, weigh, weights_of}

row_weighs : (h t : ℤ) → pos 0 ≤ℤ h → pos 0 ≤ℤ t → weights_of (row (nat_abs h) (nat_abs t)) ≡ weigh Value h t
unfolding row weigh weighs weight ∂^
row_weighs (pos a) (pos b) p q = refl
row_weighs (pos a) (negsuc b) p q = absurd q.le
row_weighs (negsuc a) t p q = absurd p.le

pub off_sheet : {h t : ℤ} {r : Row} → pos 0 ≤ℤ h → pos 0 ≤ℤ t → Some r ≡ found (nat_abs h) (nat_abs t) → weights_of r ≡ weigh Value h t
off_sheet {h} {t} p q e = ap weights_of (found_row (nat_abs h) (nat_abs t) e) ∙ row_weighs h t p q
