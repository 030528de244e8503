-- `preheat::left` meets its contract.
-- Assumes nothing.
use mathlib.Core.List.{List, [], ◌∷◌}
use Prim.Native.Nat.{◌^◌, ◌<◌}
use native.Mathlib.Omega.{arith}
use lib.IntN.{ℤ, nat_abs, ◌-ℤ◌, ◌*ℤ◌}
use mir.Syntax.{w64}
use mir.Val.{SFits}
use Rattle.whole.proofs.Order.{abs_sub}
use Rattle.whole.proofs.Solve.{◌:-◌, ◌:*◌, v0 as z, v1 as d, v2 as f}
use Rattle.whole.proofs.Interval.{±, ∈_abs, fits_∈}
use Rattle.whole.proofs.Machine.{Src, held, Ok, does, gave}
use Rattle.preheat.proofs.left.Goals as goal
use Rattle.preheat.proofs.left.Goals.{Start}

fits : (x : ℤ) → nat_abs x < 2 ^ 63 → SFits w64 x
fits x h = fits_∈ {i = ± 9223372036854775807} (∈_abs (omega arith)) tt

module _ (c : Start) where
  abbrev numbers : List Src
  numbers = held c.args.z ∷ held c.args.d ∷ held c.args.f ∷ []

  product : Ok w64 numbers (d :* f)
  product = record {
    left = fits c.args.d (omega (arith, c.requires.d_in));
    right = fits c.args.f (omega (arith, c.requires.f_in));
    fits = fits (c.args.d *ℤ c.args.f) (omega (arith, c.requires.product_in));
  }

  difference : Ok w64 numbers (z :- d :* f)
  difference = record {
    left = fits c.args.z (omega (arith, c.requires.z_in));
    right = product;
    fits = fits (c.args.z -ℤ c.args.d *ℤ c.args.f) (omega (arith, abs_sub c.args.z (c.args.d *ℤ c.args.f), c.requires.z_in, c.requires.product_in));
  }

pub overflow_mul-result : goal.overflow_mul-result
overflow_mul-result c = does w64 (numbers c) (d :* f) (product c)

pub overflow_sub-result : goal.overflow_sub-result
overflow_sub-result c = does w64 (numbers c) (z :- d :* f) (difference c)

pub returns : goal.returns
returns c = gave w64 (numbers c) (z :- d :* f) (difference c)
