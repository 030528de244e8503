-- Each operation of what a knot adds fits: a term is at most the sum of the terms' sizes.
-- Assumes nothing.
use mathlib.Core.List.{List, [], ◌∷◌}
use Prim.Native.Nat.{ℕ, ◌+◌, ◌*◌, ◌≤◌, ◌<◌, ◌^◌}
use native.Mathlib.Nat.{mul-le-mul, mul-le-mul_right, one-mul}
use native.Mathlib.Omega.{arith}
use lib.IntN.{ℤ, nat_abs}
use mir.Syntax.{w64}
use mir.Val.{SFits}
use Rattle.whole.proofs.Order.{abs_mul}
use Rattle.whole.proofs.Linear.{abs_fits}
use Rattle.whole.proofs.Solve.{E, ◌:*◌, #, v0 as h, v1 as y, v2 as m, v3 as c, v4 as o, v5 as s, v6 as v}
use Rattle.whole.proofs.Machine.{Src, held, Ok}
use Rattle.gaps.specs.declared.Knot.{Knot}
use Rattle.weights.specs.declared.Weights.{Weights}
use Rattle.parts.specs.Limits.{load, Light}

abbrev pub ordinates : E
ordinates = # 8192 :* (y :* o)

abbrev pub slopes : E
slopes = # 2 :* h :* (m :* s)

abbrev pub curvatures : E
curvatures = h :* h :* (c :* v)

-- a term is no larger than so many times it
grows : (n i : ℕ) → 1 ≤ n → i ≤ n * i
grows n i p = rw one-mul at (mul-le-mul_right i p)

module _ (h : ℤ) (k : Knot) (w : Weights) where
  abbrev pub numbers : List Src
  numbers = held h ∷ held k.ordinate ∷ held k.slope ∷ held k.curvature ∷ held w.ordinate ∷ held w.slope ∷ held w.curvature ∷ []

  -- the terms' sizes
  abbrev one : ℕ
  one = 8192 * (nat_abs k.ordinate * nat_abs w.ordinate)

  abbrev two : ℕ
  two = 2 * nat_abs h * (nat_abs k.slope * nat_abs w.slope)

  abbrev three : ℕ
  three = nat_abs h * nat_abs h * (nat_abs k.curvature * nat_abs w.curvature)

  module _ (fh : SFits w64 h) (l : Light h k w) where
    total : one + two + three < 2 ^ 63
    unfolding load
    total = l.light

    pub ordinates_fit : SFits w64 k.ordinate → SFits w64 w.ordinate → Ok w64 numbers ordinates
    ordinates_fit fy fo =
        record {
          left = tt;
          right = record { left = fy; right = fo; fits = abs_fits (simp abs_mul (omega (arith, total))) };
          fits = abs_fits (simp abs_mul (omega (arith, total)));
        }

    pub slopes_fit : SFits w64 k.slope → SFits w64 w.slope → Ok w64 numbers slopes
    slopes_fit fm fs =
        record {
          left = record { left = tt; right = fh; fits = abs_fits (simp abs_mul (omega (arith, l.narrow))) };
          right = record { left = fm; right = fs; fits = abs_fits (simp abs_mul (omega (arith, total, grows (2 * nat_abs h) (nat_abs k.slope * nat_abs w.slope) (omega (arith, l.wide))))) };
          fits = abs_fits (simp abs_mul (omega (arith, total)));
        }

    pub curvatures_fit : SFits w64 k.curvature → SFits w64 w.curvature → Ok w64 numbers curvatures
    curvatures_fit fc fv =
        record {
          left = record { left = fh; right = fh; fits = abs_fits (simp abs_mul (omega (arith, mul-le-mul l.narrow l.narrow))) };
          right = record { left = fc; right = fv; fits = abs_fits (simp abs_mul (omega (arith, total, grows (nat_abs h * nat_abs h) (nat_abs k.curvature * nat_abs w.curvature) (mul-le-mul l.wide l.wide)))) };
          fits = abs_fits (simp abs_mul (omega (arith, total)));
        }
