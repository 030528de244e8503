-- How wide a gap and how large a knot's numbers may be, for the arithmetic on them to be tried; a kind's limits, and a test of all its gaps.
-- Assumes nothing.
use Rattle.std.specs.Prelude.{ℕ, zero, suc, ◌+◌, ◌≤◌, ◌^◌, Bool, ◌&&◌, leb, ℤ, pos, nat_abs, ◌≤ℤ◌}
use Rattle.curve.specs.Kind.{Kind}
use Rattle.gaps.specs.declared.Knot.{Knot}

-- the widest gap for which the weights and the powers of a gap were tried
abbrev pub widest : ℕ
widest = 120

pub record Gap (h : ℤ) : Type 0 where
  pub from : pos 0 ≤ℤ h
  pub narrow : h ≤ℤ pos widest

-- a minute within a gap
pub record InGap (h t : ℤ) : Type 0 where
  pub wide : pos 1 ≤ℤ h
  pub narrow : h ≤ℤ pos widest
  pub from : pos 0 ≤ℤ t
  pub to : t ≤ℤ h

-- how large a knot's numbers may be
pub record Limits : Type 0 where
  pub ordinates : ℕ
  pub slopes : ℕ
  pub curvatures : ℕ

pub record Keeps (L : Limits) (k : Knot) : Type 0 where
  pub ordinate : nat_abs k.ordinate ≤ L.ordinates
  pub slope : nat_abs k.slope ≤ L.slopes
  pub curvature : nat_abs k.curvature ≤ L.curvatures

-- the single numbers are far from the widths' ends
abbrev pub modest : Limits → Bool
modest L = leb (L.ordinates + L.slopes + L.curvatures) (2 ^ 31)

-- so far, each of them
abbrev pub far : Limits
far = record { ordinates = 2 ^ 31; slopes = 2 ^ 31; curvatures = 2 ^ 31 }

-- ---- a kind of card

unfoldable pub limits : Kind → ℕ → Limits
limits K gap = record { ordinates = K.ordinates; slopes = K.slopes; curvatures = K.curvatures gap }

-- a test of 0 to n
unfoldable pub upto : (ℕ → Bool) → ℕ → Bool
upto f zero = f zero
upto f (suc n) = f (suc n) && upto f n
