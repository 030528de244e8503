-- A signed number of fewer bits, as it goes to more. Assumes nothing.
use mathlib.Core.Path.{◌≡◌}
use lib.Dec.{T, leb}
use lib.IntN.{ℤ}
use mir.Syntax.{Width}
use mir.Val.{SFits, hbits, to_z, of_z}
use mir.Facts.{to_z-of_z, sfits_widen}

module _ (w v : Width) (narrow : T (leb (hbits w) (hbits v))) {z : ℤ} (f : SFits w z) where
  pub wide : SFits v (to_z w (of_z w z))
  wide = rw (to_z-of_z f) (sfits_widen narrow f)

  pub widened : to_z v (of_z v (to_z w (of_z w z))) ≡ z
  widened = rw (to_z-of_z f) (to_z-of_z (sfits_widen {w = w} narrow f))
