-- A gap, and a minute within a gap, as the machine's tests take them.
-- Assumes nothing.
use mathlib.Core.List.{List, [], ◌∷◌}
use Prim.Native.Nat.{◌≤◌}
use lib.IntN.{ℤ, pos, nat_abs, ◌-ℤ◌}
use lib.Signed.{≤ℤ_refl}
use mir.Syntax.{w64}
use Rattle.whole.proofs.Ring.{sub_diff}
use Rattle.whole.proofs.Order.{linear, ≤ℤ_trans, sub_nonneg, abs_le}
use Rattle.whole.proofs.Interval.{Iv, ◌∈◌, ◌to◌}
use Rattle.whole.proofs.Machine.{held, In}
use Rattle.gaps.specs.Limits.{widest, Gap, InGap}

abbrev pub gap_tops : List Iv
gap_tops = pos 1 to pos widest ∷ pos 0 to pos widest ∷ []

pub minute_in : {h t : ℤ} → InGap h t → In w64 (held h ∷ held t ∷ []) gap_tops
minute_in g = record { each = (record { low = g.wide; high = g.narrow }, (record { low = g.from; high = ≤ℤ_trans g.to g.narrow }, tt)) }

-- the same minute, counted from the other side; and the gap's last
pub other : {h t : ℤ} → InGap h t → InGap h (h -ℤ t)
other {h} {t} g = record { wide = g.wide; narrow = g.narrow; from = sub_nonneg g.to; to = omega (linear, sub_diff h t, g.from) }

pub whole_gap : {h t : ℤ} → InGap h t → InGap h h
whole_gap {h} g = record { wide = g.wide; narrow = g.narrow; from = omega (linear, g.wide); to = ≤ℤ_refl h }

pub gap_in : {h : ℤ} → Gap h → h ∈ (pos 0 to pos widest)
gap_in g = record { low = g.from; high = g.narrow }

pub gap_size : {h : ℤ} → Gap h → nat_abs h ≤ widest
gap_size {h} g = abs_le h widest g.narrow (omega (linear, g.from))
