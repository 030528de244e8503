-- Document 01, "The exact curve", as the code lays it on a gap h: N is σ³ P(τ) + τ³ P'(σ), with σ = h − τ and
-- P of degree 2,
--   P(τ) = 8192 y h²  +  (3 h 8192 y + 2 h² m) τ  +  (6 (8192 y + h m) + h² M) τ²
-- and P' so from the right knot, its slope with a minus. Assumes nothing.
use Rattle.std.specs.Prelude.{◌*◌, ◌^◌, ℤ, nat_abs, ◌+ℤ◌, ◌-ℤ◌, ◌*ℤ◌}
use Rattle.whole.specs.Whole.{◌·◌, nearest}
use Rattle.gaps.specs.declared.Knot.{Knot}
use Rattle.gaps.specs.Knots.{mirror}
use Rattle.reading.specs.declared.Reading.{Reading}
use Rattle.gap_curve.specs.declared.Shares.{Shares}
use Rattle.gap_curve.specs.declared.Side.{Side}
use Rattle.gap_curve.specs.declared.GapCurve.{GapCurve}

-- P by its three numbers; and that of a knot
abbrev pub by_powers : ℤ → ℤ → ℤ → Side
by_powers level rise bend = record { level = level; rise = rise; bend = bend }

unfoldable pub side : ℤ → Knot → Side
side h k =
    let y = 8192 · k.ordinate in
    let m = h *ℤ k.slope in
    record { level = h *ℤ h *ℤ y; rise = h *ℤ (3 · y +ℤ 2 · m); bend = 6 · (y +ℤ m) +ℤ h *ℤ h *ℤ k.curvature }

-- P t, and its first two derivatives
unfoldable pub height : Side → ℤ → ℤ
height p t = (p.bend *ℤ t +ℤ p.rise) *ℤ t +ℤ p.level

unfoldable pub rate : Side → ℤ → ℤ
rate p t = p.bend *ℤ t +ℤ (p.bend *ℤ t +ℤ p.rise)

-- the derivative of s³ P(t) is s² times this, where s falls as t rises
unfoldable pub fall : Side → ℤ → ℤ → ℤ
fall p t s = s *ℤ rate p t -ℤ 3 · height p t

-- s³ P(t), and its first two derivatives
unfoldable pub shares : Side → ℤ → ℤ → Shares
shares p t s =
    record {
      value = s *ℤ s *ℤ s *ℤ height p t;
      slope = s *ℤ s *ℤ fall p t s;
      curvature = s *ℤ (s *ℤ (2 · p.bend *ℤ s -ℤ 4 · rate p t) -ℤ 2 · fall p t s);
    }

-- the curve from knot a to knot b on a gap h
unfoldable pub laid : ℤ → Knot → Knot → GapCurve
laid h a b = record { h = h; left = side h a; right = side h (mirror b); under = 8192 * nat_abs h ^ 5; base = 2 * nat_abs h ^ 5 }

-- what both knots add at a minute: the right knot's minutes run the other way, and so its slope is taken off
unfoldable pub added : GapCurve → ℤ → Shares
added g t =
    let a = shares g.left t (g.h -ℤ t) in
    let b = shares g.right (g.h -ℤ t) t in
    record { value = a.value +ℤ b.value; slope = a.slope -ℤ b.slope; curvature = a.curvature +ℤ b.curvature }

-- and what is read of it
unfoldable pub read_of : GapCurve → ℤ → Reading
read_of g t = record { value = nearest (added g t).value g.under; slope = nearest (added g t).slope g.base; curvature = nearest (added g t).curvature g.base }
