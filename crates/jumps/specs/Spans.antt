-- Document 01, "The jump test", gap by gap: what a gap gives to the test at its two knots, and what is
-- compared where two gaps meet. Assumes nothing.
use Rattle.std.specs.Prelude.{Bool, cond, ℤ, pos, ◌+ℤ◌, ◌*ℤ◌}
use Rattle.gaps.specs.declared.Knot.{Knot}
use Rattle.jumps.specs.declared.Order.{Order}
use Rattle.jumps.specs.declared.Order.TheVariants.{Third, Fourth}
use Rattle.jumps.specs.declared.Span.{Span}
use Rattle.jumps.specs.declared.Spans.{Spans}
use Rattle.jumps.specs.Sides.{side, opposed, left_side, clears, leeway}

-- from knot a to knot b, of one derivative
unfoldable pub span : Order → ℤ → ℤ → Knot → Knot → Span
span o square h a b = record { ahead = side o h a b; behind = opposed o (left_side o h b a); clears = clears o h; leeway = leeway square h }

-- of no gap
abbrev pub no_span : Span
no_span = record { ahead = pos 0; behind = pos 0; clears = pos 1; leeway = pos 0 }

-- of one that may not be asked; and of both, the third always
abbrev pub span_if : Bool → Order → ℤ → ℤ → Knot → Knot → Span
span_if asked o square h a b = cond asked (span o square h a b) no_span

unfoldable pub spans : Bool → ℤ → ℤ → Knot → Knot → Spans
spans asked square h a b = record { third = span Third square h a b; fourth = span_if asked Fourth (pos 20) h a b }

abbrev pub no_spans : Spans
no_spans = record { third = no_span; fourth = no_span }

-- right less left where two gaps meet, and what both allow
abbrev pub met_jump : Span → Span → ℤ
met_jump left right = right.ahead *ℤ left.clears +ℤ left.behind *ℤ right.clears

abbrev pub met_leeways : Span → Span → ℤ
met_leeways left right = right.leeway *ℤ left.clears +ℤ left.leeway *ℤ right.clears
