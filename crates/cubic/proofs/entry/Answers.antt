-- `cubic::entry` meets its contract, by the table's rule.
-- Assumes nothing.
use mathlib.Core.Path.{◌≡◌, sym, ◌∙◌, ap}
use mathlib.Core.List.{List, [], ◌∷◌, map}
use Prim.Native.Nat.{ℕ, ◌+◌, ◌≤◌}
use borrow.Author.Rules.{rules}
use native.Mathlib.Omega.{arith}
use lib.IntN.{ℤ, pos}
use lib.ListN.{get_or}
use mir.Syntax.{w64}
use Rattle.whole.proofs.Order.{ℕ_le}
use Rattle.whole.proofs.Solve.{v0}
use Rattle.whole.proofs.Interval.{◌to◌}
use Rattle.whole.proofs.Machine.{held, In, back}
use Rattle.cubic.specs.Cubic.{most_values, a, largest}
use Rattle.cubic.proofs.Table.{entries, rule, as_held, entry_most}
use Rattle.cubic.proofs.entry.Goals as goal

is : (k : ℕ) → k + 2 ≤ most_values → get_or (map pos entries) k (pos 0) ≡ pos (a k)
is k h = as_held entries k ∙ ap pos (rule k (omega arith))

in_table : (k : ℕ) → k + 2 ≤ most_values → In w64 (held (get_or (map pos entries) k (pos 0)) ∷ []) (pos 0 to pos largest ∷ [])
in_table k h = rw (is k h) (record { each = (record { low = ℕ_le (omega arith); high = ℕ_le (omega (arith, entry_most k h)) }, tt) })

pub returns : goal.returns
returns c = back (in_table c.args.place c.requires) v0 tt ∙ is c.args.place c.requires
