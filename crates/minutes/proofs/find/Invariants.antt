-- `minutes::find` meets its contract: what is left to look through decides what is found.
-- Assumes nothing.
use mathlib.Core.Path.{◌≡◌}
use mathlib.Core.List.{List}
use Prim.Native.Nat.{ℕ, ◌+◌, ◌≤◌, ◌<◌}
use lib.ListN.{length}
use Rattle.minutes.specs.declared.Left.{Left}
use Rattle.minutes.specs.Search.{looking, found}
use Rattle.minutes.proofs.find.Given as goal

pub record Inv (xs : List ℕ) (minute : ℕ) (l : Left) : Type 0 where
  pub inside : l.first + l.gaps < length xs
  pub counted : l.looks + l.gaps < length xs
  pub to_come : ℕ
  pub enough : l.gaps ≤ to_come
  pub same : looking to_come xs minute l ≡ found xs minute

abbrev pub invariant-loop-left : goal.invariant-loop-left
invariant-loop-left l = Inv l.xs l.minute l.left

abbrev pub decreases-loop-left : goal.decreases-loop-left
decreases-loop-left l = l.left.gaps
