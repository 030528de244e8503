-- Records that end within the first bytes of a list are those of the list, whatever stands behind. Assumes nothing.
use Prim.Native.Nat.{ℕ, ◌+◌, ◌≤◌}
use mathlib.Core.Path.{◌≡◌}
use mathlib.Core.List.{List}
use native.Mathlib.Omega.{arith}
use lib.ListN.{length, take}
use lib.Seq.{length-take-le}
use borrow.Author.Tests.{le-leb}
use Rattle.little_endian.proofs.Fronts.{number_in_front}
use Rattle.record.specs.Record.{is_at}

module _ (n : ℕ) (s : List ℕ) where
  pub record_in_front : (at kind long : ℕ) → n ≤ length s → at + (4 + long) ≤ n → is_at (take n s) at kind long ≡ is_at s at kind long
  unfolding is_at
  record_in_front at kind long room h =
      rw (
        length-take-le n s room,
        le-leb (at + (4 + long)) n h,
        le-leb (at + (4 + long)) (length s) (omega arith),
        number_in_front n s 2 at (omega arith),
        number_in_front n s 2 (at + 2) (omega arith),
      )
