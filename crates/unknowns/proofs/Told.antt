-- The answer of `unknown_at` where it refuses nothing.
-- Assumes nothing.
use mathlib.Core.Path.{◌≡◌}
use mathlib.Core.List.{List}
use Prim.Native.Nat.{ℕ, ◌<◌}
use borrow.Author.Tests.{lt-leb}
use lib.IntN.{ℤ}
use lib.ListN.{length}
use Rattle.answer.specs.Answer.{given, accepted, ◌then◌, refuse}
use Rattle.unknowns.specs.Unknowns.{checked, fraction, unknown_order}

pub solved : (ys : List ℤ) (i : ℕ) → checked ys ≡ accepted → i < length ys → unknown_order ys i ≡ given (fraction ys i)
unfolding unknown_order ◌then◌ refuse
solved ys i e h = rw (e, lt-leb (length ys) i h)
