-- No step of the order of mending refuses with the number 0, so that 0 is answered exactly where it accepts.
-- Assumes nothing.
use Prim.Native.Nat.{ℕ}
use mathlib.Core.List.{List}
use lib.Dec.{lit<}
use lib.IntN.{ℤ}
use lib.ListN.{length}
use Rattle.answer.proofs.Never.{Never, given_never, never_then, never_each, numbered_refuse}
use Rattle.curve.specs.Kind.{quintic}
use Rattle.rows.specs.declared.End.TheVariants.{Free}
use Rattle.fit.proofs.Numbered.{lengths_numbered, counted_numbered, stands_numbered, fit_numbered}
use Rattle.holes.specs.Hole.{bridged, passable, mended}
use Rattle.mend.specs.Order.{mendable, mend_order, mend}

pub mend_numbered : (xs : List ℕ) (ys : List ℤ) (ms Ms room : ℕ) → Never 0 (mend xs ys ms Ms room)
unfolding bridged mendable mend_order mend
mend_numbered xs ys ms Ms room =
    never_then
    (never_then (lengths_numbered _ _ _ _)
    (never_then (counted_numbered quintic (length xs))
    (never_then (never_each 0 _ 0 (length xs) (λ i l. stands_numbered quintic xs (passable xs ys) i))
    (never_then (never_each 0 _ 0 (length ys) (λ i l. numbered_refuse 17 i _ (lit< tt))) (numbered_refuse 18 0 _ (lit< tt))))))
    (fit_numbered xs (mended xs ys) Free Free ms Ms given_never)
