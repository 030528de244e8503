-- No step of the fit's order refuses with the number 0, so that a fit answers 0 exactly where it accepts.
-- Assumes nothing.
use Prim.Native.Nat.{ℕ}
use mathlib.Core.List.{List}
use lib.Dec.{lit<}
use lib.IntN.{ℤ}
use Rattle.answer.proofs.Never.{Never, given_never, never_then, never_each, numbered_refuse}
use Rattle.curve.specs.Kind.{sloped}
use Rattle.curve.specs.Card.{knots}
use Rattle.curve.specs.Steps.{slope_in_range}
use Rattle.curve.specs.Orders.{fit_order}
use Rattle.std.specs.Prelude.{length}
use Rattle.lines.specs.Lines.{line_back}
use Rattle.passes.specs.Sheet.{line_at}
use Rattle.fit.proofs.Numbered.{lengths_numbered, counted_numbered, stands_numbered, eight_numbered, numbers_numbered}
use Rattle.slope_fit.specs.SlopesFit.{solved, ranged, eliminated, card_of, slopes_fit}

pub slopes_fit_numbered : (xs : List ℕ) (ys ms : List ℤ) (Ms : ℕ) → Never 0 (slopes_fit xs ys ms Ms)
unfolding slopes_fit fit_order ranged slope_in_range eliminated solved
slopes_fit_numbered xs ys ms Ms =
    let c = card_of xs ys ms in
    never_then
    (never_then (lengths_numbered _ _ _ _)
    (never_then (counted_numbered sloped (knots c))
    (never_then given_never
    (never_then (never_each 0 _ 0 (knots c) (λ i l. stands_numbered sloped c.minutes c.ordinates i))
    (never_then (never_each 0 _ 0 _ (λ i l. numbered_refuse 9 i _ (lit< tt)))
    (never_then (eight_numbered (line_at xs ys ms) line_back (length xs)) (numbers_numbered sloped c)))))))
    (given_never {a = c})
