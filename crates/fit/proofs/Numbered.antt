-- No step of the fit's order refuses with the number 0, so that a fit answers 0 exactly where it accepts.
-- Assumes nothing.
use Prim.Native.Nat.{ℕ}
use mathlib.Core.List.{List}
use lib.Dec.{lit<}
use lib.IntN.{ℤ}
use Rattle.answer.specs.Answer.{Verdict}
use Rattle.answer.proofs.Never.{Never, given_never, never_then, never_each, numbered_refuse}
use Rattle.curve.specs.Kind.{Kind, quintic}
use Rattle.curve.specs.Card.{Card, knots}
use Rattle.curve.specs.Steps.{lengths, counted, codes, stands, in_range, smooth}
use Rattle.curve.specs.Orders.{numbers_sound, fit_order}
use Rattle.rows.specs.declared.End.{End}
use Rattle.ends.specs.Ends.{ends}
use Rattle.fit.specs.Fit.{solved, eliminated, card_of, fit_of}
use Rattle.std.specs.Prelude.{Option, length, true}
use Rattle.answer.specs.Answer.{refuse}
use Rattle.rows.specs.declared.Pair.{Pair}
use Rattle.elimination.specs.declared.State.{State}
use Rattle.elimination.specs.Elimination.{backward}
use Rattle.passes.specs.Sheet.{knot_at}
use Rattle.passes.specs.Forward.{Run, going, stuck, run_to, state_at}
use Rattle.passes.specs.Back.{Back, back, stopped, back_to}
use Rattle.passes.specs.Passes.{refused, verdict_in, returned, answered, back_from, passes}

pub lengths_numbered : (n ys ms Ms : ℕ) → Never 0 (lengths n ys ms Ms)
unfolding lengths
lengths_numbered n ys ms Ms = numbered_refuse 3 0 _ (lit< tt)

module _ (K : Kind) where
  pub counted_numbered : (n : ℕ) → Never 0 (counted K n)
  unfolding counted
  counted_numbered n = never_then (numbered_refuse 1 0 _ (lit< tt)) (numbered_refuse 2 0 _ (lit< tt))

  pub codes_numbered : (left right : ℕ) → Never 0 (codes K left right)
  unfolding codes
  codes_numbered left right = never_then (numbered_refuse 15 0 _ (lit< tt)) (numbered_refuse 15 1 _ (lit< tt))

  pub stands_numbered : (xs : List ℕ) (ys : List ℤ) (i : ℕ) → Never 0 (stands K xs ys i)
  unfolding stands
  stands_numbered xs ys i = never_then (numbered_refuse 4 i _ (lit< tt)) (never_then (numbered_refuse 5 i _ (lit< tt)) (numbered_refuse 6 i _ (lit< tt)))

  pub numbers_numbered : (c : Card) → Never 0 (numbers_sound K c)
  unfolding numbers_sound in_range smooth
  numbers_numbered c =
      never_then (never_each 0 _ 0 (knots c) (λ i l. numbered_refuse 9 i _ (lit< tt))) (never_each 0 _ 0 (knots c) (λ i l. numbered_refuse 10 i _ (lit< tt)))

-- 8 comes with its number
pub eight_numbered : (step : State → ℕ → Option State) (turn : State → Pair → Pair) (n : ℕ) → Never 0 (verdict_in (passes step turn n))
unfolding passes back_from refuse
eight_numbered step turn n = go (run_to step n) (back_to turn (state_at step) n n) _
  where
    stuck_numbered : (i : ℕ) → Never 0 (verdict_in (refused i))
    stuck_numbered i = numbered_refuse 8 i true (lit< tt)

    go : (r : Run) (b : Back) (pairs : List Pair) → Never 0 (verdict_in (answered r (returned b pairs)))
    go (stuck i) b pairs = stuck_numbered i
    go (going x) (stopped k) pairs = stuck_numbered k
    go (going x) (back v) pairs = given_never

module _ (xs : List ℕ) (ys : List ℤ) (left right : End) (ms Ms : ℕ) {named : Verdict} where
  pub fit_numbered : Never 0 named → Never 0 (fit_of xs ys left right ms Ms named)
  unfolding fit_of fit_order ends eliminated solved
  fit_numbered n =
      let c = card_of xs ys left right in
      never_then
      (never_then (lengths_numbered _ _ _ _)
      (never_then (counted_numbered quintic (knots c))
      (never_then n
      (never_then (never_each 0 _ 0 (knots c) (λ i l. stands_numbered quintic c.minutes c.ordinates i))
      (never_then (never_then (numbered_refuse 7 0 _ (lit< tt)) (numbered_refuse 7 _ _ (lit< tt)))
      (never_then (eight_numbered (knot_at xs ys left right) backward (length xs)) (numbers_numbered quintic c)))))))
      (given_never {a = c})
