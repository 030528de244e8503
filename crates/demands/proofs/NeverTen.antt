-- No card within half a unit of an exact solution is refused for a jump, by whatever function, and no numbers
-- that a fit works out.
-- Assumes nothing.
use Prim.Native.Nat.{ℕ}
use mathlib.Core.Path.{refl, sym, subst}
use mathlib.Core.Logic.{◌≢◌, inl, inr}
use mathlib.Core.Bool.{true}
use mathlib.Core.List.{List}
use native.Mathlib.Omega.{arith}
use lib.Dec.{lit<}
use lib.IntN.{ℤ}
use lib.ListN.{length}
use Rattle.std.specs.Prelude.{Option}
use Rattle.answer.specs.Answer.{accepted, number, refuse, each}
use Rattle.answer.specs.Judge.{numbered}
use Rattle.answer.proofs.Never.{Never, never_number, never_then, never_each, given_never, never_other as other}
use Rattle.curve.specs.Kind.{Kind, quintic, sloped}
use Rattle.curve.specs.Card.{Card, knots}
use Rattle.curve.specs.Steps.{lengths, counted, codes, stands, in_range, slope_in_range, smooth, outside, room}
use Rattle.curve.specs.Orders.{numbers_sound, sound, verdict, card_order, lists_order, write_order, reading_order, fit_order}
use Rattle.curve.proofs.NeverTen.{Enough, quintic_enough, sloped_enough, smooth_there}
use Rattle.rows.specs.declared.Pair.{Pair}
use Rattle.rows.specs.declared.End.TheVariants.{Free}
use Rattle.elimination.specs.declared.State.{State}
use Rattle.elimination.specs.Elimination.{backward}
use Rattle.lines.specs.Lines.{line_back}
use Rattle.passes.specs.Sheet.{knot_at, line_at}
use Rattle.passes.specs.Forward.{Run, going, stuck, run_to, state_at}
use Rattle.passes.specs.Back.{Back, back, stopped, back_to}
use Rattle.passes.specs.Passes.{passes, answered, returned, back_from, verdict_in}
use Rattle.ends.specs.Ends.{ends}
use Rattle.fit.specs.Fit as Fit
use Rattle.fit.specs.Fit.{fit_of}
use Rattle.slope_fit.specs.SlopesFit as Slopes
use Rattle.slope_fit.specs.SlopesFit.{slopes_fit}
use Rattle.holes.specs.Hole.{bridged, passable, mended}
use Rattle.mend.specs.Order.{mendable, mend_order, mend}
use Rattle.card_bytes.specs.Held.{card_of}
use Rattle.card_bytes.specs.Records.{due, head_due, knot_due, end_due, records_due, kind_by, Known, card_verdict}
use Rattle.card_bytes.proofs.ByHead.{known_by}
use Rattle.card.specs.Answers.{own}
use Rattle.card.specs.Promise.{Lists, into}
use Rattle.table.specs.Table.{table_order}
use Rattle.table.specs.Promise.{Columns, table_verdict}
use Rattle.refit.specs.Fresh.{refit}
use Rattle.demands.specs.Calls.{Job, between, to_slopes, Fitting, fit_by, card_by, the_fit, worked_out, fresh_job, ARefit, refit_bytes, fresh_slopes, fresh_curvatures, old_card, anew}
use Rattle.demands.specs.Demands.{HalfAUnit, HalfAUnitHeld}
use Rattle.demands.proofs.Jobs.{named_by, kind_for, fresh_by_job, fresh_named, fresh_kind}

-- ---- steps

sized_never : (n ys ms Ms : ℕ) → Never 10 (lengths n ys ms Ms)
unfolding lengths
sized_never n ys ms Ms = other 3 0 _ tt

module _ (K : Kind) where
  counted_never : (n : ℕ) → Never 10 (counted K n)
  unfolding counted
  counted_never n = never_then (other 1 0 _ tt) (other 2 0 _ tt)

  pub codes_never : (left right : ℕ) → Never 10 (codes K left right)
  unfolding codes
  codes_never left right = never_then (other 15 0 _ tt) (other 15 1 _ tt)

  standing_never : (xs : List ℕ) (ys : List ℤ) (n : ℕ) → Never 10 (each (stands K xs ys) 0 n)
  unfolding stands
  standing_never xs ys n = never_each 10 (stands K xs ys) 0 n (λ j l. never_then (other 4 j _ tt) (never_then (other 5 j _ tt) (other 6 j _ tt)))

-- ---- cards

enough : {K : Kind} → Known K → Enough K
enough (inl e) = subst Enough (sym e) quintic_enough
enough (inr e) = subst Enough (sym e) sloped_enough

module _ {K : Kind} (known : Known K) {c : Card} (half : HalfAUnit K c) where
  -- of 9; 10
  numbers_never : Never 10 (numbers_sound K c)
  unfolding numbers_sound in_range
  numbers_never =
      never_then (never_each 10 (in_range K c) 0 (knots c) (λ j l. other 9 j _ tt))
      (never_each 10 (smooth K c) 0 (knots c) (λ j l. rw (smooth_there K (enough known) c half.exact half.near j (omega arith)) given_never))

  -- of per knot 4, 5, 6; 9; 10
  sound_never : Never 10 (sound K c)
  unfolding sound
  sound_never = never_then (standing_never K c.minutes c.ordinates (knots c)) numbers_never

  pub written_never : (lent : ℕ) → number (write_order K c lent) ≢ 10
  unfolding write_order verdict room
  written_never lent =
      never_number _ (lit< tt) (never_then (never_then (sized_never _ _ _ _) (never_then (counted_never K _) (never_then (codes_never K _ _) sound_never))) (other 26 0 _ tt))

module _ (s : List ℕ) (half : HalfAUnitHeld s) where
  pub own_never : Never 10 (own s)
  unfolding card_verdict card_order head_due records_due knot_due end_due due
  own_never =
      let K = kind_by s in
      never_then (other 14 0 _ tt)
      (never_then (counted_never K _)
      (never_then (codes_never K _ _)
      (never_then (never_then (never_each 10 _ 0 (knots (card_of s)) (λ i l. other 14 _ _ tt)) (never_then (other 14 _ _ tt) (other 14 _ _ tt))) (sound_never (known_by s) half))))

  pub checked_never : number (own s) ≢ 10
  checked_never = never_number _ (lit< tt) own_never

  lists_never : (xs ys ms Ms : ℕ) → Never 10 (lists_order xs ys ms Ms (own s) (knots (card_of s)))
  unfolding lists_order room
  lists_never xs ys ms Ms = never_then (sized_never _ _ _ _) (never_then own_never (other 26 0 _ tt))

  pub read_never : (l : Lists) → number (into l s) ≢ 10
  unfolding into
  read_never l = never_number _ (lit< tt) (lists_never _ _ _ _)

  pub read_off_never : (minute : ℕ) → number (reading_order (own s) (card_of s) minute) ≢ 10
  unfolding reading_order outside
  read_off_never minute = never_number _ (lit< tt) (never_then own_never (never_then (other 11 0 _ tt) given_never))

  pub table_never : (l : Columns) (from : ℕ) → number (table_verdict l s from) ≢ 10
  unfolding table_verdict table_order outside
  table_never l from = never_number _ (lit< tt) (never_then (sized_never _ _ _ _) (never_then own_never (other 11 0 _ tt)))

-- ---- fits

-- 8 comes with its own number
eight_never : (step : State → ℕ → Option State) (turn : State → Pair → Pair) (n : ℕ) → Never 10 (verdict_in (passes step turn n))
unfolding passes back_from refuse
eight_never step turn n = go (run_to step n) (back_to turn (state_at step) n n) _
  where
    go : (r : Run) (b : Back) (pairs : List Pair) → Never 10 (verdict_in (answered r (returned b pairs)))
    go (stuck i) b pairs = other 8 i true tt
    go (going x) (stopped k) pairs = other 8 k true tt
    go (going x) (back v) pairs = given_never

module _ (xs : List ℕ) (ys : List ℤ) (ms Ms : ℕ) where
  pub fit_never : (j : Job) → HalfAUnit (kind_for j) (card_by j xs ys) → Never 10 (named_by j) → Never 10 (fit_by j xs ys ms Ms)
  unfolding fit_of fit_order Fit.eliminated Fit.solved ends slopes_fit Slopes.eliminated Slopes.solved Slopes.ranged slope_in_range
  fit_never (between left right named) half n =
      never_then
      (never_then (sized_never _ _ _ _)
      (never_then (counted_never quintic _)
      (never_then n
      (never_then (standing_never quintic _ _ _)
      (never_then (never_then (other 7 0 _ tt) (other 7 _ _ tt)) (never_then (eight_never (knot_at xs ys left right) backward (length xs)) (numbers_never (inl refl) half)))))))
      given_never
  fit_never (to_slopes slopes) half n =
      never_then
      (never_then (sized_never _ _ _ _)
      (never_then (counted_never sloped _)
      (never_then n
      (never_then (standing_never sloped _ _ _)
      (never_then (never_each 10 _ 0 _ (λ i l. other 9 i _ tt)) (never_then (eight_never (line_at xs ys slopes) line_back (length xs)) (numbers_never (inr refl) half)))))))
      given_never

pub fitted_never : (f : Fitting) → Never 10 (named_by f.job) → HalfAUnit (kind_for f.job) (worked_out f) → number (the_fit f) ≢ 10
fitted_never f n half = never_number _ (lit< tt) (fit_never f.minutes f.ordinates _ _ f.job half n)

pub mended_never : (xs : List ℕ) (ys : List ℤ) (ms Ms room : ℕ) → HalfAUnit quintic (Fit.card_of xs (mended xs ys) Free Free) → number (mend xs ys ms Ms room) ≢ 10
unfolding mend mend_order mendable bridged
mended_never xs ys ms Ms room half =
    never_number _ (lit< tt)
    (never_then
    (never_then (sized_never _ _ _ _)
    (never_then (counted_never quintic _)
    (never_then (standing_never quintic xs (passable xs ys) (length xs)) (never_then (never_each 10 (bridged ys) 0 (length ys) (λ j l. other 17 j _ tt)) (other 18 0 _ tt)))))
    (fit_never xs (mended xs ys) ms Ms (between Free Free accepted) half given_never))

-- of a card's bytes, where the card is near an exact solution, and its fresh fit is
pub refitted_never : (c : ARefit) → HalfAUnitHeld (refit_bytes c) → HalfAUnit (kind_by (refit_bytes c)) (worked_out (anew c)) →
    number (refit (length (fresh_slopes c)) (length (fresh_curvatures c)) (refit_bytes c)) ≢ 10
unfolding refit
refitted_never c half fresh-half =
    let K = kind_by (refit_bytes c) in
    let old = old_card c in
    let near = subst (λ L. HalfAUnit L (worked_out (anew c))) (sym (fresh_kind (known_by (refit_bytes c)) old)) fresh-half in
    let anew-never = fit_never old.minutes old.ordinates (knots old) (knots old) (fresh_job K old) near (fresh_named K old (codes_never quintic _ _)) in
    never_number _ (lit< tt) (never_then (lists_never (refit_bytes c) half _ _ _ _) (subst (Never 10) (sym (fresh_by_job K old)) anew-never))
