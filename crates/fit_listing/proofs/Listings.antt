-- What the fitter prints, by the sheet and by what the fit answers.
-- Assumes nothing.
use Prim.Native.Nat.{ℕ}
use mathlib.Core.Path.{◌≡◌, sym, ◌∙◌}
use mathlib.Core.List.{List}
use Rattle.std.specs.Prelude.{Option}
use lib.IntN.{ℤ, pos}
use lib.ListN.{length, take, replicate}
use borrow.Author.Tests.{eq-eqb, ne_eqb}
use Rattle.answer.specs.Answer.{Answer}
use Rattle.curve.specs.Card.{Card}
use Rattle.listing.specs.Text.{refused_line, listing}
use Rattle.listing.proofs.Plain.{first_faults}
use Rattle.gather.specs.declared.Gathered.{Gathered}
use Rattle.gather.specs.Gathered.{most}
use Rattle.fit.specs.declared.Fitted.{Fitted}
use Rattle.fit.specs.Promise.{Fits}
use Rattle.fit_listing.specs.Printed.{listing_by, fit_listing, listed}

pub listed_fit : {f : Answer Card} {ms Ms ms' Ms' : List ℤ} {r : Fitted} (xs : List ℕ) (ys : List ℤ) (fs : List (Option ℕ))
    → Fits f ms Ms ms' Ms' r → listing r.number r.place xs ys ms' Ms' fs ≡ listing_by f xs ys ms Ms fs
unfolding listing_by
listed_fit xs ys fs h = rw (h.answer, h.slopes, h.curvatures)

-- it reads the faults of its own knots alone
fit_first_faults : (xs : List ℕ) (ys ms Ms : List ℤ) (fs : List (Option ℕ)) {n : ℕ} → n ≡ length xs → fit_listing xs ys ms Ms fs ≡ fit_listing xs ys ms Ms (take n fs)
unfolding fit_listing listing_by
fit_first_faults xs ys ms Ms fs e = first_faults _ _ xs ys _ _ fs e

module _ (a : Gathered) where
  pub listed_refused : (a.number ≡ 0 → ⊥) → listed a ≡ refused_line a.number a.place
  unfolding listed
  listed_refused h = rw (ne_eqb a.number 0 h)

  pub listed_knots : a.number ≡ 0
      → (let n = a.knots in
      listed a ≡ fit_listing (take n a.minutes) (take n a.ordinates) (take n (replicate most (pos 0))) (take n (replicate most (pos 0))) (take n a.faults))
  unfolding listed
  listed_knots h = rw (eq-eqb a.number 0 h)

  -- so the whole array of a sheet's faults may be handed on
  pub listed_of_all_faults : a.number ≡ 0 → a.knots ≡ length (take a.knots a.minutes)
      → (let n = a.knots in
      listed a ≡ fit_listing (take n a.minutes) (take n a.ordinates) (take n (replicate most (pos 0))) (take n (replicate most (pos 0))) a.faults)
  listed_of_all_faults h e = listed_knots h ∙ sym (fit_first_faults _ _ _ _ a.faults e)
