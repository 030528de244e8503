-- What the fitter prints for the bytes of its input: document 01, "Two programs". It "reads records" and fits them without naming ends: document 02, order 6.
-- Order 4: the records may be logs, and "then the fit's" refusals come last.
-- Assumes nothing.
use Rattle.std.specs.Prelude.{ℕ, cond, List, eqb, ℤ, pos, length, take, replicate, Option}
use Rattle.answer.specs.Answer.{Answer, number, place}
use Rattle.curve.specs.Card.{Card}
use Rattle.listing.specs.Text.{refused_line, listing}
use Rattle.gather.specs.declared.Gathered.{Gathered}
use Rattle.gather.specs.Gathered.{most}
use Rattle.sheet.specs.Sheet.{sheet}
use Rattle.fit.specs.Fit.{fit}
use Rattle.fit.specs.Promise.{slopes_after, curvatures_after}

-- of a fit between these knots, whose slopes and curvatures go over two lent lists
unfoldable pub listing_by : Answer Card → (xs : List ℕ) (ys ms Ms : List ℤ) (fs : List (Option ℕ)) → List ℕ
listing_by f xs ys ms Ms fs = listing (number f) (place f) xs ys (slopes_after f ms) (curvatures_after f Ms) fs

unfoldable pub fit_listing : (xs : List ℕ) (ys ms Ms : List ℤ) (fs : List (Option ℕ)) → List ℕ
fit_listing xs ys ms Ms fs = listing_by (fit xs ys (length ms) (length Ms)) xs ys ms Ms fs

abbrev zeros : ℕ → List ℤ
zeros n = replicate n (pos 0)

unfoldable pub listed : Gathered → List ℕ
listed a =
    let n = a.knots in
    cond (eqb a.number 0) (fit_listing (take n a.minutes) (take n a.ordinates) (take n (zeros most)) (take n (zeros most)) (take n a.faults)) (refused_line a.number a.place)

abbrev pub printed : List ℕ → List ℕ
printed s = listed (sheet s)
