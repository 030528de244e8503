-- What one more knot was answered to have: what was answered before stands, and so do the lines. Assumes nothing.
use Prim.Native.Nat.{ℕ, suc, ◌<◌}
use mathlib.Core.Path.{◌≡◌, sym}
use mathlib.Core.List.{List, [], ◌∷◌, ◌++◌}
use native.Mathlib.Decide.{dec_lt}
use native.Mathlib.Omega.{arith}
use lib.IntN.{ℤ}
use lib.ListN.{length, get_or, length-append}
use Rattle.std.specs.Prelude.{Option}
use Rattle.std.proofs.Math.ListN.{get_or-append}
use Rattle.std.proofs.Math.Seq.{get_or-append_seam}
use Rattle.listing.specs.Text.{no_log, lines, line_of, Counted, Answered}
use Rattle.listing.proofs.Plain.{same_lines}

module _ (fs : List (Option ℕ)) (faults : Option ℕ) {n : ℕ} (e : length fs ≡ n) where
  before : (i : ℕ) → i < n → get_or (fs ++ (faults ∷ [])) i no_log ≡ get_or fs i no_log
  before i h = get_or-append fs (faults ∷ []) no_log i (omega arith)

  pub last : get_or (fs ++ (faults ∷ [])) n no_log ≡ faults
  last = rw (sym e) (get_or-append_seam fs faults [] no_log)

  pub answered_more : (answers : ℕ → Option ℕ → Type 0) → Answered answers n fs → answers n faults × Counted faults → Answered answers (suc n) (fs ++ (faults ∷ []))
  answered_more answers a b = (omega (arith, length-append fs (faults ∷ [])), λ i h. elim (dec_lt i n) [ yes l ↦ rw (before i l) (a.1 i l) | no l ↦ (let z : i ≡ n = omega (arith, h, l) in rw (z, last) b) ])

  pub lines_before : (xs : List ℕ) (ys ms Ms : List ℤ) → lines (line_of xs ys ms Ms (fs ++ (faults ∷ []))) n ≡ lines (line_of xs ys ms Ms fs) n
  unfolding line_of
  lines_before xs ys ms Ms = same_lines n (λ i h. rw (before i h))
