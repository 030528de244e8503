-- A listing of knots of which none is a log's is the one without faults, byte for byte. And a listing reads the faults of its own knots alone.
-- Assumes nothing.
use Prim.Native.Nat.{ℕ, zero, suc, ◌<◌}
use mathlib.Core.Path.{◌≡◌, refl, sym, ◌∙◌, ap₂}
use mathlib.Core.List.{List, [], ◌++◌}
use native.Mathlib.Omega.{arith}
use lib.IntN.{ℤ}
use Rattle.std.specs.Prelude.{Option}
use Rattle.std.proofs.lemmas.List.{get_or-take}
use lib.ListN.{length, take, get_or}
use Rattle.listing.specs.Text.{no_log, lines, line_of, listing}
use Rattle.listing.proofs.Lengths.{refused_listing}

pub same_lines : {line line' : ℕ → List ℕ} (n : ℕ) → ((i : ℕ) → i < n → line i ≡ line' i) → lines line n ≡ lines line' n
unfolding lines
same_lines zero same = refl
same_lines (suc n) same = ap₂ (λ l m. l ++ m) (same_lines n (λ i h. same i (omega arith))) (same n (omega arith))

pub same_faults : (number place : ℕ) (xs : List ℕ) (ys ms Ms : List ℤ) (fs gs : List (Option ℕ)) → (number ≡ 0 → (i : ℕ) → i < length xs → get_or fs i no_log ≡ get_or gs i no_log)
    → listing number place xs ys ms Ms fs ≡ listing number place xs ys ms Ms gs
unfolding listing line_of
same_faults zero place xs ys ms Ms fs gs same = rw (same_lines {line = line_of xs ys ms Ms fs} {line' = line_of xs ys ms Ms gs} (length xs) (λ i h. rw (same refl i h)))
same_faults (suc number) place xs ys ms Ms fs gs same =
    let h : suc number ≡ 0 → ⊥ = λ z. omega (arith, z) in
    refused_listing _ place xs ys ms Ms fs h ∙ sym (refused_listing _ place xs ys ms Ms gs h)

pub as_without_faults : (number place : ℕ) (xs : List ℕ) (ys ms Ms : List ℤ) (fs : List (Option ℕ)) → ((i : ℕ) → get_or fs i no_log ≡ no_log)
    → listing number place xs ys ms Ms fs ≡ listing number place xs ys ms Ms []
as_without_faults number place xs ys ms Ms fs none = same_faults number place xs ys ms Ms fs [] (λ z i h. none i)

pub first_faults : (number place : ℕ) (xs : List ℕ) (ys ms Ms : List ℤ) (fs : List (Option ℕ)) {n : ℕ} → n ≡ length xs
    → listing number place xs ys ms Ms fs ≡ listing number place xs ys ms Ms (take n fs)
first_faults number place xs ys ms Ms fs e = same_faults number place xs ys ms Ms fs _ (λ z i h. sym (get_or-take _ fs i no_log (omega (arith, e, h))))
