-- A text that names no log is answered as it was before there were any: by the knots that are written down in it, and whatever the logs are.
-- Assumes nothing.
use Prim.Native.Nat.{ℕ, zero, suc, ◌+◌, ◌≤◌}
use mathlib.Core.Path.{◌≡◌, refl, sym, ap, ap₂, ◌∙◌}
use mathlib.Core.Bool.{Bool}
use mathlib.Core.List.{List, ◌∷◌, map}
use native.Mathlib.Omega.{arith}
use lib.IntN.{pos}
use lib.ListN.{length, length-map, take, drop, get_or, replicate}
use lib.Seq.{sets, sets-eq, take_at, drop-cons}
use Rattle.answer.specs.Answer.{accepted, ◌then◌}
use Rattle.curve.specs.Kind.{quintic}
use Rattle.curve.specs.Steps.{counted}
use Rattle.listing.specs.Text.{no_log}
use Rattle.std.specs.Prelude.{Result, Ok, Err}
use Rattle.text.specs.declared.Blame.{Blame}
use Rattle.text.specs.declared.Sheet.{Sheet}
use Rattle.text.specs.Sheet.{most, sheet}
use Rattle.text.proofs.Room.{Roomy}
use Rattle.gather.specs.declared.Knot.{Knot}
use Rattle.gather.specs.Gathered.{plain, logs, filled, gathering, settled}
use Rattle.reply.specs.Knots.{knot_at, knots_from, gathered}
use Rattle.reply.specs.Reply.{ToKnots, gathered_reply, sheet_answer, text_reply}
use Rattle.reply.proofs.Gathers.{so_many_from}
use Rattle.made_card.specs.Made.{read_sheet, the_sheet, Logless, written_reply}
use Rattle.made_card.proofs.Typed.{roomy_sheet}

module _ (a : Sheet) (none : Logless a) (ls : List ℕ) where
  abbrev n : ℕ
  n = a.knots

  as_it_stands : (i : ℕ) → knot_at a ls i ≡ plain (get_or a.minutes i 0) (get_or a.ordinates i (pos 0))
  unfolding knot_at
  as_it_stands i = rw (none i)

  -- ---- one of the lists

  module _ {A : Type 0} (of : Knot → A) (l : List A) (z : A) (same : (i : ℕ) → of (knot_at a ls i) ≡ get_or l i z) where
    its_list : (i k : ℕ) → i + k ≤ length l → map of (knots_from a ls i k) ≡ take k (drop i l)
    unfolding knots_from
    its_list i zero h = refl
    its_list i (suc k) h = ap₂ (λ v vs. v ∷ vs) (same i) (its_list (suc i) k (omega arith)) ∙ rw (drop-cons l i z (omega arith))

  abbrev ks : List Knot
  ks = knots_from a ls 0 n

  no_faults : (i k : ℕ) → map (λ k. k.faults) (knots_from a ls i k) ≡ replicate k no_log
  unfolding knots_from plain
  no_faults i zero = refl
  no_faults i (suc k) = ap₂ (λ v vs. v ∷ vs) (ap (λ k. k.faults) (as_it_stands i)) (no_faults (suc i) k)

  module _ (room : Roomy a) where
    front : {A : Type 0} (of : Knot → A) (z : A) → take n (sets (replicate most z) 0 (map of ks)) ≡ map of ks
    front of z =
        let so_many : length (map of ks) ≡ n = length-map ks of ∙ so_many_from a ls 0 n in
        ap (take n) (sets-eq (map of ks) (replicate most z) 0 (omega (arith, so_many, room.few))) ∙ take_at (map of ks) _ n so_many

    its_minutes : take n (sets (replicate most 0) 0 (map (λ k. k.minute) ks)) ≡ take n a.minutes
    unfolding plain
    its_minutes = front (λ k. k.minute) 0 ∙ its_list (λ k. k.minute) a.minutes 0 (λ i. ap (λ k. k.minute) (as_it_stands i)) 0 n (omega (arith, room.few, room.minutes))

    its_ordinates : take n (sets (replicate most (pos 0)) 0 (map (λ k. k.ordinate) ks)) ≡ take n a.ordinates
    unfolding plain
    its_ordinates =
        front (λ k. k.ordinate) (pos 0) ∙ its_list (λ k. k.ordinate) a.ordinates (pos 0) (λ i. ap (λ k. k.ordinate) (as_it_stands i)) 0 n (omega (arith, room.few, room.ordinates))

    its_faults : take n (sets (replicate most no_log) 0 (map (λ k. k.faults) ks)) ≡ replicate n no_log
    its_faults = front (λ k. k.faults) no_log ∙ no_faults 0 n

    -- ---- all of them

    none_refuses : (j i k : ℕ) → logs j (knots_from a ls i k) ≡ accepted
    unfolding knots_from plain logs ◌then◌
    none_refuses j i zero = refl
    none_refuses j i (suc k) = rw (as_it_stands i) (none_refuses (suc j) (suc i) k)

    module _ (enough : counted quintic n ≡ accepted) where
      all_taken : gathered a ls ≡ filled ks
      unfolding gathering settled ◌then◌
      all_taken = rw (so_many_from a ls 0 n, enough, none_refuses 0 0 n)

      pub as_they_stand : (to-knots : ToKnots) (lines card : List ℕ)
          → gathered_reply to-knots (gathered a ls) lines card ≡ to-knots (take n a.minutes) (take n a.ordinates) (take n (replicate most (pos 0))) (take n (replicate most (pos 0))) (replicate n no_log) lines card
      unfolding gathered_reply filled
      as_they_stand to-knots lines card = rw (all_taken, so_many_from a ls 0 n, its_minutes, its_ordinates, its_faults)

same_knots : (a : Sheet) → Logless a → (l l' : List ℕ) (i k : ℕ) → knots_from a l i k ≡ knots_from a l' i k
unfolding knots_from
same_knots a none l l' i zero = refl
same_knots a none l l' i (suc k) = ap₂ (λ v vs. v ∷ vs) (as_it_stands a none l i ∙ sym (as_it_stands a none l' i)) (same_knots a none l l' (suc i) k)

module _ (mends : Bool) (to-knots : Sheet → ToKnots) (s : List ℕ) (none : Logless (the_sheet mends s)) where
  -- a sheet of 3 to 64 knots, in which nothing is wrong
  pub as_before_logs : sheet mends s ≡ Ok (the_sheet mends s) → counted quintic (the_sheet mends s).knots ≡ accepted → (logs card : List ℕ)
      → text_reply mends to-knots s logs card ≡ written_reply (to-knots (the_sheet mends s)) (the_sheet mends s) card
  unfolding sheet_answer
  as_before_logs sound enough logs card =
      ap (λ r. sheet_answer to-knots s r logs card) sound
      ∙ as_they_stand (the_sheet mends s) none logs (roomy_sheet mends s) enough (to-knots (the_sheet mends s)) (the_sheet mends s).lines card

  -- and any other
  pub whatever_the_logs : (logs logs' card : List ℕ) → text_reply mends to-knots s logs card ≡ text_reply mends to-knots s logs' card
  unfolding sheet_answer
  whatever_the_logs logs logs' card = go (sheet mends s) none
    where
      go : (r : Result Sheet Blame) → Logless (read_sheet r) → sheet_answer to-knots s r logs card ≡ sheet_answer to-knots s r logs' card
      go (Err b) none = refl
      go (Ok a) none = rw (same_knots a none logs logs' 0 a.knots)
