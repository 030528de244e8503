-- The knots of a sheet one by one, as the loop takes them, and what a caller may know of them: no more than their arrays have places.
-- Assumes nothing.
use Prim.Native.Nat.{ℕ, zero, suc, ◌+◌, ◌-◌, ◌≤◌, ◌<◌}
use mathlib.Core.Path.{◌≡◌, refl, ap, ◌∙◌}
use mathlib.Core.List.{List, map}
use native.Mathlib.Omega.{arith}
use native.Mathlib.Nat.{sub-zero}
use native.Mathlib.Numerals.{add-one}
use lib.IntN.{pos}
use lib.ListN.{length, replicate}
use lib.Seq.{length-sets}
use Rattle.answer.specs.Answer.{Answer, refused, given, Verdict, ◌then◌}
use Rattle.listing.specs.Text.{no_log}
use Rattle.gather.specs.declared.Gathered.{Gathered}
use Rattle.gather.specs.Gathered.{most, logs, filled, gathering, settled}
use Rattle.gather.specs.Step.{none, with_knot, with_knots, closing}
use Rattle.gather.proofs.Folding.{knot_by_knot}
use Rattle.text.specs.declared.Sheet.{Sheet}
use Rattle.reply.specs.Knots.{knot_at, knots_from, gathered}

-- the loop's invariant: what is left of the sheet decides
pub record Going (a : Sheet) (ls : List ℕ) (g : Gathered) (i : ℕ) : Type 0 where
  pub within : i ≤ a.knots
  pub so_many : g.knots ≡ i
  pub decides : with_knots g (knots_from a ls i (a.knots - i)) ≡ with_knots none (knots_from a ls 0 a.knots)

pub going_starts : (a : Sheet) (ls : List ℕ) → Going a ls none 0
unfolding settled
going_starts a ls = record { within = omega arith; so_many = refl; decides = rw sub-zero }

module _ {a : Sheet} {ls : List ℕ} {g : Gathered} {i : ℕ} (r : Going a ls g i) where
  pub going_on : i < a.knots → Going a ls (with_knot g (knot_at a ls i)) (i + 1)
  unfolding with_knot with_knots knots_from
  going_on h =
      let e : a.knots - i ≡ suc (a.knots - (i + 1)) = omega arith in
      record { within = omega arith; so_many = ap (λ n. n + 1) r.so_many; decides = rw (add-one i) (rw (e, add-one i) at r.decides) }

  pub going_ends : a.knots ≤ i → settled (closing g) ≡ gathered a ls
  unfolding with_knots knots_from
  going_ends h =
      let e : a.knots - i ≡ 0 = omega arith in
      ap (λ k. settled (closing k)) (rw e at r.decides) ∙ ap settled (knot_by_knot (knots_from a ls 0 a.knots))

-- ---- room

pub record Roomy (g : Gathered) : Type 0 where
  pub few : g.knots ≤ most
  pub minutes : length g.minutes ≡ most
  pub ordinates : length g.ordinates ≡ most
  pub faults : length g.faults ≡ most

roomy_then : (v : Verdict) (a : Answer Gathered) → Roomy (settled a) → Roomy (settled (v then a))
unfolding settled ◌then◌
roomy_then (refused number place) a r = record { few = omega arith; minutes = refl; ordinates = refl; faults = refl }
roomy_then (given u) a r = r

pub so_many_from : (a : Sheet) (ls : List ℕ) (i n : ℕ) → length (knots_from a ls i n) ≡ n
unfolding knots_from
so_many_from a ls i zero = refl
so_many_from a ls i (suc n) = ap suc (so_many_from a ls (suc i) n)

pub roomy : (a : Sheet) (ls : List ℕ) → a.knots ≤ most → Roomy (gathered a ls)
unfolding gathering filled settled
roomy a ls few =
    let ks = knots_from a ls 0 a.knots in
    roomy_then _ _ (roomy_then (logs 0 ks) (given (filled ks))
    (record {
      few = omega (arith, so_many_from a ls 0 a.knots);
      minutes = length-sets (replicate most 0) 0 (map (λ k. k.minute) ks);
      ordinates = length-sets (replicate most (pos 0)) 0 (map (λ k. k.ordinate) ks);
      faults = length-sets (replicate most no_log) 0 (map (λ k. k.faults) ks);
    }))
