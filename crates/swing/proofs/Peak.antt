-- The first place at which a function is largest: it is one of the places, nowhere is the function larger,
-- and before it smaller. Assumes nothing.
use mathlib.Core.Path.{◌≡◌, refl, sym, ap, ◌∙◌, subst}
use mathlib.Core.Bool.{Bool, true, false, cond}
use Prim.Native.Nat.{ℕ, zero, suc, ◌+◌, ◌-◌, ◌≤◌, ◌<◌}
use native.Mathlib.Nat.{le_refl}
use native.Mathlib.Numerals.{add-one}
use native.Mathlib.Decide.{ℕ_discrete}
use native.Mathlib.Omega.{arith}
use lib.Dec.{ltb}
use borrow.Author.Tests.{ltb-true, ltb-false, le-ltb}
use Rattle.swing.specs.declared.GapSwing.{GapSwing}
use Rattle.swing.specs.declared.Reach.{Reach}
use Rattle.swing.specs.declared.AtKnot.{AtKnot}
use Rattle.swing.specs.Swing.{peak, furthest, further, wider}

pub record FirstLargest (f : ℕ → ℕ) (n p : ℕ) : Type 0 where
  pub inside : p ≤ n
  pub largest : (i : ℕ) → i ≤ n → f i ≤ f p
  pub first : (i : ℕ) → i < p → f i < f p

module _ (f : ℕ → ℕ) where
  pub peak_is : (n : ℕ) → FirstLargest f n (peak f n)
  unfolding peak
  peak_is zero = record { inside = omega arith; largest = λ i l. rw (none i l) (le_refl (f zero)); first = λ i l. absurd (omega arith) }
    where
      none : (i : ℕ) → i ≤ zero → i ≡ zero
      none i l = omega arith
  peak_is (suc n) = go (peak_is n) (ltb (f (peak f n)) (f (suc n))) refl
    where
      -- no further than at the last place, or than at another of the places
      either : {m : ℕ} → f (suc n) ≤ m → ((i : ℕ) → i ≤ n → f i ≤ m) → (i : ℕ) → i ≤ suc n → f i ≤ m
      either {m} last others i l = elim (ℕ_discrete i (suc n)) [ yes s ↦ subst (λ k. f k ≤ m) (sym s) last | no s ↦ others i (omega arith) ]

      go : FirstLargest f n (peak f n) → (b : Bool) → ltb (f (peak f n)) (f (suc n)) ≡ b → FirstLargest f (suc n) (cond b (suc n) (peak f n))
      go ih true e =
          let more : f (peak f n) < f (suc n) = ltb-true _ _ e in
          record { inside = omega arith; largest = either (le_refl (f (suc n))) (λ i l. omega (arith, ih.largest i l)); first = λ i l. omega (arith, ih.largest i (omega arith)) }
      go ih false e = record { inside = omega (arith, ih.inside); largest = either (ltb-false _ _ e) ih.largest; first = ih.first }

  -- a place that is no larger changes nothing
  pub peak_stays : (n : ℕ) → f (n + 1) ≤ f (peak f n) → peak f (n + 1) ≡ peak f n
  unfolding peak
  peak_stays n h = ap (peak f) (add-one n) ∙ ap (λ b. cond b (suc n) (peak f n)) (le-ltb _ _ (subst (λ k. f k ≤ f (peak f n)) (add-one n) h))

-- ---- what the code keeps of the places so far

-- the one at hand takes the other's place where it is larger
keeps : {A : Type 0} (f : ℕ → ℕ) (of : ℕ → A) (n : ℕ) → cond (ltb (f (peak f n)) (f (n + 1))) (of (n + 1)) (of (peak f n)) ≡ of (peak f (n + 1))
unfolding peak
keeps f of n = ap (λ k. cond (ltb (f (peak f n)) (f k)) (of k) (of (peak f n))) (add-one n) ∙ go (ltb (f (peak f n)) (f (suc n))) ∙ ap (λ k. of (peak f k)) (sym (add-one n))
  where
    go : (b : Bool) → cond b (of (suc n)) (of (peak f n)) ≡ of (cond b (suc n) (peak f n))
    go true = refl
    go false = refl

abbrev pub reached : (ℕ → ℕ) → ℕ → Reach
reached f n = record { by = f (peak f n); at = peak f n }

pub reaches_on : (f : ℕ → ℕ) (n : ℕ) → 1 ≤ n → further (reached f (n - 1)) (f n) n ≡ reached f n
unfolding further
reaches_on f zero h = absurd (omega arith)
reaches_on f (suc n) h =
    let back : suc n - 1 ≡ n = omega arith in
    rw back (subst (λ k. further (reached f n) (f k) k ≡ reached f k) (add-one n) (keeps f (λ i. record { by = f i; at = i }) n))

abbrev pub widest_so_far : (ℕ → GapSwing) → ℕ → AtKnot
widest_so_far g n = let p = peak (λ j. furthest (g j)) n in record { knot = p; gap = g p }

pub widest_on : (g : ℕ → GapSwing) (n : ℕ) {w w' : AtKnot} {next : GapSwing} → 1 ≤ n → w ≡ widest_so_far g (n - 1) → next ≡ g n → w' ≡ wider w n next → w' ≡ widest_so_far g n
unfolding wider
widest_on g zero some e q h = absurd (omega arith)
widest_on g (suc n) some e q h =
    let back : suc n - 1 ≡ n = omega arith in
    h ∙ rw (e, q, back) (subst (λ k. wider (widest_so_far g n) k (g k) ≡ widest_so_far g k) (add-one n) (keeps (λ j. furthest (g j)) (λ i. record { knot = i; gap = g i }) n))
