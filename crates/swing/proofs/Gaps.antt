-- A gap of a card: at its knots the card reads the knots' own ordinates, so that nothing is beyond there, and
-- the minutes between them decide. Assumes nothing.
use mathlib.Core.Path.{◌≡◌, sym, ap, ap₂, ◌∙◌}
use mathlib.Core.Logic.{⊎_elim}
use mathlib.Core.List.{List}
use Prim.Native.Nat.{ℕ, ◌+◌, ◌-◌, ◌≤◌, ◌<◌}
use native.Mathlib.Nat.{le_refl, eq-or-lt_of_le}
use native.Mathlib.Omega.{arith}
use lib.IntN.{ℤ, pos}
use lib.ListN.{length, get_or}
use Rattle.curve.specs.Card.{Card, knot, gap}
use Rattle.curve.specs.Reading.{reads, reads_at}
use Rattle.curve.specs.Demand.{numbers}
use Rattle.curve.proofs.Accepted.{never_fall}
use Rattle.curve.proofs.Knots.{reads_left, reads_right}
use Rattle.curve.proofs.Gap.{IsGap}
use Rattle.knots.specs.Lent.{lent}
use Rattle.reading.specs.declared.Reading.{Reading}
use Rattle.reading.specs.Shown.{shown}
use Rattle.lists.specs.Lists.{Checked, InPlace, spell_of}
use Rattle.lists.proofs.Settled.{minutes_rise}
use Rattle.lists.proofs.ByGap.{gap_reads}
use Rattle.swing.specs.declared.GapSwing.{GapSwing}
use Rattle.swing.specs.declared.Reach.{Reach}
use Rattle.swing.specs.Swing.{below, above, peak, below_at, above_at, gap_swing, further}
use Rattle.swing.proofs.Beyond.{below_left, below_right, above_left, above_right}
use Rattle.swing.proofs.Peak.{peak_stays, reached, reaches_on}

module _ {xs : List ℕ} {ys ms cs : List ℤ} (k : Checked xs ys ms cs) (j : ℕ) (inside : j + 1 < length xs) where
  abbrev card : Card
  card = lent xs ys ms cs 0 0

  abbrev x : ℕ
  x = get_or xs j 0

  abbrev x' : ℕ
  x' = get_or xs (j + 1) 0

  pub wide : x < x'
  wide = minutes_rise k j inside

  first : (minute : ℕ) → x ≤ minute → get_or xs 0 0 ≤ minute
  first minute l = omega (arith, never_fall xs (minutes_rise k) 0 j (omega arith) (omega arith))

  -- ---- a minute before the right knot

  here : (t : ℕ) → t < x' - x → IsGap xs (x + t) j
  here t l = record { inside = inside; from = omega arith; before = λ m. omega (arith, wide) }

  pub place : (t : ℕ) → t < x' - x → InPlace xs j (x + t)
  place t l = record { inside = inside; from = omega arith; to = omega (arith, wide) }

  -- what the gap's curve reads there, the card reads
  pub reads_there : (t : ℕ) → t < x' - x → {r : Reading} → r ≡ shown (spell_of card j (x + t)) → r.value ≡ (reads_at card (x + t)).value
  unfolding shown
  reads_there t l e = ap (λ r. r.value) e ∙ sym (ap (λ r. r.value) (gap_reads k j (here t l) (first (x + t) (omega arith))))

  -- ---- the knots

  at_left : (reads_at card (x + 0)).value ≡ get_or ys j (pos 0)
  unfolding knot gap numbers
  at_left =
      let none : x + 0 - x ≡ 0 = omega arith in
      ap (λ r. r.value)
      (gap_reads k j (here 0 (omega (arith, wide))) (first (x + 0) (omega arith))
      ∙ ap (reads (knot card j) (knot card (j + 1))) none
      ∙ reads_left (knot card j) (knot card (j + 1)) (omega (arith, wide)))

  at_right : (reads_at card x').value ≡ get_or ys (j + 1) (pos 0)
  unfolding knot gap numbers
  at_right = ⊎_elim last inner (eq-or-lt_of_le {n = j + 2} {m = length xs} (omega arith))
    where
      -- the last knot is the last gap's
      last : j + 2 ≡ length xs → (reads_at card x').value ≡ get_or ys (j + 1) (pos 0)
      last q =
          ap (λ r. r.value)
          (gap_reads k j (record { inside = inside; from = omega (arith, wide); before = λ m. absurd (omega arith) }) (first x' (omega (arith, wide)))
          ∙ reads_right (knot card j) (knot card (j + 1)) (omega (arith, wide)))

      -- an inner one the next gap's
      inner : j + 2 < length xs → (reads_at card x').value ≡ get_or ys (j + 1) (pos 0)
      inner q =
          let rise = minutes_rise k (j + 1) (omega arith) in
          let none : x' - x' ≡ 0 = omega arith in
          ap (λ r. r.value)
          (gap_reads k (j + 1) (record { inside = omega arith; from = le_refl x'; before = λ m. rise }) (first x' (omega (arith, wide)))
          ∙ ap (reads (knot card (j + 1)) (knot card (j + 1 + 1))) none
          ∙ reads_left (knot card (j + 1)) (knot card (j + 1 + 1)) (omega (arith, rise)))

  at_end : (reads_at card (x + (x' - x))).value ≡ get_or ys (j + 1) (pos 0)
  at_end = let whole : x + (x' - x) ≡ x' = omega (arith, wide) in ap (λ m. (reads_at card m).value) whole ∙ at_right

  -- ---- what is beyond them

  -- at a minute between the knots, as the code has the ordinates and the reading
  module _ (t : ℕ) (some : 1 ≤ t) (l : t < x' - x) {r : Reading} (e : r ≡ shown (spell_of card j (x + t))) {y y' v : ℤ} (p : y ≡ get_or ys j (pos 0)) (p' : y' ≡ get_or ys (j + 1) (pos 0)) (q : v ≡ r.value) where
    pub low_on : {low low' : Reach} {n : ℕ} → low ≡ reached (below_at card j) (t - 1) → n ≡ below y y' v → low' ≡ further low n t → low' ≡ reached (below_at card j) t
    unfolding below_at knot
    low_on f g h = h ∙ ap₂ (λ r n. further r n t) f (g ∙ rw (p, p', q, reads_there t l e)) ∙ reaches_on (below_at card j) t some

    pub high_on : {high high' : Reach} {n : ℕ} → high ≡ reached (above_at card j) (t - 1) → n ≡ above y y' v → high' ≡ further high n t → high' ≡ reached (above_at card j) t
    unfolding above_at knot
    high_on f g h = h ∙ ap₂ (λ r n. further r n t) f (g ∙ rw (p, p', q, reads_there t l e)) ∙ reaches_on (above_at card j) t some

  pub low_start : ◌≡◌ {A = Reach} (record { by = 0; at = 0 }) (reached (below_at card j) 0)
  unfolding below_at knot peak
  low_start = rw (at_left, below_left (get_or ys j (pos 0)) (get_or ys (j + 1) (pos 0)))

  pub high_start : ◌≡◌ {A = Reach} (record { by = 0; at = 0 }) (reached (above_at card j) 0)
  unfolding above_at knot peak
  high_start = rw (at_left, above_left (get_or ys j (pos 0)) (get_or ys (j + 1) (pos 0)))

  below_end : below_at card j (x' - x) ≡ 0
  unfolding below_at knot
  below_end = ap (below (get_or ys j (pos 0)) (get_or ys (j + 1) (pos 0))) at_end ∙ below_right _ _

  above_end : above_at card j (x' - x) ≡ 0
  unfolding above_at knot
  above_end = ap (above (get_or ys j (pos 0)) (get_or ys (j + 1) (pos 0))) at_end ∙ above_right _ _

  -- the right knot adds nothing to what was reached before it
  at_last : (f : ℕ → ℕ) → f (x' - x) ≡ 0 → (t : ℕ) → t + 1 ≡ x' - x → peak f (x' - x) ≡ peak f t
  at_last f e t q = ap (peak f) (sym q) ∙ peak_stays f t (omega (arith, ap f q, e))

  pub gap_reached : (t : ℕ) → t + 1 ≡ x' - x → (low high : Reach) → low ≡ reached (below_at card j) t → high ≡ reached (above_at card j) t
      → ◌≡◌ {A = GapSwing} (record { below = low.by; lowest = x + low.at; above = high.by; highest = x + high.at }) (gap_swing card j)
  unfolding gap_swing knot gap
  gap_reached t q low high p r =
      rw (p, r, at_last (below_at card j) below_end t q, at_last (above_at card j) above_end t q)
