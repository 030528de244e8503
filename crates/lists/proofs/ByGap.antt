-- The curve of a gap, as the code lays it: what it reads at the gap's minutes is what the card reads there.
-- Assumes nothing.
use Prim.Native.Nat.{ℕ, ◌+◌, ◌-◌, ◌≤◌}
use mathlib.Core.Path.{◌≡◌, sym, ap, ap₂, subst, ◌∙◌}
use mathlib.Core.Logic.{⊎_elim}
use mathlib.Core.List.{List}
use native.Mathlib.Nat.{le_of_lt, eq-or-lt_of_le}
use native.Mathlib.Omega.{arith}
use lib.IntN.{ℤ, pos, nat_abs}
use lib.ListN.{length, get_or}
use Rattle.curve.specs.Card.{Card, knot, gap}
use Rattle.curve.specs.Reading.{reads, reads_at, spell}
use Rattle.curve.proofs.Gap.{IsGap, gap_is, gap_once}
use Rattle.knots.specs.Lent.{lent}
use Rattle.gaps.specs.declared.Knot.{Knot}
use Rattle.gaps.specs.Knots.{placed}
use Rattle.gaps.specs.Limits.{InGap}
use Rattle.parts.specs.Limits.{Tame}
use Rattle.reading.specs.declared.Reading.{Reading}
use Rattle.reading.specs.Shown.{shown}
use Rattle.reading.proofs.Rounds.{reads_by_gap}
use Rattle.gap_curve.specs.declared.GapCurve.{GapCurve}
use Rattle.gap_curve.specs.GapCurve.{laid, read_of}
use Rattle.gap_curve.specs.Limits.{Laid}
use Rattle.gap_curve.proofs.LaidReads.{laid_reads}
use Rattle.lists.specs.Lists.{Checked, InPlace, numbers_at, curve_of, spell_of}
use Rattle.lists.proofs.Settled.{minutes_rise, settled_minute, settled_gap}

module _ {xs : List ℕ} {ys ms cs : List ℤ} (k : Checked xs ys ms cs) (j : ℕ) where
  abbrev card : Card
  card = lent xs ys ms cs 0 0

  abbrev h : ℕ
  h = get_or xs (j + 1) 0 - get_or xs j 0

  abbrev a : Knot
  a = numbers_at ys ms cs j

  abbrev b : Knot
  b = numbers_at ys ms cs (j + 1)

  -- the curve of the gap, as the code has it
  module _ {g : GapCurve} (e : g ≡ curve_of xs ys ms cs j) where
    pub h_is : g.h ≡ pos h
    unfolding laid
    h_is = ap (λ g. g.h) e

    module _ {minute : ℕ} (p : InPlace xs j minute) where
      abbrev pub curve_laid : Laid g
      curve_laid =
          record {
            from = a;
            to = b;
            tame = subst (λ z. Tame z a b) (sym h_is) (settled_gap k j minute p);
            is = e ∙ ap (λ z. laid z a b) (sym h_is);
          }

      pub minute_laid : {t : ℤ} → t ≡ pos (minute - get_or xs j 0) → InGap g.h t
      minute_laid q = rw (h_is, q) (settled_minute k j minute p)

      -- what it reads at a minute is the card's, by the place of the gap
      pub curve_reads : {t : ℤ} {r : Reading} → t ≡ pos (minute - get_or xs j 0) → r ≡ read_of g t → r ≡ shown (spell_of card j minute)
      unfolding knot gap
      curve_reads q f =
          f
          ∙ laid_reads curve_laid (minute_laid q)
          ∙ ap₂ (λ h t. shown (reads (placed 0 a) (placed (nat_abs h) b) (nat_abs t))) h_is q
          ∙ ap shown (reads_by_gap (knot card j) (knot card (j + 1)) (minute - get_or xs j 0))

  -- ---- a minute of it

  module _ {minute : ℕ} (g : IsGap xs minute j) where
    pub in_place : minute ≤ get_or xs (length xs - 1) 0 → InPlace xs j minute
    in_place last =
        record {
          inside = g.inside;
          from = g.from;
          to = ⊎_elim ends (λ l. le_of_lt (g.before l)) (eq-or-lt_of_le {n = j + 2} {m = length xs} (omega (arith, g.inside)));
        }
      where
        ends : j + 2 ≡ length xs → minute ≤ get_or xs (j + 1) 0
        ends q = let z : length xs - 1 ≡ j + 1 = omega arith in subst (λ i. minute ≤ get_or xs i 0) z last

    pub gap_reads : get_or xs 0 0 ≤ minute → reads_at card minute ≡ spell_of card j minute
    unfolding reads_at spell
    gap_reads first = ap (λ i. spell_of card i minute) (gap_once (minutes_rise k) (gap_is xs minute first (omega (arith, g.inside))) g)
