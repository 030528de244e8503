-- A table gap by gap: what is read of a gap at its minutes is what a reading there gives, and a list that is
-- filled up to one gap is filled on. Assumes nothing.
use Prim.Native.Nat.{ℕ, ◌+◌, ◌-◌, ◌≤◌, ◌<◌}
use mathlib.Core.Path.{◌≡◌, refl, sym, ap, ◌∙◌}
use mathlib.Core.List.{List}
use native.Mathlib.Nat.{lt_of_not-le}
use native.Mathlib.Decide.{dec_le}
use native.Mathlib.Omega.{arith}
use lib.IntN.{ℤ}
use lib.ListN.{length, get_or, set, length-set}
use Rattle.answer.specs.Answer.{accepted, given, ◌then◌}
use Rattle.front.proofs.Filled.{Filled, filled_more}
use Rattle.curve.specs.Card.{Card}
use Rattle.curve.specs.Reading.{reads_at}
use Rattle.curve.specs.Orders.{reading_order}
use Rattle.curve.proofs.Accepted.{Rises}
use Rattle.curve.proofs.Gap.{IsGap, card_in}
use Rattle.minutes.specs.Search.{found}
use Rattle.knots.specs.Lent.{lent}
use Rattle.reading.specs.declared.Reading.{Reading}
use Rattle.reading.specs.Shown.{shown}
use Rattle.lists.specs.Lists.{Checked, spell_of, answered, answer_at}
use Rattle.lists.proofs.ByGap.{gap_reads}
use Rattle.table.specs.Table.{Stops}

-- ---- a list

-- l' is l filled on from place i₀ to place i, whatever it was filled up to i₀ from
pub record FilledOn (f : ℕ → ℤ) (i₀ i : ℕ) (l l' : List ℤ) : Type 0 where
  pub same : length l' ≡ length l
  pub more : (l₀ : List ℤ) → Filled f i₀ l₀ l → Filled f i l₀ l'

pub on_none : {f : ℕ → ℤ} {i : ℕ} {l : List ℤ} → FilledOn f i i l l
on_none = record { same = refl; more = λ l₀ q. q }

pub on_more : {f : ℕ → ℤ} {i₀ i : ℕ} {l l' : List ℤ} {v : ℤ} → FilledOn f i₀ i l l' → i < length l' → v ≡ f i → FilledOn f i₀ (i + 1) l (set l' i v)
on_more {l'} {v} k room e =
    record { same = length-set l' _ v ∙ k.same; more = λ l₀ q. filled_more (k.more l₀ q) (omega (arith, (k.more l₀ q).same)) e }

-- ---- a minute of a gap

module _ {xs : List ℕ} {ys ms cs : List ℤ} (k : Checked xs ys ms cs) (j : ℕ) {minute : ℕ} (g : IsGap xs minute j) (first : get_or xs 0 0 ≤ minute) (last : minute ≤ get_or xs (length xs - 1) 0) where
  abbrev card : Card
  card = lent xs ys ms cs 0 0

  read_there : answer_at accepted card minute ≡ answered (found xs minute).looks (given (spell_of card j minute))
  unfolding answer_at reading_order ◌then◌
  read_there =
      ap (λ v. answered (found xs minute).looks (v then given (reads_at card minute))) (card_in xs minute first last)
      ∙ ap (λ r. answered (found xs minute).looks (given r)) (gap_reads k j g first)

  -- a reading's numbers are the card's there
  pub record Alike (r : Reading) : Type 0 where
    pub value : r.value ≡ (answer_at accepted card minute).value
    pub slope : r.slope ≡ (answer_at accepted card minute).slope
    pub curvature : r.curvature ≡ (answer_at accepted card minute).curvature

  pub alike : {r : Reading} → r ≡ shown (spell_of card j minute) → Alike r
  unfolding shown
  alike e =
      record {
        value = ap (λ r. r.value) e ∙ sym (ap (λ r. r.value) read_there);
        slope = ap (λ r. r.slope) e ∙ sym (ap (λ r. r.slope) read_there);
        curvature = ap (λ r. r.curvature) e ∙ sym (ap (λ r. r.curvature) read_there);
      }

-- ---- from gap to gap

module _ {xs : List ℕ} {from count j i r : ℕ} (s : Stops xs from count j r) (g : IsGap xs (from + i) j) where
  pub not_past : i < count → i ≤ r
  not_past l = elim (dec_le i r) [ yes h ↦ h | no h ↦ absurd (past (lt_of_not-le h)) ]
    where
      past : r < i → ⊥
      past h = let n = s.next (omega arith) in omega (arith, n.1, g.before n.0)

  -- a later minute before the stop
  pub still : {i' : ℕ} → i ≤ i' → i' < r → IsGap xs (from + i') j
  still p q = record { inside = g.inside; from = omega (arith, g.from); before = λ l. omega (arith, s.before l) }

pub on_to : {xs : List ℕ} {from count j r : ℕ} → Rises xs → Stops xs from count j r → r < count → IsGap xs (from + r) (j + 1)
on_to {xs} {j} rise s l =
    let n = s.next l in
    record { inside = omega (arith, n.0); from = omega (arith, n.1); before = λ m. omega (arith, n.1, rise (j + 1) (omega arith)) }
