-- What the halving rule leaves: one gap, the gap of the minute, by so few looks. Document 02, order 7.
-- Assumes nothing.
use mathlib.Core.Path.{◌≡◌, refl, subst}
use mathlib.Core.Bool.{Bool, true, false, cond}
use mathlib.Core.List.{List}
use Prim.Native.Nat.{ℕ, zero, suc, ◌+◌, ◌-◌, ◌*◌, ◌/◌, ◌^◌, ◌≤◌, ◌<◌}
use native.Mathlib.Decide.{dec_lt}
use native.Mathlib.Nat.{pow-suc, pow-zero}
use native.Mathlib.Omega.{arith}
use borrow.Author.Tests.{ltb-true, ltb-false, lt-ltb, le-ltb}
use lib.Dec.{ltb}
use lib.ListN.{length, get_or}
use Rattle.curve.specs.Kind.{quintic}
use Rattle.curve.specs.Reading.{gap_of}
use Rattle.curve.proofs.Accepted.{Rises}
use Rattle.curve.proofs.Gap.{IsGap, gap_is, gap_once}
use Rattle.minutes.specs.declared.Left.{Left}
use Rattle.minutes.specs.Search.{middle, look, looking, every_gap, found}

-- ---- one look

-- what it leaves: the lower part, or the rest
abbrev lower_of : Left → Left
lower_of l = record { first = l.first; gaps = l.gaps / 2; looks = l.looks + 1 }

abbrev rest_of : Left → Left
rest_of l = record { first = l.first + l.gaps / 2; gaps = l.gaps - l.gaps / 2; looks = l.looks + 1 }

data Looked (l : Left) (minute knot : ℕ) : Left → Type 0 where
  lower : minute < knot → Looked l minute knot (lower_of l)
  rest : knot ≤ minute → Looked l minute knot (rest_of l)

looked : (l : Left) (minute knot : ℕ) → Looked l minute knot (look l minute knot)
unfolding look middle
looked l minute knot = go (ltb minute knot) refl
  where
    go : (b : Bool) → ltb minute knot ≡ b → Looked l minute knot (cond b (lower_of l) (rest_of l))
    go true e = lower (ltb-true _ _ e)
    go false e = rest (ltb-false _ _ e)

-- of more than one gap it leaves some, at most half of them, rounded up, among those that were left; and it is counted
pub record Kept (l l' : Left) : Type 0 where
  pub some : 0 < l'.gaps
  pub half : 2 * l'.gaps ≤ l.gaps + 1
  pub inside : l'.first + l'.gaps ≤ l.first + l.gaps
  pub counted : l'.looks ≡ l.looks + 1

pub kept : (l : Left) (minute knot : ℕ) → 1 < l.gaps → Kept l (look l minute knot)
kept l minute knot more = go (looked l minute knot)
  where
    go : {l' : Left} → Looked l minute knot l' → Kept l l'
    go (lower h) = record { some = omega arith; half = omega arith; inside = omega arith; counted = refl }
    go (rest h) = record { some = omega arith; half = omega arith; inside = omega arith; counted = refl }

module _ (xs : List ℕ) (minute : ℕ) where
  -- the look that is due
  abbrev next : Left → Left
  next l = look l minute (get_or xs (middle l) 0)

  kept_next : (l : Left) → 1 < l.gaps → Kept l (next l)
  kept_next l = kept l minute (get_or xs (middle l) 0)

  -- ---- all of them

  pub looking_next : (n : ℕ) (l : Left) → 1 < l.gaps → looking (suc n) xs minute l ≡ looking n xs minute (next l)
  unfolding looking
  looking_next n l h = rw (lt-ltb 1 l.gaps h)

  pub looking_end : (n : ℕ) (l : Left) → l.gaps ≤ 1 → looking n xs minute l ≡ l
  unfolding looking
  looking_end zero l h = refl
  looking_end (suc n) l h = rw (le-ltb 1 l.gaps h)

  -- what is left at the end: at most one gap, and what each look that was due has kept
  record Over (P : Left → Type 0) (l : Left) : Type 0 where
    keeps : P l
    one : l.gaps ≤ 1

  looked_through : (P : Left → Type 0) → ((l : Left) → 1 < l.gaps → P l → P (next l)) → (n : ℕ) (l : Left) → l.gaps ≤ suc n → P l → Over P (looking n xs minute l)
  looked_through P keep zero l h p = rw (looking_end zero l (omega arith)) (record { keeps = p; one = omega arith })
  looked_through P keep (suc n) l h p =
      elim (dec_lt 1 l.gaps) [
        | yes more ↦ rw (looking_next n l more) (looked_through P keep n (next l) (omega (arith, (kept_next l more).half)) (keep l more p))
        | no few ↦ rw (looking_end (suc n) l (omega (arith, few))) (record { keeps = p; one = omega (arith, few) })
      ]

  found_keeps : (P : Left → Type 0) → ((l : Left) → 1 < l.gaps → P l → P (next l)) → P (every_gap (length xs)) → Over P (found xs minute)
  unfolding found every_gap
  found_keeps P keep p = looked_through P keep (length xs) (every_gap (length xs)) (omega arith) p

  -- ---- exactly one gap is left

  pub found_one : 2 ≤ length xs → (found xs minute).gaps ≡ 1
  unfolding every_gap
  found_one h = let o = found_keeps (λ l. 0 < l.gaps) (λ l more p. (kept_next l more).some) (omega arith) in omega (arith, o.keeps, o.one)

  -- ---- it is the gap of the minute

  -- the minute's gap is among those left
  record Among (l : Left) : Type 0 where
    some : 0 < l.gaps
    inside : l.first + l.gaps < length xs
    from : get_or xs l.first 0 ≤ minute
    before : l.first + l.gaps + 1 < length xs → minute < get_or xs (l.first + l.gaps) 0

  among_next : (l : Left) → 1 < l.gaps → Among l → Among (next l)
  unfolding middle
  among_next l more a = go (looked l minute (get_or xs (l.first + l.gaps / 2) 0))
    where
      same : l.first + l.gaps ≡ l.first + l.gaps / 2 + (l.gaps - l.gaps / 2)
      same = omega arith

      go : {l' : Left} → Looked l minute (get_or xs (l.first + l.gaps / 2) 0) l' → Among l'
      go (lower h) = record { some = omega arith; inside = omega (arith, a.inside); from = a.from; before = λ k. h }
      go (rest h) = record { some = omega arith; inside = omega (arith, a.inside); from = h; before = λ k. subst (λ i. minute < get_or xs i 0) same (a.before (omega arith)) }

  left_is : 2 ≤ length xs → get_or xs 0 0 ≤ minute → IsGap xs minute (found xs minute).first
  unfolding every_gap
  left_is h start = record { inside = omega (arith, a.inside, one); from = a.from; before = λ k. subst (λ n. minute < get_or xs (l.first + n) 0) one (a.before (omega (arith, one))) }
    where
      l : Left
      l = found xs minute

      one : l.gaps ≡ 1
      one = found_one h

      a : Among l
      a = (found_keeps Among among_next (record { some = omega arith; inside = omega arith; from = start; before = λ k. absurd (omega arith) })).keeps

  -- "the gap read is the one the steps leave": from the first knot on, of minutes that rise
  pub found_gap : 2 ≤ length xs → Rises xs → get_or xs 0 0 ≤ minute → (found xs minute).first ≡ gap_of xs minute
  found_gap h r start = gap_once r (left_is h start) (gap_is xs minute start h)

  -- ---- by so few looks

  -- p looks are enough: so many were made, and the gaps left take no more than the others
  record Enough (p : ℕ) (l : Left) : Type 0 where
    to_come : ℕ
    counted : l.looks + to_come ≡ p
    few : l.gaps ≤ 2 ^ to_come

  enough_next : (p : ℕ) (l : Left) → 1 < l.gaps → Enough p l → Enough p (next l)
  enough_next p l more e = go e.to_come e.counted e.few
    where
      k : Kept l (next l)
      k = kept_next l more

      go : (n : ℕ) → l.looks + n ≡ p → l.gaps ≤ 2 ^ n → Enough p (next l)
      go zero c h = absurd (omega (arith, pow-zero 2))
      go (suc n) c h = record { to_come = n; counted = omega (arith, k.counted); few = omega (arith, k.half, pow-suc 2 n) }

  -- at most each p "for which 2 to the p is not below the number of gaps", and so the smallest; whatever the minutes are
  pub found_looks : (p : ℕ) → length xs - 1 ≤ 2 ^ p → (found xs minute).looks ≤ p
  unfolding every_gap
  found_looks p h = let e = (found_keeps (Enough p) (enough_next p) (record { to_come = p; counted = omega arith; few = h })).keeps in omega (arith, e.counted)

  -- "six for a full card"
  pub found_six : length xs ≤ quintic.most_knots → (found xs minute).looks ≤ 6
  unfolding quintic
  found_six h = found_looks 6 (omega arith)
