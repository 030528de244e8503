-- What lists that 4, 5, 6 and 9 accept give to the curve's arithmetic, for each kind whose limits pass the
-- tests of its gaps: each knot and each gap keeps within the limits that it asks for. Assumes nothing.
use mathlib.Core.Path.{◌≡◌, refl, ap, subst}
use mathlib.Core.Logic.{⊎_elim}
use mathlib.Core.List.{List}
use Prim.Native.Nat.{ℕ, zero, suc, ◌+◌, ◌-◌, ◌≤◌, ◌<◌, ◌^◌, min}
use native.Mathlib.Nat.{eq-or-lt_of_le}
use native.Mathlib.Numerals.{add-one}
use native.Mathlib.Omega.{arith}
use lib.Dec.{T}
use lib.IntN.{ℤ, pos, nat_abs}
use lib.ListN.{length, get_or}
use Rattle.curve.specs.Kind.{Kind}
use Rattle.curve.specs.Card.{back}
use Rattle.curve.proofs.Accepted.{Rises}
use Rattle.minutes.specs.Gaps.{left_gap, right_gap}
use Rattle.knots.proofs.Accepted.{Stood, Ranged, right_narrow, place_after, right_gap_is, curvature_by_left, curvature_by_right, curvature_before, curvature_after}
use Rattle.gaps.specs.declared.Knot.{Knot}
use Rattle.gaps.specs.Limits.{InGap, Keeps, limits}
use Rattle.gaps.proofs.Kept.{keeps}
use Rattle.parts.specs.Limits.{Tame, readable}
use Rattle.parts.proofs.OfKinds.{lower, in_gap, tame}
use Rattle.jumps.specs.Limits.{Tried, testable}
use Rattle.jumps.proofs.OfKinds.{tried}
use Rattle.lists.specs.Lists.{InPlace, numbers_at}

module _ (K : Kind) (reads : T (readable K)) {xs : List ℕ} {ys ms cs : List ℤ} (s : Stood K xs ys) (r : Ranged K xs ms cs) where
  abbrev numbers : ℕ → Knot
  numbers = numbers_at ys ms cs

  -- a knot's numbers, by a gap that its curvature keeps to
  keeps_by : (g i : ℕ) → i < length xs → nat_abs (get_or cs i (pos 0)) ≤ K.curvatures g → Keeps (limits K g) (numbers i)
  keeps_by g i l c = keeps K g (numbers i) (s.ordinates i l) (r.slopes i l) c

  module _ (i : ℕ) (l : i < length xs) where
    abbrev after : ℕ
    after = min (i + 1) (length xs - 1)

    right_keeps : Keeps (limits K (right_gap xs i)) (numbers i)
    right_keeps = keeps_by (right_gap xs i) i l (curvature_by_right (lower K reads) s r i l)

    after_keeps : Keeps (limits K (right_gap xs i)) (numbers after)
    after_keeps = keeps_by (right_gap xs i) after (omega arith) (curvature_after (lower K reads) s r i l)

    -- the knot between its gaps keeps within what the jump test asks
    pub knot_tried : T (testable K) → (square : ℕ) → square ≤ 2 ^ 8 → Tried (pos square) (pos (left_gap xs i)) (pos (right_gap xs i)) (numbers (back i)) (numbers i) (numbers after)
    unfolding back
    knot_tried tests square q =
        tried K tests square (left_gap xs i) (right_gap xs i) (numbers (back i)) (numbers i) (numbers after)
        (s.left_narrow i l) (right_narrow s i l)
        (keeps_by (left_gap xs i) (back i) (omega arith) (curvature_before (lower K reads) s r i l))
        (keeps_by (left_gap xs i) i l (curvature_by_left (lower K reads) s r i l))
        right_keeps after_keeps q

  -- what `reading::Reading::between` asks
  module _ (i minute : ℕ) (p : InPlace xs i minute) where
    abbrev h : ℕ
    h = get_or xs (i + 1) 0 - get_or xs i 0

    here : i < length xs
    here = omega (arith, p.inside)

    same : right_gap xs i ≡ h
    same = right_gap_is xs i p.inside

    pub narrow : h ≤ K.widest_gap
    narrow = subst (λ g. g ≤ K.widest_gap) same (right_narrow s i here)

    pub minute_in_gap : InGap (pos h) (pos (minute - get_or xs i 0))
    minute_in_gap = in_gap K reads h (minute - get_or xs i 0) (omega (arith, s.rising i p.inside)) narrow (omega (arith, p.to))

    pub gap_tame : Tame (pos h) (numbers i) (numbers (i + 1))
    gap_tame =
        tame K reads h (numbers i) (numbers (i + 1)) narrow
        (subst (λ g. Keeps (limits K g) (numbers i)) same (right_keeps i here))
        (subst (λ g. Keeps (limits K g) (numbers (i + 1))) same (subst (λ j. Keeps (limits K (right_gap xs i)) (numbers j)) (place_after (length xs) i p.inside) (after_keeps i here)))

-- ---- where there is no gap, the knot is its own neighbour

module _ (xs : List ℕ) (rising : Rises xs) (ys : List ℤ) where
  pub level_right : (i : ℕ) → i < length xs → right_gap xs i ≡ 0 → get_or ys (min (i + 1) (length xs - 1)) (pos 0) ≡ get_or ys i (pos 0)
  level_right i l e = ⊎_elim (λ q. ap (λ j. get_or ys j (pos 0)) (last q)) (λ q. absurd (inner q)) (eq-or-lt_of_le {n = i + 1} {m = length xs} (omega arith))
    where
      last : i + 1 ≡ length xs → min (i + 1) (length xs - 1) ≡ i
      last q = omega arith

      inner : i + 1 < length xs → ⊥
      inner q = omega (arith, rising i q, right_gap_is xs i q, e)

  pub level_left : (i : ℕ) → i < length xs → left_gap xs i ≡ 0 → get_or ys (back i) (pos 0) ≡ get_or ys i (pos 0)
  unfolding back
  level_left zero l e = refl
  level_left (suc i) l e = absurd never
    where
      never : ⊥
      never =
          let z : suc i - 1 ≡ i = omega arith in
          let a = subst (λ j. get_or xs i 0 < get_or xs j 0) (add-one i) (rising i (omega arith)) in
          let b = subst (λ j. get_or xs (suc i) 0 - get_or xs j 0 ≡ 0) z e in
          omega arith
