-- Document 02, order 8, by computation: cards judged as kind 1 and as kind 6, on each side of kind 6's own
-- limits; and 2 card units are attained. Assumes nothing.
use mathlib.Core.Path.{◌≡◌, refl, sym, ap, ◌∙◌}
use mathlib.Core.Bool.{Bool, true, false}
use mathlib.Core.List.{List, [], ◌∷◌, map}
use Prim.Native.Nat.{ℕ, zero, suc, ◌+◌, ◌*◌, ◌<◌}
use native.Mathlib.Omega.{arith}
use lib.IntN.{ℤ, pos, nat_abs, ◌-ℤ◌, *ℤ-zero}
use lib.Dec.{T, lit<}
use lib.ListN.{replicate}
use Rattle.whole.specs.Whole.{◌·◌, minus, beyond}
use Rattle.whole.proofs.Ring.{*ℤ_idl}
use Rattle.whole.proofs.Order.{abs_neg}
use Rattle.whole.proofs.Solve.{◌:-◌, ◌:*◌, :neg, #, ring}
use Rattle.answer.specs.Answer.{Verdict, refused, accepted, ◌then◌, refuse, each}
use Rattle.curve.specs.Formula.{power, worth, amount}
use Rattle.curve.specs.Curve.{Order, third, fourth, degree, rightward, leftward, allowance, equation, equals}
use Rattle.curve.specs.Kind.{Spot, quintic, quintic_asks, sloped, sloped_asks, sloped_allowance}
use Rattle.curve.specs.Card.{Card, knots, knot, back, on, gap, spot, joint}
use Rattle.curve.specs.Jump.{inverse, clear, over, rise, jump, allowed, jumps}
use Rattle.curve.specs.Steps.{slope_beyond, curvature_beyond, lengths, counted, codes, stands, in_range, smooth}
use Rattle.curve.specs.Orders.{numbers_sound, sound, verdict}
use Rattle.curve.specs.Exact.{Meets, Exact}
use Rattle.curve.proofs.Cases.{table_3}
use Rattle.sloped.specs.Sloped.{WithinTwo}
use Rattle.sloped.proofs.Sloped.{within_two}

-- three knots with free ends
unfoldable pub three : List ℕ → List ℤ → List ℤ → List ℤ → Card
three xs ys ms Ms = record { minutes = xs; ordinates = ys; slopes = ms; curvatures = Ms; left = 0; right = 0 }

abbrev zeros : List ℤ
zeros = pos 0 ∷ pos 0 ∷ pos 0 ∷ []

-- no ordinates and no slopes: the exact curvatures are 0
unfoldable pub bent : List ℕ → List ℤ → Card
bent xs Ms = three xs zeros zeros Ms

-- gaps of one minute, and of the widest
abbrev narrow : List ℕ
narrow = 0 ∷ 1 ∷ 2 ∷ []

abbrev wide : List ℕ
wide = 0 ∷ sloped.widest_gap ∷ (sloped.widest_gap + sloped.widest_gap) ∷ []

-- one of each
abbrev pub uneven : List ℕ
uneven = 0 ∷ 1 ∷ suc sloped.widest_gap ∷ []

abbrev coded : ℕ → ℕ → Card
coded left right = record { minutes = narrow; ordinates = zeros; slopes = zeros; curvatures = zeros; left = left; right = right }

-- straight, without a slope
abbrev flat : List ℕ → List ℤ → Card
flat xs ys = three xs ys zeros zeros

-- as many knots, a minute apart
abbrev counting : ℕ → ℕ → List ℕ
counting i zero = []
counting i (suc n) = i ∷ counting (suc i) n

abbrev many : ℕ → Card
many n = let none = replicate n (pos 0) in record { minutes = counting 0 n; ordinates = none; slopes = none; curvatures = none; left = 0; right = 0 }

-- 128·t² about its middle knot: slopes and curvatures at their limits
abbrev parabola : List ℤ → List ℤ → Card
parabola ms Ms = three narrow (pos 128 ∷ pos 0 ∷ pos 128 ∷ []) ms Ms

abbrev most_slope : ℕ
most_slope = sloped.slopes

abbrev most_curvature : ℕ
most_curvature = sloped.curvatures 1

abbrev steepest : List ℤ
steepest = minus most_slope ∷ pos 0 ∷ pos most_slope ∷ []

abbrev roundest : ℤ → List ℤ
roundest M = pos most_curvature ∷ M ∷ pos most_curvature ∷ []

-- a card, and its verdict under either kind
pub record Case : Type 0 where
  pub card : Card
  pub as_1 : Verdict
  pub as_6 : Verdict

abbrev case : Card → Verdict → Verdict → Case
case c one six = record { card = c; as_1 = one; as_6 = six }

-- the third derivative jumps by less than the allowance, the fourth by more: at both ends; at the inner knot
unfoldable pub fourth_at_ends : Card
fourth_at_ends = three (0 ∷ 8 ∷ 16 ∷ []) (pos 0 ∷ pos 100 ∷ pos 0 ∷ []) zeros (pos 32_000 ∷ minus 32_000 ∷ pos 32_000 ∷ [])

unfoldable pub fourth_inside : Card
fourth_inside = three (0 ∷ 8 ∷ 16 ∷ []) zeros (pos 0 ∷ pos 8 ∷ pos 0 ∷ []) (minus 3 ∷ pos 0 ∷ pos 3 ∷ [])

unfoldable pub cases : List Case
cases =
    -- 4g at both ends and 4g + 4p inside, all three at once, on either side of zero, whatever the gaps
    case (bent narrow (pos 2 ∷ pos 2 ∷ pos 2 ∷ [])) accepted accepted
    ∷ case (bent narrow (minus 2 ∷ minus 2 ∷ minus 2 ∷ [])) accepted accepted
    ∷ case (bent wide (pos 2 ∷ pos 2 ∷ pos 2 ∷ [])) accepted accepted
    ∷ case (bent uneven (pos 2 ∷ pos 2 ∷ pos 2 ∷ [])) accepted accepted
    ∷ case (bent uneven (minus 2 ∷ minus 2 ∷ minus 2 ∷ [])) accepted accepted
    ∷ case (bent (0 ∷ 2 ∷ 5 ∷ []) (pos 1 ∷ minus 1 ∷ pos 1 ∷ [])) accepted accepted
    -- one past: 5 where 4 is allowed at the left end, 9 where 8 is inside, 5 where 4 is at the right end
    ∷ case (bent narrow (pos 2 ∷ pos 1 ∷ pos 0 ∷ [])) accepted (refused 10 0)
    ∷ case (bent narrow (pos 2 ∷ pos 2 ∷ pos 1 ∷ [])) accepted (refused 10 1)
    ∷ case (bent narrow (pos 0 ∷ pos 1 ∷ pos 2 ∷ [])) accepted (refused 10 2)
    ∷ case (bent narrow (minus 2 ∷ minus 1 ∷ pos 0 ∷ [])) accepted (refused 10 0)
    ∷ case (bent narrow (minus 2 ∷ minus 2 ∷ minus 1 ∷ [])) accepted (refused 10 1)
    ∷ case (bent narrow (pos 0 ∷ minus 1 ∷ minus 2 ∷ [])) accepted (refused 10 2)
    -- the same over the widest gaps, where document 01's 16g2 is little
    ∷ case (bent wide (pos 2 ∷ pos 1 ∷ pos 0 ∷ [])) (refused 10 0) (refused 10 0)
    ∷ case (bent wide (pos 2 ∷ pos 2 ∷ pos 1 ∷ [])) (refused 10 1) (refused 10 1)
    ∷ case (bent wide (pos 0 ∷ pos 1 ∷ pos 2 ∷ [])) (refused 10 2) (refused 10 2)
    -- 3 units off
    ∷ case (bent narrow (pos 3 ∷ pos 3 ∷ pos 3 ∷ [])) accepted (refused 10 0)
    ∷ case (bent uneven (pos 3 ∷ pos 3 ∷ pos 3 ∷ [])) (refused 10 2) (refused 10 0)
    -- Table 3's card: one unit off at place 2, and two
    ∷ case (table_3 (minus 108_800)) accepted accepted
    ∷ case (table_3 (minus 108_799)) accepted accepted
    ∷ case (table_3 (minus 108_801)) accepted accepted
    ∷ case (table_3 (minus 108_798)) accepted (refused 10 2)
    ∷ case (table_3 (minus 108_802)) accepted (refused 10 2)
    ∷ case (table_3 (minus 108_797)) (refused 10 2) (refused 10 2)
    -- a jump of the fourth alone
    ∷ case fourth_at_ends (refused 10 0) accepted
    ∷ case fourth_inside (refused 10 1) accepted
    -- codes, the left one first
    ∷ case (coded 0 0) accepted accepted
    ∷ case (coded 1 0) accepted (refused 15 0)
    ∷ case (coded 2 0) accepted (refused 15 0)
    ∷ case (coded 0 1) accepted (refused 15 1)
    ∷ case (coded 0 2) accepted (refused 15 1)
    ∷ case (coded 2 1) accepted (refused 15 0)
    -- slopes, curvatures, gaps, ordinates and knots at their limits and one past
    ∷ case (parabola steepest (roundest (pos most_curvature))) accepted accepted
    ∷ case (parabola (minus (suc most_slope) ∷ pos 0 ∷ pos most_slope ∷ []) (roundest (pos most_curvature))) (refused 9 0) (refused 9 0)
    ∷ case (parabola (minus most_slope ∷ pos 0 ∷ pos (suc most_slope) ∷ []) (roundest (pos most_curvature))) (refused 9 2) (refused 9 2)
    ∷ case (parabola steepest (roundest (pos (suc most_curvature)))) (refused 9 1) (refused 9 1)
    ∷ case (parabola steepest (roundest (minus (suc most_curvature)))) (refused 9 1) (refused 9 1)
    ∷ case (flat wide zeros) accepted accepted
    ∷ case (flat (0 ∷ sloped.widest_gap ∷ suc (sloped.widest_gap + sloped.widest_gap) ∷ []) zeros) (refused 5 2) (refused 5 2)
    ∷ case (flat wide (pos sloped.ordinates ∷ pos sloped.ordinates ∷ pos sloped.ordinates ∷ [])) accepted accepted
    ∷ case (flat wide (pos sloped.ordinates ∷ pos sloped.ordinates ∷ pos (suc sloped.ordinates) ∷ [])) (refused 6 2) (refused 6 2)
    ∷ case (many 2) (refused 1 0) (refused 1 0)
    ∷ case (many sloped.fewest_knots) accepted accepted
    ∷ case (many sloped.most_knots) accepted accepted
    ∷ case (many (suc sloped.most_knots)) (refused 2 0) (refused 2 0)
    ∷ []

pub as_kind_6 : map (λ c. verdict sloped c.card) cases ≡ map (λ c. c.as_6) cases
unfolding cases three bent fourth_at_ends fourth_inside table_3 beyond ◌then◌ refuse each power worth amount degree rightward leftward allowance
    quintic quintic_asks sloped sloped_asks sloped_allowance knots knot back on gap spot joint inverse clear over rise jump allowed jumps
    slope_beyond curvature_beyond lengths counted codes stands in_range smooth numbers_sound sound verdict
as_kind_6 = refl

pub as_kind_1 : map (λ c. verdict quintic c.card) cases ≡ map (λ c. c.as_1) cases
unfolding cases three bent fourth_at_ends fourth_inside table_3 beyond ◌then◌ refuse each power worth amount degree rightward leftward allowance
    quintic quintic_asks sloped knots knot back on gap spot joint inverse clear over rise jump allowed jumps
    slope_beyond curvature_beyond lengths counted codes stands in_range smooth numbers_sound sound verdict
as_kind_1 = refl

-- what of document 01's test refuses these two cards: at places 0, 1, 2 the third never, the fourth
abbrev beyond_01 : Order → Card → List Bool
beyond_01 o c = jumps quintic (joint c 0) o ∷ jumps quintic (joint c 1) o ∷ jumps quintic (joint c 2) o ∷ []

pub fourth_alone :
    beyond_01 third fourth_at_ends ∷ beyond_01 fourth fourth_at_ends ∷ beyond_01 third fourth_inside ∷ beyond_01 fourth fourth_inside ∷ []
    ≡ (false ∷ false ∷ false ∷ []) ∷ (true ∷ false ∷ true ∷ []) ∷ (false ∷ false ∷ false ∷ []) ∷ (false ∷ true ∷ false ∷ []) ∷ []
unfolding three fourth_at_ends fourth_inside power worth amount degree rightward leftward allowance
    quintic quintic_asks knots knot back on gap spot joint inverse clear over rise jump allowed jumps
fourth_alone = refl

-- ---- 2 card units are attained

-- curvatures 2 where the exact ones are 0: an accepted card
unfoldable pub twos : Card
twos = bent uneven (pos 2 ∷ pos 2 ∷ pos 2 ∷ [])

pub twos_accepted : verdict sloped twos ≡ accepted
unfolding twos three bent beyond ◌then◌ refuse each power worth amount degree rightward leftward allowance
    quintic quintic_asks sloped sloped_asks sloped_allowance knots knot back on gap spot joint inverse clear over rise jump allowed jumps
    slope_beyond curvature_beyond lengths counted codes stands in_range smooth numbers_sound sound verdict
twos_accepted = refl

below_3 : (P : ℕ → Type 0) → P 0 → P 1 → P 2 → (i : ℕ) → i < 3 → P i
below_3 P a b c zero h = a
below_3 P a b c (suc zero) h = b
below_3 P a b c (suc (suc zero)) h = c
below_3 P a b c (suc (suc (suc i))) h = absurd (omega arith)

zero_exact : Exact sloped twos
unfolding twos three bent quintic sloped sloped_asks Meets power worth amount degree equation equals knots knot back on gap inverse clear over
zero_exact =
    record { q = 1; positive = lit< tt; s = λ i. pos 0; c = λ i. pos 0; meets = λ i h o t. meets o (spot twos i) t i h; own = λ t. below_3 (λ i. pos 0 ≡ 1 · (knot twos i).m) refl refl refl }
  where
    meets : (o : Order) (s : Spot) → T (sloped.asks s o) → (i : ℕ) → i < 3 → Meets twos 1 (λ i. pos 0) (λ i. pos 0) i o
    meets third s t i h = below_3 (λ i. Meets twos 1 (λ i. pos 0) (λ i. pos 0) i third) refl refl refl i h
    meets fourth s t i h = absurd t

pub twos_within : WithinTwo twos
twos_within = within_two twos twos_accepted

-- its one exact solution is 2 units away, at each of its knots
pub attained : (w : WithinTwo twos) (i : ℕ) → i < 3 → nat_abs (4096 · w.one.solution.c i -ℤ w.one.solution.q · (knot twos i).M) ≡ 2 * w.one.solution.q
unfolding twos three bent knots knot zero_exact
attained w i h = rw (is_zero, two i h) far
  where
    q : ℕ
    q = w.one.solution.q

    is_zero : w.one.solution.c i ≡ pos 0
    is_zero = sym (*ℤ_idl (w.one.solution.c i)) ∙ (w.one.only zero_exact i h).1 ∙ *ℤ-zero (pos q)

    two : (i : ℕ) → i < 3 → (knot twos i).M ≡ pos 2
    two = below_3 (λ i. (knot twos i).M ≡ pos 2) refl refl refl

    far : nat_abs (4096 · pos 0 -ℤ q · pos 2) ≡ 2 * q
    far = ap nat_abs (ring (pos q ∷ []) (λ q. (# 4096 :* # 0 :- q :* # 2, :neg (# 2 :* q))) tt) ∙ abs_neg (pos (2 * q))
