-- A number of an accepted card is fit to be given for an end, and its slopes to be given, so that of such a
-- card of either kind the fresh fit refuses with nothing but 8, 9 and 10. Assumes nothing.
use Prim.Native.Nat.{ℕ, suc, ◌+◌, ◌-◌, ◌*◌, ◌^◌, ◌≤◌, ◌<◌}
use native.Mathlib.Nat.{mul_right_comm, mul-one, mul_assoc, mul_comm, lt_of_lt_of_le, mul-le-mul_right, le_of_mul-le-mul_right}
use native.Mathlib.Omega.{arith}
use mathlib.Core.Path.{◌≡◌, refl, sym, ap, ap₂, subst, ◌∙◌}
use mathlib.Core.Bool.{Bool, true, false, ◌||◌, cond}
use lib.Dec.{lit<, lit≤, eqb}
use lib.IntN.{ℤ, pos, negsuc, nat_abs}
use lib.ListN.{length}
use lib.Pow.{pow-add, pow_pos, pow_mono, shl_lt}
use lib.Ieee.{Float, nan, inf, fin, binary64, low, emax, up, down, round, of_int, of_bits, div, neg, lt}
use lib.Ieee.Exact.{HasValue, round_exact}
use borrow.Author.Tests.{le-ltb}
use Rattle.answer.specs.Answer.{accepted, ◌then◌}
use Rattle.answer.proofs.Steps.{first_accepts, next_accepts, both_accept, accepts_refuse, refuse_accepts, accepts_each}
use Rattle.curve.specs.Kind.{Kind, quintic, sloped}
use Rattle.curve.specs.Card.{Card, knots, knot, joint}
use Rattle.curve.specs.Steps.{lengths, counted, codes, slope_beyond, in_range, slope_in_range}
use Rattle.curve.specs.Orders.{numbers_sound, sound, verdict}
use Rattle.curve.proofs.Accepted.{good}
use Rattle.knots.proofs.Accepted.{ranged}
use Rattle.rows.specs.declared.End.{End}
use Rattle.rows.specs.declared.End.TheVariants.{Free, Both, Curvature}
use Rattle.rows.specs.Floats.{◌⊘◌}
use Rattle.ends.specs.Ends.{unfit, unfit_end, end_by, ends}
use Rattle.fit.specs.Fit.{standing, eliminated, tested, card_of}
use Rattle.fit.proofs.Order.{in_groups}
use Rattle.slope_fit.specs.SlopesFit as Slopes
use Rattle.slope_fit.proofs.Order as SlopesOrder
use Rattle.lines.specs.Lines.{f4096, hundredths}
use Rattle.refit.specs.Fresh.{fresh_between, fresh}

-- ---- in binary64

-- a number that is at most 256 in size
within_fit : (x : Float) (s : Bool) (a c : ℕ) → 0 < c → a ≤ 256 * c → HasValue x s a c → unfit x ≡ false
unfolding lt neg of_bits
within_fit nan s a c p h v = absurd v
within_fit (inf t) s a c p h v = absurd v
within_fit (fin t m e) s a c p h v = sides t
  where
    small : m * up e ≤ 256 * down e
    small =
        le_of_mul-le-mul_right {m = m * up e} {n = 256 * down e} {k = c}
        (subst (λ x. x ≤ 256 * down e * c) (sym v.1) (subst (λ x. a * down e ≤ x) (mul_right_comm 256 c (down e)) (mul-le-mul_right (down e) h))) p

    sides : (t : Bool) → unfit (fin t m e) ≡ false
    sides true = le-ltb (256 * down e) (m * up e * 1) (omega (arith, small))
    sides false = ap (λ b. b || false) (le-ltb (256 * down e) (m * up e * 1) (omega (arith, small)))

-- a whole number that is below 2 ^ 53, over a power of two
exact : (s : Bool) (num den n j : ℕ) → 0 < den → n ≤ 1048576 → j ≤ low binary64 → num * 2 ^ low binary64 ≡ n * 2 ^ j * den → HasValue (round binary64 s num den) s num den
exact s num den n j p h k e =
    let small : n < 2 ^ 53 = omega arith in
    let fine : n * 2 ^ j < 2 ^ (53 + j) = shl_lt 53 j small in
    let most : 2 ^ (53 + j) ≤ 2 ^ (low binary64 + suc (emax binary64)) = pow_mono {i = 53 + j} {j = low binary64 + suc (emax binary64)} (omega arith) in
    round_exact binary64 s num den n j p small (lt_of_lt_of_le fine most) e

down_some : (e : ℤ) → 0 < down e
down_some (pos k) = lit< tt
down_some (negsuc k) = pow_pos (suc k)

shuffled : (n d p : ℕ) → n * d * (p * 4096) ≡ n * p * (4096 * d)
shuffled n d p = sym (mul_assoc (n * d) p 4096) ∙ ap (λ x. x * 4096) (mul_right_comm n d p) ∙ mul_assoc (n * p) d 4096 ∙ ap (λ x. n * p * x) (mul_comm d 4096)

-- a quotient by 4096
quotient_fit : (x : Float) (s : Bool) (n : ℕ) → n ≤ 1048576 → HasValue x s n 1 → unfit (x ⊘ f4096) ≡ false
unfolding div of_bits
quotient_fit nan s n h v = absurd v
quotient_fit (inf t) s n h v = absurd v
quotient_fit (fin t m e) s n h v = sides t
  where
    is : m * up e * 1 ≡ n * down e
    is = v.1

    some : 0 < 4096 * down e
    some = omega (arith, down_some e)

    half : (t : Bool) → unfit (round binary64 t (m * up e * 1) (4096 * down e)) ≡ false
    half t =
        within_fit (round binary64 t (m * up e * 1) (4096 * down e)) t (m * up e * 1) (4096 * down e) some (omega (arith, is, mul-le-mul_right (down e) h))
        (exact t (m * up e * 1) (4096 * down e) n 1062 some h (lit≤ tt) (ap (λ x. x * 2 ^ low binary64) is ∙ ap (λ x. n * down e * x) (pow-add 2 1062 12) ∙ shuffled n (down e) (2 ^ 1062)))

    sides : (t : Bool) → unfit (fin t m e ⊘ f4096) ≡ false
    sides true = half true
    sides false = half false

-- "beyond ±256": 1,048,576 card units are 256 hundredths
pub hundredths_fit : (z : ℤ) → nat_abs z ≤ 1048576 → unfit (hundredths z) ≡ false
unfolding of_int
hundredths_fit (pos n) h = quotient_fit _ false n h (exact false n 1 n 1074 (lit< tt) h (lit≤ tt) (sym (mul-one _)))
hundredths_fit (negsuc n) h = quotient_fit _ true (suc n) h (exact true (suc n) 1 (suc n) 1074 (lit< tt) h (lit≤ tt) (sym (mul-one _)))

-- ---- of a card

-- whatever the code
end_fit : (code : ℕ) (slope curvature : Float) → unfit slope ≡ false → unfit curvature ≡ false → unfit_end (end_by code slope curvature) ≡ false
unfolding end_by
end_fit code slope curvature p q = go (eqb code 1) (eqb code 2)
  where
    go : (a b : Bool) → unfit_end (cond a (Both slope curvature) (cond b (Curvature curvature) Free)) ≡ false
    go true b = ap₂ (λ a b. a || b) p q
    go false true = q
    go false false = refl

-- of the card's own order: 3; 1, 2; 15; the rest
sized : (K : Kind) (c : Card) → verdict K c ≡ accepted
    → (lengths (knots c) (length c.ordinates) (length c.slopes) (length c.curvatures) ≡ accepted)
    × (counted K (knots c) ≡ accepted) × (codes K c.left c.right ≡ accepted) × (sound K c ≡ accepted)
unfolding verdict
sized K c e =
    let f = next_accepts _ _ e in
    let g = next_accepts _ _ f in
    (first_accepts _ _ e, first_accepts _ _ f, first_accepts _ _ g, next_accepts _ _ g)

module _ (c : Card) (e : verdict quintic c ≡ accepted) where
  abbrev own_end : ℕ → ℕ → End
  own_end code i = end_by code (hundredths (knot c i).m) (hundredths (knot c i).M)

  abbrev left : End
  left = own_end c.left 0

  abbrev right : End
  right = own_end c.right (knots c - 1)

  own_fit : (code i : ℕ) → i < knots c → unfit_end (own_end code i) ≡ false
  unfolding sound numbers_sound knots knot quintic
  own_fit code i l =
      let r = ranged c (first_accepts _ _ (next_accepts _ _ (sized quintic c e).3)) in
      end_fit code _ _ (hundredths_fit _ (r.slopes i l)) (hundredths_fit _ (r.curvatures i l))

  standing_accepts : standing c.minutes c.ordinates left right ≡ accepted
  unfolding standing ends sound knots quintic
  standing_accepts =
      let few = (good quintic c e).few in
      both_accept (first_accepts _ _ (sized quintic c e).3) (both_accept (accepts_refuse 7 0 (own_fit c.left 0 (omega arith))) (accepts_refuse 7 (knots c - 1) (own_fit c.right (knots c - 1) (omega arith))))

  -- what is left of the fit's order: 8; 9; 10
  pub only_8_9_10 : fresh quintic c ≡ (eliminated c.minutes c.ordinates left right then tested quintic (card_of c.minutes c.ordinates left right))
  unfolding fresh fresh_between quintic knots ◌then◌
  only_8_9_10 =
      let n = knots c in
      let g = good quintic c e in
      let rest = eliminated c.minutes c.ordinates left right then tested quintic (card_of c.minutes c.ordinates left right) in
      let alike : lengths n (length c.ordinates) n n ≡ accepted = ap₂ (lengths n (length c.ordinates)) (sym g.ms) (sym g.Ms) ∙ (sized quintic c e).0 in
      sym (in_groups c.minutes c.ordinates left right n n (codes quintic c.left c.right))
      ∙ ap (λ v. v then standing c.minutes c.ordinates left right then rest) (both_accept alike (both_accept (sized quintic c e).1 (sized quintic c e).2))
      ∙ ap (λ v. v then rest) standing_accepts

-- ---- of a card of given slopes

left_false : (a b : Bool) → (a || b) ≡ false → a ≡ false
left_false true b e = e
left_false false b e = refl

module _ (c : Card) (e : verdict sloped c ≡ accepted) where
  -- 9 passes its slopes
  slopes_accept : Slopes.ranged c.minutes c.ordinates c.slopes ≡ accepted
  unfolding Slopes.ranged slope_in_range in_range slope_beyond Slopes.card_of joint knot knots
  slopes_accept =
      let g = good sloped c e in
      accepts_each _ 0 (length c.minutes) (λ i p l. accepts_refuse 9 i (left_false _ _ (refuse_accepts 9 i _ (g.ranged i (omega arith)))))

  by_slopes_accepts : Slopes.standing c.minutes c.ordinates c.slopes ≡ accepted
  unfolding Slopes.standing sound knots
  by_slopes_accepts = both_accept (first_accepts _ _ (sized sloped c e).3) slopes_accept

  pub by_slopes_only_8_9_10 : fresh sloped c ≡ (Slopes.eliminated c.minutes c.ordinates c.slopes then tested sloped (Slopes.card_of c.minutes c.ordinates c.slopes))
  unfolding fresh sloped counted knots ◌then◌
  by_slopes_only_8_9_10 =
      let n = knots c in
      let rest = Slopes.eliminated c.minutes c.ordinates c.slopes then tested sloped (Slopes.card_of c.minutes c.ordinates c.slopes) in
      let own = sized sloped c e in
      let alike : lengths n (length c.ordinates) (length c.slopes) n ≡ accepted = ap (lengths n (length c.ordinates) (length c.slopes)) (sym (good sloped c e).Ms) ∙ own.0 in
      sym (SlopesOrder.in_groups c.minutes c.ordinates c.slopes n)
      ∙ ap (λ v. v then Slopes.standing c.minutes c.ordinates c.slopes then rest) (both_accept alike (both_accept own.1 refl))
      ∙ ap (λ v. v then rest) by_slopes_accepts
