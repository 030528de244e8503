-- The parts together are the numerator of the exact curve, or of its derivative; each is a knot's number with its weight, the right knot's seen in the mirror;
-- and they fit 64 bits, and what is read 32, where the knots keep within limits that do.
-- Assumes nothing.
use mathlib.Core.Path.{◌≡◌, refl, ◌∙◌, ap, ap₂}
use mathlib.Core.Bool.{◌&&◌}
use mathlib.Core.List.{List, [], ◌∷◌}
use Prim.Native.Nat.{ℕ, ◌+◌, ◌-◌, ◌*◌, ◌≤◌, ◌<◌, ◌^◌}
use native.Mathlib.Nat.{sub-zero, one-le-pow}
use native.Mathlib.Omega.{arith}
use lib.Dec.{T, ltb, leb, ltb→lt, leb→le}
use lib.IntN.{ℤ, pos, negsuc, nat_abs, ◌+ℤ◌, ◌-ℤ◌}
use lib.Signed.{◌≤ℤ◌}
use Rattle.whole.specs.Whole.{nearest}
use Rattle.whole.proofs.Order.{linear, abs_add, abs_mul, abs_neg, abs_is, abs_le}
use Rattle.whole.proofs.Solve.{E, ◌:+◌, ◌:-◌, ◌:*◌, :neg, #, ring, both_l, both_r}
use Rattle.whole.proofs.Rounding.{nearest_most}
use Rattle.curve.specs.Formula.{Formula, num, power, worth, ∂, ∂^}
use Rattle.curve.specs.Curve.{N}
use Rattle.curve.specs.Card.{gap}
use Rattle.curve.specs.Reading.{between}
use Rattle.curve.proofs.Written.{curve, worth_e}
use Rattle.gaps.specs.declared.Knot.{Knot}
use Rattle.gaps.specs.Knots.{mirror}
use Rattle.gaps.specs.Limits.{widest, InGap, Limits, Keeps, far, modest}
use Rattle.gaps.proofs.Kept.{mirror_keeps, far_keeps}
use Rattle.weights.specs.declared.Weights.{Weights}
use Rattle.weights.specs.declared.Quantity.{Quantity}
use Rattle.weights.specs.declared.Quantity.TheVariants.{Value, Slope, Curvature}
use Rattle.weights.specs.Weights.{derivative, weight, weighs, weigh}
use Rattle.weights.proofs.Written.{weighing}
use Rattle.parts.specs.declared.Added.{Added}
use Rattle.parts.specs.Parts.{weight', part, added, parts, drawn, under, adds, seen, sum_of, size}
use Rattle.parts.specs.Limits.{load, Light, most, quantity_fits, gap_fits, Tame}
use Rattle.parts.proofs.Sizes.{loads_most}

-- ---- the sum

-- a part of a quantity, as it is defined
abbrev part_e : Quantity → Quantity → (h t k : E) → Formula E → E
part_e q of h t k w = worth_e (∂^ (derivative q) (part of (num h) (num k) w)) t

abbrev six : Quantity → (h t y m c y' m' c' : E) → E × E
six q h t y m c y' m' c' = (
  worth_e (∂^ (derivative q) (curve h y y' m m' c c')) t,
  part_e q Value h t y (weight Value (num h)) :+ part_e q Slope h t m (weight Slope (num h)) :+ part_e q Curvature h t c (weight Curvature (num h))
      :+ (part_e q Value h t y' (weight' Value (num h)) :+ part_e q Slope h t m' (weight' Slope (num h)) :+ part_e q Curvature h t c' (weight' Curvature (num h))),
)

pub natural : (z : ℤ) → pos 0 ≤ℤ z → pos (nat_abs z) ≡ z
natural (pos n) p = refl
natural (negsuc n) p = absurd p.le

-- the parts together
abbrev pub sum : Quantity → (h t : ℤ) → Knot → Knot → ℤ
sum q h t a b = sum_of (parts q h t a b).left +ℤ sum_of (parts q h t a b).right

module _ (h t : ℤ) (a b : Knot) where
  abbrev numbers : List ℤ
  numbers = h ∷ t ∷ a.ordinate ∷ a.slope ∷ a.curvature ∷ b.ordinate ∷ b.slope ∷ b.curvature ∷ []

  abbrev run : Formula ℤ
  run = curve h a.ordinate b.ordinate a.slope b.slope a.curvature b.curvature

  run_is : (q : Quantity) → worth (∂^ (derivative q) run) t ≡ sum q h t a b
  unfolding parts added part weight weight' sum_of worth N ∂ ∂^ power
  run_is Value = ring numbers (six Value) tt
  run_is Slope = ring numbers (six Slope) tt
  run_is Curvature = ring numbers (six Curvature) tt

  -- the curve that is drawn on a gap
  drawn_is : pos 0 ≤ℤ h → drawn h a b ≡ run
  unfolding drawn between gap
  drawn_is p = ap (λ z. curve z a.ordinate b.ordinate a.slope b.slope a.curvature b.curvature) (ap pos (sub-zero (nat_abs h)) ∙ natural h p)

-- the parts sum to the numerator of the exact curve
pub numerator_is : (q : Quantity) (h t : ℤ) (a b : Knot) → pos 0 ≤ℤ h → worth (∂^ (derivative q) (drawn h a b)) t ≡ sum q h t a b
numerator_is q h t a b p = ap (λ f. worth (∂^ (derivative q) f) t) (drawn_is h t a b p) ∙ run_is h t a b q

-- ---- each part is a number with its weight

-- by a weight in the quantity
abbrev times_e : Quantity → (h k w : E) → E
times_e Value h k w = # 8192 :* (k :* w)
times_e Slope h k w = # 2 :* h :* (k :* w)
times_e Curvature h k w = h :* h :* (k :* w)

-- the left knot's, and the right one's as the mirror shows it
abbrev lefts : Quantity → Quantity → (h t k : E) → E × E
lefts q of h t k = (part_e q of h t k (weight of (num h)), times_e of h k (weighing q of h t))

abbrev rights : Quantity → Quantity → (E → E) → (h t k : E) → E × E
rights q of turn h t k = (part_e q of h t k (weight' of (num h)), times_e of h (turn k) (weighing q of h (h :- t)))

abbrev same : E → E
same k = k

module _ (h t : ℤ) (k : Knot) where
  abbrev all : ℤ → List ℤ
  all z = h ∷ t ∷ z ∷ []

  left_is : (q : Quantity) → added q h t k (λ of. weight of (num h)) ≡ adds h k (weigh q h t)
  unfolding added part adds weigh weighs weight worth ∂ ∂^ power
  left_is Value = λ i. record { ordinate = ring (all k.ordinate) (lefts Value Value) tt i; slope = ring (all k.slope) (lefts Value Slope) tt i; curvature = ring (all k.curvature) (lefts Value Curvature) tt i }
  left_is Slope = λ i. record { ordinate = ring (all k.ordinate) (lefts Slope Value) tt i; slope = ring (all k.slope) (lefts Slope Slope) tt i; curvature = ring (all k.curvature) (lefts Slope Curvature) tt i }
  left_is Curvature = λ i. record { ordinate = ring (all k.ordinate) (lefts Curvature Value) tt i; slope = ring (all k.slope) (lefts Curvature Slope) tt i; curvature = ring (all k.curvature) (lefts Curvature Curvature) tt i }

  right_is : (q : Quantity) → added q h t k (λ of. weight' of (num h)) ≡ adds h (seen q k) (weigh q h (h -ℤ t))
  unfolding added part adds seen mirror weigh weighs weight weight' worth ∂ ∂^ power
  right_is Value = λ i. record { ordinate = ring (all k.ordinate) (rights Value Value same) tt i; slope = ring (all k.slope) (rights Value Slope :neg) tt i; curvature = ring (all k.curvature) (rights Value Curvature same) tt i }
  right_is Slope = λ i. record { ordinate = ring (all k.ordinate) (rights Slope Value :neg) tt i; slope = ring (all k.slope) (rights Slope Slope same) tt i; curvature = ring (all k.curvature) (rights Slope Curvature :neg) tt i }
  right_is Curvature = λ i. record { ordinate = ring (all k.ordinate) (rights Curvature Value same) tt i; slope = ring (all k.slope) (rights Curvature Slope :neg) tt i; curvature = ring (all k.curvature) (rights Curvature Curvature same) tt i }

pub parts_is : (q : Quantity) (h t : ℤ) (a b : Knot) → parts q h t a b ≡ record { left = adds h a (weigh q h t); right = adds h (seen q b) (weigh q h (h -ℤ t)) }
unfolding parts
parts_is q h t a b = λ i. record { left = left_is h t a q i; right = right_is h t b q i }

-- ---- their size

size_is : (h : ℤ) (k : Knot) (w : Weights) → size (adds h k w) ≡ load h k w
unfolding size adds load
size_is h k w = simp abs_mul

pub sum_size : (a : Added) → nat_abs (sum_of a) ≤ size a
unfolding sum_of size
sum_size a = omega (arith, abs_add (a.ordinate +ℤ a.slope) a.curvature, abs_add a.ordinate a.slope)

seen_keeps : (q : Quantity) {L : Limits} {k : Knot} → Keeps L k → Keeps L (seen q k)
unfolding seen
seen_keeps Value p = mirror_keeps p
seen_keeps Slope p = record { ordinate = rw abs_neg p.ordinate; slope = p.slope; curvature = rw abs_neg p.curvature }
seen_keeps Curvature p = mirror_keeps p

pub record Fits (q : Quantity) (L : Limits) (h : ℕ) : Type 0 where
  pub low : most q L h < 16 * 2 ^ 63
  pub read : most q L h ≤ 16 * ((2 ^ 31 - 1) * (under q * h ^ 5))

quantity_of : (q : Quantity) (L : Limits) (h : ℕ) → T (quantity_fits q L h) → Fits q L h
unfolding quantity_fits
quantity_of q L h t =
    let A = ltb (most q L h) (16 * 2 ^ 63) in
    let B = leb (most q L h) (16 * ((2 ^ 31 - 1) * (under q * h ^ 5))) in
    record { low = ltb→lt _ _ (both_l A B t); read = leb→le _ _ (both_r A B t) }

-- what the test of a gap says
pub record GapFits (L : Limits) (h : ℕ) : Type 0 where
  pub quantities : (q : Quantity) → Fits q L h
  pub narrow : h ≤ widest
  pub small : L.ordinates + L.slopes + L.curvatures ≤ 2 ^ 31

pub gap_of : (L : Limits) (h : ℕ) → T (gap_fits L h) → GapFits L h
unfolding gap_fits
gap_of L h t =
    let v = quantity_fits Value L h in
    let s = quantity_fits Slope L h in
    let c = quantity_fits Curvature L h in
    let four = both_l (v && s && c && leb h widest) (modest L) t in
    let three = both_l (v && s && c) (leb h widest) four in
    let two = both_l (v && s) c three in
    record {
      quantities = λ q. pick q (both_l v s two) (both_r v s two) (both_r (v && s) c three);
      narrow = leb→le _ _ (both_r (v && s && c) (leb h widest) four);
      small = leb→le _ _ (both_r (v && s && c && leb h widest) (modest L) t);
    }
  where
    pick : (q : Quantity) → T (quantity_fits Value L h) → T (quantity_fits Slope L h) → T (quantity_fits Curvature L h) → Fits q L h
    pick Value v s c = quantity_of Value L h v
    pick Slope v s c = quantity_of Slope L h s
    pick Curvature v s c = quantity_of Curvature L h c

module _ (q : Quantity) {h t : ℤ} (g : InGap h t) {a b : Knot} (w : Tame h a b) where
  abbrev loads : ℕ
  loads = load h a (weigh q h t) + load h (seen q b) (weigh q h (h -ℤ t))

  within : 16 * loads ≤ most q w.limits (nat_abs h)
  within = loads_most q g a (seen q b) w.limits w.left (seen_keeps q w.right)

  fits : Fits q w.limits (nat_abs h)
  fits = (gap_of w.limits (nat_abs h) w.fits).quantities q

  loads_fit : loads < 2 ^ 63
  loads_fit = omega (arith, within, fits.low)

  light : {k : Knot} {v : Weights} → load h k v ≤ loads → Light h k v
  light p = record { wide = omega (linear, g.wide, abs_is h); narrow = abs_le h widest g.narrow (omega (linear, g.wide)); light = omega (arith, loads_fit) }

  -- what `Added::by` asks, for either knot
  pub left_light : Light h a (weigh q h t)
  left_light = light (omega arith)

  pub right_light : Light h (seen q b) (weigh q h (h -ℤ t))
  right_light = light (omega arith)

  sizes_are : size (parts q h t a b).left + size (parts q h t a b).right ≡ loads
  sizes_are = rw (parts_is q h t a b) (ap₂ ◌+◌ (size_is h a (weigh q h t)) (size_is h (seen q b) (weigh q h (h -ℤ t))))

  pub parts_fit : size (parts q h t a b).left + size (parts q h t a b).right < 2 ^ 63
  parts_fit = omega (arith, sizes_are, loads_fit)

  numerator_size : nat_abs (worth (∂^ (derivative q) (drawn h a b)) t) ≤ loads
  numerator_size =
      let p = parts q h t a b in
      rw (numerator_is q h t a b (omega (linear, g.wide)))
      (omega (arith, abs_add (sum_of p.left) (sum_of p.right), sum_size p.left, sum_size p.right, sizes_are))

  pub numerator_fits : nat_abs (worth (∂^ (derivative q) (drawn h a b)) t) < 2 ^ 63
  numerator_fits = omega (arith, numerator_size, loads_fit)

  pub denominator_positive : 0 < under q * nat_abs h ^ 5
  denominator_positive = go q
    where
      five : 1 ≤ nat_abs h ^ 5
      five = one-le-pow 5 (nat_abs h) (omega (linear, g.wide, abs_is h))

      go : (q : Quantity) → 0 < under q * nat_abs h ^ 5
      go Value = omega (arith, five)
      go Slope = omega (arith, five)
      go Curvature = omega (arith, five)

  -- what is read fits 32 bits
  pub reading_fits : nat_abs (nearest (worth (∂^ (derivative q) (drawn h a b)) t) (under q * nat_abs h ^ 5)) < 2 ^ 31
  reading_fits =
      omega (
        arith,
        nearest_most (worth (∂^ (derivative q) (drawn h a b)) t) (under q * nat_abs h ^ 5) (2 ^ 31 - 1) denominator_positive
            (omega (arith, numerator_size, within, fits.read)),
      )

  pub right_far : Keeps far b
  right_far = far_keeps (gap_of w.limits (nat_abs h) w.fits).small w.right
