-- `preheat::settled` meets its contract.
-- Assumes nothing.
use mathlib.Core.Path.{◌≡◌, ◌∙◌, ap, ap₂}
use mathlib.Core.List.{[], ◌∷◌}
use Prim.Native.Nat.{◌*◌, ◌^◌, ◌≤◌, ◌<◌}
use native.Mathlib.Nat.{le_trans, mul-le-mul, mul-pos}
use native.Mathlib.Omega.{arith}
use lib.Dec.{T}
use lib.IntN.{ℤ, pos, nat_abs, ◌+ℤ◌, ◌-ℤ◌, ◌*ℤ◌}
use lib.Signed.{non_neg, yes_non_neg}
use mir.Syntax.{w64}
use mir.Val.{Fits}
use Rattle.whole.specs.Whole.{◌·◌, nearest}
use Rattle.whole.proofs.Order.{linear, *ℤ_nonneg, abs_le, abs_mul}
use Rattle.whole.proofs.Solve.{E, ◌:+◌, ◌:*◌, #, v0, v1, v2, v3, v4, v5}
use Rattle.whole.proofs.Interval.{◌to◌, ±, ∈_abs}
use Rattle.whole.proofs.Machine.{held, In, step, back, asks, gives}
use Rattle.whole.proofs.Rounding.{nearest_size}
use Rattle.curve.specs.Kind.{quintic}
use Rattle.cubic.specs.Cubic.{largest}
use Rattle.preheat.specs.Preheat.{bent, most_cube, most_level, InLeft, InBend}
use Rattle.preheat.proofs.Evaluation.{some, bent_size, half, level_left, settles}
use Rattle.preheat.proofs.settled.Goals as goal
use Rattle.preheat.proofs.settled.Goals.{After-bent-n, After-left-rest, After-nearest, After-nearest-half, Start}

abbrev twice : E
twice = # 2 :* v1

abbrev under : E
under = v0 :* v1

module _ (s : Start) where
  -- the even whole number is twice this
  abbrev b : ℤ
  b = half s.args.cube s.args.level

  abbrev rest : ℤ
  rest = s.args.level -ℤ 2 · s.args.cube *ℤ b

  within : In w64 (held s.args.a ∷ held s.args.cube ∷ held s.args.level ∷ []) (pos 1 to pos largest ∷ pos 1 to pos most_cube ∷ ± most_level ∷ [])
  within = let p = s.requires in record { each = (record { low = p.a_low; high = p.a_high }, (record { low = p.cube_low; high = p.cube_high }, (∈_abs p.level_in, tt))) }

  cube_size : nat_abs s.args.cube ≤ most_cube
  cube_size = abs_le s.args.cube most_cube s.requires.cube_high (omega (linear, s.requires.cube_low))

  a_size : nat_abs s.args.a ≤ largest
  a_size = abs_le s.args.a largest s.requires.a_high (omega (linear, s.requires.a_low))

  twice_size : nat_abs (2 · s.args.cube) ≤ 2 * most_cube
  twice_size = omega (arith, abs_mul (pos 2) s.args.cube, cube_size)

  twice_some : 0 < nat_abs (2 · s.args.cube)
  twice_some = omega (arith, abs_mul (pos 2) s.args.cube, some s.requires.cube_low)

  under_some : 0 < nat_abs (s.args.a *ℤ s.args.cube)
  under_some = rw (abs_mul s.args.a s.args.cube) (mul-pos (some s.requires.a_low) (some s.requires.cube_low))

  b_size : nat_abs b ≤ most_level
  b_size = le_trans (nearest_size s.args.level (nat_abs (2 · s.args.cube)) twice_some) s.requires.level_in

  rest_size : nat_abs rest ≤ most_cube
  rest_size = le_trans (level_left s.args.level s.requires.cube_low) cube_size

  in_left : InLeft s.args.level (2 · s.args.cube) b
  unfolding quintic
  in_left = record {
    z_in = omega (arith, s.requires.level_in);
    d_in = omega (arith, twice_size);
    f_in = omega (arith, b_size);
    product_in = omega (arith, abs_mul (2 · s.args.cube) b, mul-le-mul twice_size b_size);
  }

  in_bend : InBend (s.args.a *ℤ rest) s.args.w0 s.args.w1 s.args.z0 s.args.z1
  in_bend = record { x_in = omega (arith, abs_mul s.args.a rest, mul-le-mul a_size rest_size); weights = s.requires.weights }

-- ---- the even whole number

pub overflow_mul-twice : goal.overflow_mul-twice
overflow_mul-twice c = step (within c) twice tt

pub overflow_cast-twice : goal.overflow_cast-twice
overflow_cast-twice c = asks (within c) (twice ∷ []) (λ z. T (non_neg z) × Fits w64 (nat_abs z)) tt (yes_non_neg (*ℤ_nonneg {x = pos 2} {y = c.args.cube} (omega linear) (omega (linear, c.requires.cube_low))), omega (arith, twice_size c))

pub nearest-half-requires : goal.nearest-half-requires
unfolding quintic
nearest-half-requires c =
    let told = asks (within c) (twice ∷ v2 ∷ []) (λ d n. (0 < nat_abs d) × (nat_abs n < 2 ^ 63)) tt (twice_some c, omega (arith, c.requires.level_in)) in record { d_nonzero = told.0; n_bound = told.1 }

half_is : (c : After-nearest-half) → c.nearest-half.result ≡ b (goal.at.After-nearest-half c).Start
unfolding quintic
half_is c = gives (within (goal.at.After-nearest-half c).Start) (v2 ∷ twice ∷ []) (λ n d. c.nearest-half.result ≡ nearest n (nat_abs d)) tt c.nearest-half.ensures

-- ---- what it leaves of the level

with_half : (c : After-nearest-half) → In w64 (held c.args.a ∷ held c.args.cube ∷ held c.args.level ∷ held c.nearest-half.result ∷ []) (pos 1 to pos largest ∷ pos 1 to pos most_cube ∷ ± most_level ∷ ± most_level ∷ [])
with_half c = let w = (within (goal.at.After-nearest-half c).Start).each in record { each = (w.0, (w.1.0, (w.1.1.0, (∈_abs (rw (half_is c) (b_size (goal.at.After-nearest-half c).Start)), tt)))) }

pub left-rest-requires : goal.left-rest-requires
unfolding quintic
left-rest-requires c = asks (with_half c) (v2 ∷ twice ∷ v3 ∷ []) InLeft tt (rw (half_is c) (in_left (goal.at.left-rest-requires c).Start))

rest_is : (c : After-left-rest) → c.left-rest.result ≡ rest (goal.at.After-left-rest c).Start
unfolding quintic
rest_is c =
    let s = (goal.at.After-left-rest c).Start in
    gives (with_half (goal.at.After-left-rest c).After-nearest-half) (v2 ∷ twice ∷ v3 ∷ []) (λ z d f. c.left-rest.result ≡ z -ℤ d *ℤ f) tt c.left-rest.ensures
    ∙ ap (λ f. s.args.level -ℤ 2 · s.args.cube *ℤ f) (half_is (goal.at.After-left-rest c).After-nearest-half)

-- ---- what is rounded at the end

for_bent : (c : After-left-rest) →
    In w64 (held c.args.a ∷ held c.left-rest.result ∷ held c.args.w0 ∷ held c.args.w1 ∷ held c.args.z0 ∷ held c.args.z1 ∷ [])
    (pos 1 to pos largest ∷ ± most_cube ∷ ± (2 * most_cube) ∷ ± (2 * most_cube) ∷ ± largest ∷ ± largest ∷ [])
for_bent c =
    let s = (goal.at.After-left-rest c).Start in
    let p = s.requires.weights in
    record { each = ((within s).each.0, (∈_abs (rw (rest_is c) (rest_size s)), (∈_abs p.w_in, (∈_abs p.w'_in, (∈_abs p.z_in, (∈_abs p.z'_in, tt)))))) }

pub overflow_mul-a : goal.overflow_mul-a
overflow_mul-a c = step (for_bent c) (v0 :* v1) tt

pub bent-n-requires : goal.bent-n-requires
bent-n-requires c = asks (for_bent c) ((v0 :* v1) ∷ v2 ∷ v3 ∷ v4 ∷ v5 ∷ []) InBend tt (rw (rest_is c) (in_bend (goal.at.bent-n-requires c).Start))

n_is : (c : After-bent-n) → (let s = (goal.at.After-bent-n c).Start in c.bent-n.result ≡ bent (s.args.a *ℤ rest s) s.args.w0 s.args.w1 s.args.z0 s.args.z1)
n_is c =
    let s = (goal.at.After-bent-n c).Start in
    gives (for_bent (goal.at.After-bent-n c).After-left-rest) ((v0 :* v1) ∷ v2 ∷ v3 ∷ v4 ∷ v5 ∷ []) (λ x w w' z z'. c.bent-n.result ≡ bent x w w' z z') tt c.bent-n.ensures
    ∙ ap (λ x. bent (s.args.a *ℤ x) s.args.w0 s.args.w1 s.args.z0 s.args.z1) (rest_is (goal.at.After-bent-n c).After-left-rest)

for_round : (c : After-bent-n) →
    In w64 (held c.args.a ∷ held c.args.cube ∷ held c.nearest-half.result ∷ held c.bent-n.result ∷ [])
    (pos 1 to pos largest ∷ pos 1 to pos most_cube ∷ ± most_level ∷ ± (5 * largest * most_cube) ∷ [])
for_round c =
    let w = (with_half (goal.at.After-bent-n c).After-nearest-half).each in
    record { each = (w.0, (w.1.0, (w.1.1.1.0, (∈_abs (rw (n_is c) (bent_size (in_bend (goal.at.After-bent-n c).Start))), tt)))) }

pub overflow_mul-result : goal.overflow_mul-result
unfolding quintic
overflow_mul-result c = step (for_round c) (# 2 :* v2) tt

pub overflow_mul-a-2 : goal.overflow_mul-a-2
overflow_mul-a-2 c = step (for_round c) under tt

n_size : (c : After-bent-n) → nat_abs c.bent-n.result ≤ 5 * largest * most_cube
n_size c = rw (n_is c) (bent_size (in_bend (goal.at.After-bent-n c).Start))

pub overflow_cast-a : goal.overflow_cast-a
overflow_cast-a c =
    let s = (goal.at.overflow_cast-a c).Start in
    asks (for_round c) (under ∷ []) (λ z. T (non_neg z) × Fits w64 (nat_abs z)) tt
    (yes_non_neg (*ℤ_nonneg {x = s.args.a} {y = s.args.cube} (omega (linear, s.requires.a_low)) (omega (linear, s.requires.cube_low))), omega (arith, abs_mul s.args.a s.args.cube, mul-le-mul (a_size s) (cube_size s)))

pub nearest-requires : goal.nearest-requires
nearest-requires c =
    let told = asks (for_round c) (under ∷ v3 ∷ []) (λ d n. (0 < nat_abs d) × (nat_abs n < 2 ^ 63)) tt (under_some (goal.at.nearest-requires c).Start, omega (arith, n_size c)) in record { d_nonzero = told.0; n_bound = told.1 }

v_is : (c : After-nearest) → (let s = (goal.at.After-nearest c).Start in c.nearest.result ≡ nearest c.bent-n.result (nat_abs (s.args.a *ℤ s.args.cube)))
v_is c = gives (for_round (goal.at.After-nearest c).After-bent-n) (v3 ∷ under ∷ []) (λ n d. c.nearest.result ≡ nearest n (nat_abs d)) tt c.nearest.ensures

for_sum : (c : After-nearest) → In w64 (held c.nearest-half.result ∷ held c.nearest.result ∷ []) (± most_level ∷ ± (5 * largest * most_cube) ∷ [])
for_sum c =
    let s = (goal.at.After-nearest c).Start in
    record { each = ((for_round (goal.at.After-nearest c).After-bent-n).each.1.1.0, (∈_abs (rw (v_is c) (le_trans (nearest_size c.bent-n.result (nat_abs (s.args.a *ℤ s.args.cube)) (under_some s)) (n_size (goal.at.After-nearest c).After-bent-n))), tt)) }

pub overflow_add-result : goal.overflow_add-result
unfolding quintic
overflow_add-result c = step (for_sum c) (# 2 :* v0 :+ v1) tt

pub returns : goal.returns
unfolding quintic
returns c =
    let s = (goal.at.returns c).Start in
    back (for_sum c) (# 2 :* v0 :+ v1) tt
    ∙ ap₂ (λ b v. 2 · b +ℤ v) (half_is (goal.at.returns c).After-nearest-half) (v_is c ∙ ap (λ n. nearest n (nat_abs (s.args.a *ℤ s.args.cube))) (n_is (goal.at.returns c).After-bent-n))
    ∙ settles s.args.w0 s.args.w1 s.args.z0 s.args.z1 s.args.level s.requires.a_low s.requires.cube_low
