-- `preheat::rounded` meets its contract.
-- Assumes nothing.
-- ---- the numbers of the evaluation, and their sizes
use mathlib.Core.Path.{◌≡◌, refl, sym, ◌∙◌, ap, subst}
use mathlib.Core.List.{List, [], ◌∷◌}
use Prim.Native.Nat.{ℕ, ◌*◌, ◌^◌, ◌≤◌, ◌<◌}
use native.Mathlib.Nat.{le_trans, mul-le-mul, mul-le-mul_left}
use native.Mathlib.Omega.{arith}
use lib.Dec.{T}
use lib.IntN.{ℤ, pos, neg_ℤ, nat_abs, ◌-ℤ◌, ◌*ℤ◌}
use lib.Signed.{non_neg, yes_non_neg}
use mir.Syntax.{w64}
use mir.Val.{Fits, to_z, of_z}
use mir.Facts.{to_z-of_z}
use Rattle.whole.specs.Whole.{nearest}
use Rattle.whole.proofs.Order.{linear, abs_le, abs_mul}
use Rattle.whole.proofs.Solve.{E, ◌:+◌, ◌:-◌, ◌:*◌, v0, v1, v2, v3, v4, v5, v6, v7}
use Rattle.whole.proofs.Interval.{◌to◌, ±, ∈_abs, Within, at_least, at_most}
use Rattle.whole.proofs.Linear as Linear
use Rattle.whole.proofs.Machine.{held, In, step, asks, gives}
use Rattle.whole.proofs.Rounding.{nearest_most}
use Rattle.curve.specs.Kind.{quintic}
use Rattle.cubic.specs.Cubic.{largest}
use Rattle.preheat.specs.Preheat.{most_parts, most_cube, most_level, weight, line, bent, InLeft, InBend, InLevel}
use Rattle.preheat.proofs.Evaluation.{some, unknown_left, cubic_is, without, moved₄, moved₅}
use Rattle.preheat.proofs.rounded.Goals as goal
use Rattle.preheat.proofs.rounded.Goals.{After-bent-level, After-left-e0, After-left-e1, After-nearest-f0, After-nearest-f1, After-weight-w0, After-weight-w1, Start}

abbrev most_unknown : ℕ
most_unknown = 2 * quintic.ordinates * largest

module _ (s : Start) where
  abbrev w : ℤ
  w = weight s.args.q (s.args.q -ℤ s.args.r)

  abbrev w' : ℤ
  w' = weight s.args.q s.args.r

  abbrev f : ℤ → ℤ
  f z = nearest z (nat_abs s.args.a)

  abbrev l : ℤ
  l = line s.args.q s.args.r s.args.y0 s.args.y1

  abbrev level : ℤ
  level = bent l w w' (f s.args.z0) (f s.args.z1)

  abbrev e : ℤ → ℤ
  e z = z -ℤ s.args.a *ℤ f z

  a_size : nat_abs s.args.a ≤ largest
  a_size = abs_le s.args.a largest s.requires.a_high (omega (linear, s.requires.a_low))

  q_size : nat_abs s.args.q ≤ most_parts
  q_size = abs_le s.args.q most_parts s.requires.q_high (omega (linear, s.requires.q_low))

  unknown_size : (z : ℤ) → nat_abs z ≤ 2 * quintic.ordinates * nat_abs s.args.a → nat_abs z ≤ most_unknown
  unknown_size z h = le_trans h (mul-le-mul_left (2 * quintic.ordinates) a_size)

  -- q r y0 y1 a z0 z1
  within : In w64 (held s.args.q ∷ held s.args.r ∷ held s.args.y0 ∷ held s.args.y1 ∷ held s.args.a ∷ held s.args.z0 ∷ held s.args.z1 ∷ [])
      (pos 1 to pos most_parts ∷ pos 0 to pos most_parts ∷ ± quintic.ordinates ∷ ± quintic.ordinates ∷ pos 1 to pos largest ∷ ± most_unknown ∷ ± most_unknown ∷ [])
  within =
      let p = s.requires in
      record {
        each = (
          record { low = p.q_low; high = p.q_high },
          (
            record { low = p.r_low; high = omega (linear, p.r_high, p.q_high) },
            (∈_abs p.y_in, (∈_abs p.y'_in, (record { low = p.a_low; high = p.a_high }, (∈_abs (unknown_size s.args.z0 p.z_in), (∈_abs (unknown_size s.args.z1 p.z'_in), tt))))),
          ),
        );
      }

  r_size : nat_abs s.args.r ≤ most_parts
  r_size = abs_le s.args.r most_parts within.each.1.0.high (omega (linear, s.requires.r_low))

  other_size : nat_abs (s.args.q -ℤ s.args.r) ≤ most_parts
  other_size = abs_le (s.args.q -ℤ s.args.r) most_parts (at_most both (v0 :- v1) (pos most_parts) tt) (at_least both (v0 :- v1) (neg_ℤ (pos most_parts)) tt)
    where
      both : Within (s.args.q ∷ s.args.r ∷ []) (pos 1 to pos most_parts ∷ pos 0 to pos most_parts ∷ [])
      both = record { each = (within.each.0, (within.each.1.0, tt)) }

  weight_size : (r : ℤ) → nat_abs r ≤ most_parts → nat_abs (weight s.args.q r) ≤ 2 * most_cube
  weight_size r h = Linear.bounded {xs = s.args.q ∷ r ∷ []} {bs = most_parts ∷ most_parts ∷ []} (record { each = (q_size, (h, tt)) }) (v0 :* v0 :* v1 :- v1 :* v1 :* v1)

  f_size : (z : ℤ) → nat_abs z ≤ 2 * quintic.ordinates * nat_abs s.args.a → nat_abs (f z) ≤ 2 * quintic.ordinates
  f_size z h = nearest_most z (nat_abs s.args.a) (2 * quintic.ordinates) (some s.requires.a_low) h

  line_size : nat_abs l ≤ 2 * quintic.ordinates * most_cube
  unfolding quintic
  line_size = le_trans
      (Linear.bounded {xs = s.args.q ∷ (s.args.q -ℤ s.args.r) ∷ s.args.r ∷ s.args.y0 ∷ s.args.y1 ∷ []} {bs = most_parts ∷ most_parts ∷ most_parts ∷ quintic.ordinates ∷ quintic.ordinates ∷ []}
      (record { each = (q_size, (other_size, (r_size, (s.requires.y_in, (s.requires.y'_in, tt))))) }) (v0 :* v0 :* (v3 :* v1 :+ v4 :* v2)))
      (omega arith)

  w_size : nat_abs w ≤ 2 * most_cube
  w_size = weight_size (s.args.q -ℤ s.args.r) other_size

  w'_size : nat_abs w' ≤ 2 * most_cube
  w'_size = weight_size s.args.r r_size

  in_bend : InBend l w w' (f s.args.z0) (f s.args.z1)
  unfolding quintic
  in_bend = record {
    x_in = omega (arith, line_size);
    weights = record { w_in = w_size; w'_in = w'_size; z_in = omega (arith, f_size s.args.z0 s.requires.z_in); z'_in = omega (arith, f_size s.args.z1 s.requires.z'_in) };
  }

  in_left : (z : ℤ) → nat_abs z ≤ 2 * quintic.ordinates * nat_abs s.args.a → InLeft z s.args.a (f z)
  unfolding quintic
  in_left z h = record {
    z_in = omega (arith, unknown_size z h);
    d_in = omega (arith, a_size);
    f_in = omega (arith, f_size z h);
    product_in = omega (arith, abs_mul s.args.a (f z), mul-le-mul a_size (f_size z h));
  }

  level_size : nat_abs level ≤ most_level
  unfolding quintic
  level_size = le_trans
      (Linear.bounded {xs = l ∷ w ∷ w' ∷ f s.args.z0 ∷ f s.args.z1 ∷ []} {bs = 2 * quintic.ordinates * most_cube ∷ 2 * most_cube ∷ 2 * most_cube ∷ 2 * quintic.ordinates ∷ 2 * quintic.ordinates ∷ []}
      (record { each = (line_size, (w_size, (w'_size, (f_size s.args.z0 s.requires.z_in, (f_size s.args.z1 s.requires.z'_in, tt))))) }) (v0 :- v1 :* v3 :- v2 :* v4))
      (omega arith)

  e_size : (z : ℤ) → nat_abs (e z) ≤ largest
  e_size z = le_trans (unknown_left z s.requires.a_low) a_size

  abbrev cube : ℤ
  cube = s.args.q *ℤ s.args.q *ℤ s.args.q

  in_level : InLevel s.args.a cube level w w' (e s.args.z0) (e s.args.z1)
  in_level = record {
    a_low = s.requires.a_low;
    a_high = s.requires.a_high;
    cube_low = at_least one (v0 :* v0 :* v0) (pos 1) tt;
    cube_high = at_most one (v0 :* v0 :* v0) (pos most_cube) tt;
    level_in = level_size;
    weights = record { w_in = w_size; w'_in = w'_size; z_in = e_size s.args.z0; z'_in = e_size s.args.z1 };
  }
    where
      one : Within (s.args.q ∷ []) (pos 1 to pos most_parts ∷ [])
      one = record { each = (within.each.0, tt) }

-- ---- the weights

abbrev other : E
other = v0 :- v1

pub overflow_sub-q : goal.overflow_sub-q
unfolding quintic
overflow_sub-q c = step (within c) other tt

pub weight-w0-requires : goal.weight-w0-requires
unfolding quintic
weight-w0-requires c = asks (within c) (v0 ∷ other ∷ []) (λ q r. (nat_abs q ≤ most_parts) × (nat_abs r ≤ most_parts)) tt (q_size c, other_size c)

pub weight-w1-requires : goal.weight-w1-requires
unfolding quintic
weight-w1-requires c = asks (within (goal.at.weight-w1-requires c).Start) (v0 ∷ v1 ∷ []) (λ q r. (nat_abs q ≤ most_parts) × (nat_abs r ≤ most_parts)) tt (q_size (goal.at.weight-w1-requires c).Start, r_size (goal.at.weight-w1-requires c).Start)

w_is : (c : After-weight-w0) → c.weight-w0.result ≡ w (goal.at.After-weight-w0 c).Start
unfolding quintic
w_is c = gives (within (goal.at.After-weight-w0 c).Start) (v0 ∷ other ∷ []) (λ q r. c.weight-w0.result ≡ weight q r) tt c.weight-w0.ensures

w'_is : (c : After-weight-w1) → c.weight-w1.result ≡ w' (goal.at.After-weight-w1 c).Start
unfolding quintic
w'_is c = gives (within (goal.at.After-weight-w1 c).Start) (v0 ∷ v1 ∷ []) (λ q r. c.weight-w1.result ≡ weight q r) tt c.weight-w1.ensures

-- ---- the unknowns by a

by_a : (s : Start) → T (non_neg (to_z w64 (of_z w64 s.args.a))) × Fits w64 (nat_abs (to_z w64 (of_z w64 s.args.a)))
unfolding quintic
by_a s = asks (within s) (v4 ∷ []) (λ z. T (non_neg z) × Fits w64 (nat_abs z)) tt (yes_non_neg {z = s.args.a} (omega (linear, s.requires.a_low)), omega (arith, a_size s))

pub nearest-f0-requires : goal.nearest-f0-requires
unfolding quintic
nearest-f0-requires c =
    let told = (let s = (goal.at.nearest-f0-requires c).Start in
    asks (within s) (v4 ∷ v5 ∷ []) (λ d n. (0 < nat_abs d) × (nat_abs n < 2 ^ 63)) tt (some s.requires.a_low, omega (arith, unknown_size s s.args.z0 s.requires.z_in))) in record { d_nonzero = told.0; n_bound = told.1 }

pub nearest-f1-requires : goal.nearest-f1-requires
unfolding quintic
nearest-f1-requires c =
    let told = (let s = (goal.at.nearest-f1-requires c).Start in
    asks (within s) (v4 ∷ v6 ∷ []) (λ d n. (0 < nat_abs d) × (nat_abs n < 2 ^ 63)) tt (some s.requires.a_low, omega (arith, unknown_size s s.args.z1 s.requires.z'_in))) in record { d_nonzero = told.0; n_bound = told.1 }

f_is : (c : After-nearest-f0) → (let s = (goal.at.After-nearest-f0 c).Start in c.nearest-f0.result ≡ f s s.args.z0)
unfolding quintic
f_is c = gives (within (goal.at.After-nearest-f0 c).Start) (v5 ∷ v4 ∷ []) (λ z a. c.nearest-f0.result ≡ nearest z (nat_abs a)) tt c.nearest-f0.ensures

f'_is : (c : After-nearest-f1) → (let s = (goal.at.After-nearest-f1 c).Start in c.nearest-f1.result ≡ f s s.args.z1)
unfolding quintic
f'_is c = gives (within (goal.at.After-nearest-f1 c).Start) (v6 ∷ v4 ∷ []) (λ z a. c.nearest-f1.result ≡ nearest z (nat_abs a)) tt c.nearest-f1.ensures

-- ---- the level

abbrev lineE : E
lineE = v0 :* v0 :* (v2 :* (v0 :- v1) :+ v3 :* v1)

-- q r y0 y1 w w' f f'
module _ (c : After-nearest-f1) where
  abbrev s₄ : Start
  s₄ = (goal.at.After-nearest-f1 c).Start

  for_level : In w64 (held s₄.args.q ∷ held s₄.args.r ∷ held s₄.args.y0 ∷ held s₄.args.y1 ∷ held c.weight-w0.result ∷ held c.weight-w1.result ∷ held c.nearest-f0.result ∷ held c.nearest-f1.result ∷ [])
      (pos 1 to pos most_parts ∷ pos 0 to pos most_parts ∷ ± quintic.ordinates ∷ ± quintic.ordinates ∷ ± (2 * most_cube) ∷ ± (2 * most_cube) ∷ ± (2 * quintic.ordinates) ∷ ± (2 * quintic.ordinates) ∷ [])
  for_level =
      let g = (within s₄).each in
      let p = s₄.requires in
      record {
        each = (
          g.0,
          (
            g.1.0,
            (
              g.1.1.0,
              (
                g.1.1.1.0,
                (
                  ∈_abs (rw (w_is (goal.at.After-nearest-f1 c).After-weight-w0) (w_size s₄)),
                  (∈_abs (rw (w'_is (goal.at.After-nearest-f1 c).After-weight-w1) (w'_size s₄)), (∈_abs (rw (f_is (goal.at.After-nearest-f1 c).After-nearest-f0) (f_size s₄ s₄.args.z0 p.z_in)), (∈_abs (rw (f'_is c) (f_size s₄ s₄.args.z1 p.z'_in)), tt))),
                ),
              ),
            ),
          ),
        );
      }

abbrev five : List E
five = lineE ∷ v4 ∷ v5 ∷ v6 ∷ v7 ∷ []

pub bent-level-requires : goal.bent-level-requires
unfolding quintic
bent-level-requires c = asks (for_level c) five InBend tt (moved₄ (InBend (l (s₄ c))) (w_is (goal.at.bent-level-requires c).After-weight-w0) (w'_is (goal.at.bent-level-requires c).After-weight-w1) (f_is (goal.at.bent-level-requires c).After-nearest-f0) (f'_is c) (in_bend (s₄ c)))

level_is : (c : After-bent-level) → c.bent-level.result ≡ level (s₄ (goal.at.After-bent-level c).After-nearest-f1)
unfolding quintic
level_is c =
    let s = s₄ (goal.at.After-bent-level c).After-nearest-f1 in
    gives (for_level (goal.at.After-bent-level c).After-nearest-f1) five (λ x w w' z z'. c.bent-level.result ≡ bent x w w' z z') tt c.bent-level.ensures
    ∙ moved₄ (λ x y z t. bent (l s) x y z t ≡ level s) (w_is (goal.at.After-bent-level c).After-weight-w0) (w'_is (goal.at.After-bent-level c).After-weight-w1) (f_is (goal.at.After-bent-level c).After-nearest-f0) (f'_is (goal.at.After-bent-level c).After-nearest-f1) refl

-- ---- what is left of the unknowns

-- a z0 z1 f f'
for_left : (c : After-nearest-f1) →
    In w64 (held (s₄ c).args.a ∷ held (s₄ c).args.z0 ∷ held (s₄ c).args.z1 ∷ held c.nearest-f0.result ∷ held c.nearest-f1.result ∷ [])
    (pos 1 to pos largest ∷ ± most_unknown ∷ ± most_unknown ∷ ± (2 * quintic.ordinates) ∷ ± (2 * quintic.ordinates) ∷ [])
for_left c =
    let g = (within (s₄ c)).each in
    let l = (for_level c).each in
    record { each = (g.1.1.1.1.0, (g.1.1.1.1.1.0, (g.1.1.1.1.1.1.0, (l.1.1.1.1.1.1.0, (l.1.1.1.1.1.1.1.0, tt))))) }

pub left-e0-requires : goal.left-e0-requires
unfolding quintic
left-e0-requires c =
    let s = s₄ (goal.at.left-e0-requires c).After-nearest-f1 in
    asks (for_left (goal.at.left-e0-requires c).After-nearest-f1) (v1 ∷ v0 ∷ v3 ∷ []) InLeft tt (subst (InLeft s.args.z0 s.args.a) (sym (f_is (goal.at.left-e0-requires c).After-nearest-f0)) (in_left s s.args.z0 s.requires.z_in))

pub left-e1-requires : goal.left-e1-requires
unfolding quintic
left-e1-requires c =
    let s = s₄ (goal.at.left-e1-requires c).After-nearest-f1 in
    asks (for_left (goal.at.left-e1-requires c).After-nearest-f1) (v2 ∷ v0 ∷ v4 ∷ []) InLeft tt (subst (InLeft s.args.z1 s.args.a) (sym (f'_is (goal.at.left-e1-requires c).After-nearest-f1)) (in_left s s.args.z1 s.requires.z'_in))

e_is : (c : After-left-e0) → (let s = s₄ (goal.at.After-left-e0 c).After-nearest-f1 in c.left-e0.result ≡ e s s.args.z0)
unfolding quintic
e_is c =
    let s = s₄ (goal.at.After-left-e0 c).After-nearest-f1 in
    gives (for_left (goal.at.After-left-e0 c).After-nearest-f1) (v1 ∷ v0 ∷ v3 ∷ []) (λ z d f. c.left-e0.result ≡ z -ℤ d *ℤ f) tt c.left-e0.ensures
    ∙ ap (λ f. s.args.z0 -ℤ s.args.a *ℤ f) (f_is (goal.at.After-left-e0 c).After-nearest-f0)

e'_is : (c : After-left-e1) → (let s = s₄ (goal.at.After-left-e1 c).After-nearest-f1 in c.left-e1.result ≡ e s s.args.z1)
unfolding quintic
e'_is c =
    let s = s₄ (goal.at.After-left-e1 c).After-nearest-f1 in
    gives (for_left (goal.at.After-left-e1 c).After-nearest-f1) (v2 ∷ v0 ∷ v4 ∷ []) (λ z d f. c.left-e1.result ≡ z -ℤ d *ℤ f) tt c.left-e1.ensures
    ∙ ap (λ f. s.args.z1 -ℤ s.args.a *ℤ f) (f'_is (goal.at.After-left-e1 c).After-nearest-f1)

-- ---- settled

module _ (c : After-left-e1) where
  abbrev s₇ : Start
  s₇ = s₄ (goal.at.After-left-e1 c).After-nearest-f1

  -- a q level w w' e e'
  for_settled :
      In w64 (held s₇.args.a ∷ held s₇.args.q ∷ held c.bent-level.result ∷ held c.weight-w0.result ∷ held c.weight-w1.result ∷ held c.left-e0.result ∷ held c.left-e1.result ∷ [])
      (pos 1 to pos largest ∷ pos 1 to pos most_parts ∷ ± most_level ∷ ± (2 * most_cube) ∷ ± (2 * most_cube) ∷ ± largest ∷ ± largest ∷ [])
  for_settled =
      let l = (for_level (goal.at.After-left-e1 c).After-nearest-f1).each in
      record {
        each = (
          (for_left (goal.at.After-left-e1 c).After-nearest-f1).each.0,
          (l.0, (∈_abs (rw (level_is (goal.at.After-left-e1 c).After-bent-level) (level_size s₇)), (l.1.1.1.1.0, (l.1.1.1.1.1.0, (∈_abs (rw (e_is (goal.at.After-left-e1 c).After-left-e0) (e_size s₇ s₇.args.z0)), (∈_abs (rw (e'_is c) (e_size s₇ s₇.args.z1)), tt)))))),
        );
      }

abbrev seven : List E
seven = v0 ∷ (v1 :* v1 :* v1) ∷ v2 ∷ v3 ∷ v4 ∷ v5 ∷ v6 ∷ []

pub settled-requires : goal.settled-requires
unfolding quintic
settled-requires c = asks (for_settled c) seven InLevel tt
    (moved₅ (InLevel (s₇ c).args.a (cube (s₇ c))) (level_is (goal.at.settled-requires c).After-bent-level) (w_is (goal.at.settled-requires c).After-weight-w0) (w'_is (goal.at.settled-requires c).After-weight-w1) (e_is (goal.at.settled-requires c).After-left-e0) (e'_is c) (in_level (s₇ c)))

pub returns : goal.returns
unfolding quintic
returns c =
    let s = s₇ (goal.at.returns c).After-left-e1 in
    to_z-of_z {w = w64} (record { sfits = c.settled.type_inv })
    ∙ gives (for_settled (goal.at.returns c).After-left-e1) seven (λ a cube level w w' z z'. c.settled.result ≡ nearest (bent (a *ℤ level) w w' z z') (nat_abs (a *ℤ cube))) tt c.settled.ensures
    ∙ ap (λ n. nearest n (nat_abs (s.args.a *ℤ cube s)))
    (moved₅ (λ x w w' z z'. bent (s.args.a *ℤ x) w w' z z' ≡ bent (s.args.a *ℤ l s) (weight s.args.q (s.args.q -ℤ s.args.r)) (weight s.args.q s.args.r) s.args.z0 s.args.z1)
    (level_is (goal.at.returns c).After-bent-level) (w_is (goal.at.returns c).After-weight-w0) (w'_is (goal.at.returns c).After-weight-w1) (e_is (goal.at.returns c).After-left-e0) (e'_is (goal.at.returns c).After-left-e1)
    (without s.args.a (l s) (w s) (w' s) s.args.z0 s.args.z1 (f s s.args.z0) (f s s.args.z1))
    ∙ cubic_is s.args.a s.args.q s.args.r s.args.y0 s.args.y1 s.args.z0 s.args.z1)

pub overflow_cast-a : goal.overflow_cast-a
overflow_cast-a c = by_a (goal.at.overflow_cast-a c).Start

pub overflow_cast-a-2 : goal.overflow_cast-a-2
overflow_cast-a-2 c = by_a (goal.at.overflow_cast-a-2 c).Start

pub overflow_mul-q : goal.overflow_mul-q
overflow_mul-q c = step (for_level c) (v0 :* v0) tt

pub overflow_sub-q-2 : goal.overflow_sub-q-2
overflow_sub-q-2 c = step (for_level c) (v0 :- v1) tt

pub overflow_mul-y0 : goal.overflow_mul-y0
unfolding quintic
overflow_mul-y0 c = step (for_level c) (v2 :* (v0 :- v1)) tt

pub overflow_mul-y1 : goal.overflow_mul-y1
unfolding quintic
overflow_mul-y1 c = step (for_level c) (v3 :* v1) tt

pub overflow_add-y0 : goal.overflow_add-y0
unfolding quintic
overflow_add-y0 c = step (for_level c) (v2 :* (v0 :- v1) :+ v3 :* v1) tt

pub overflow_mul-q-2 : goal.overflow_mul-q-2
unfolding quintic
overflow_mul-q-2 c = step (for_level c) lineE tt

pub overflow_mul-q-3 : goal.overflow_mul-q-3
overflow_mul-q-3 c = step (for_settled c) (v1 :* v1) tt

pub overflow_mul-q-4 : goal.overflow_mul-q-4
overflow_mul-q-4 c = step (for_settled c) (v1 :* v1 :* v1) tt
