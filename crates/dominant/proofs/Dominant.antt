-- Equations 3(p+g)·x − p·x⁻ − g·x⁺ = r at the places 0 to n − 1, where x⁻ and x⁺ are the neighbours' numbers
-- and a missing neighbour is the place itself. Where p + g is never 0: what bounds the left sides bounds x,
-- by the place where x is greatest; so left sides zero leave only zeros, and every right sides have a
-- solution. Assumes nothing.
use mathlib.Core.Path.{◌≡◌, refl, ap, ◌∙◌}
use mathlib.Core.List.{[], ◌∷◌}
use Prim.Native.Nat.{ℕ, zero, suc, ◌+◌, ◌-◌, ◌*◌, min, ◌≤◌, ◌<◌}
use native.Mathlib.Nat.{mul_comm, mul-le-mul_left, le_of_mul-le-mul_right, le_trans, le_refl, lt_of_not-le}
use native.Mathlib.Decide.{dec_le}
use native.Mathlib.Omega.{arith}
use lib.IntN.{ℤ, pos, nat_abs, ◌+ℤ◌, ◌-ℤ◌, ◌*ℤ◌, zero-*ℤ}
use borrow.Author.Count.{below_more}
use Rattle.whole.specs.Whole.{◌·◌}
use Rattle.whole.proofs.Order.{abs_mul, abs_add}
use Rattle.whole.proofs.Solve.{◌:+◌, ◌:-◌, ◌:*◌, #, ring, zero_abs}
use Rattle.linear.proofs.Solvable.{Equation, Solution, solution}

-- ---- a place where a number is greatest

record Greatest (f : ℕ → ℕ) (n : ℕ) : Type 0 where
  spot : ℕ
  below : spot < n
  most : (i : ℕ) → i < n → f i ≤ f spot

further : (f : ℕ → ℕ) (n : ℕ) → Greatest f n → Greatest f (suc n)
further f n rest = elim (dec_le (f n) (f rest.spot)) [ yes h ↦ stays h | no h ↦ moves (lt_of_not-le h) ]
  where
    stays : f n ≤ f rest.spot → Greatest f (suc n)
    stays h = record { spot = rest.spot; below = omega (arith, rest.below); most = λ i l. below_more (λ i. f i ≤ f rest.spot) n rest.most h i (omega arith) }

    moves : f rest.spot < f n → Greatest f (suc n)
    moves h = record { spot = n; below = omega arith; most = λ i l. below_more (λ i. f i ≤ f n) n (λ i l. omega (arith, rest.most i l)) (le_refl (f n)) i (omega arith) }

greatest : (f : ℕ → ℕ) (n : ℕ) → Greatest f (suc n)
greatest f zero = record { spot = 0; below = omega arith; most = λ i l. below_more (λ i. f i ≤ f 0) 0 (λ i l. absurd (omega arith)) (le_refl (f 0)) i (omega arith) }
greatest f (suc n) = further f (suc n) (greatest f n)

-- ---- the left side

abbrev pub before : ℕ → ℕ
before i = i - 1

abbrev pub after : ℕ → ℕ → ℕ
after n i = min (i + 1) (n - 1)

abbrev pub left_side : ℕ → ℕ → ℤ → ℤ → ℤ → ℤ
left_side g p x⁻ x x⁺ = 3 · (pos p +ℤ pos g) *ℤ x -ℤ pos p *ℤ x⁻ -ℤ pos g *ℤ x⁺

-- a number that is as great as its neighbours is at most half of what its left side is bounded by
dominant : (B g p D : ℕ) (x⁻ x x⁺ : ℤ) → 0 < g + p → nat_abs x⁻ ≤ D → nat_abs x ≡ D → nat_abs x⁺ ≤ D → nat_abs (left_side g p x⁻ x x⁺) ≤ B * (g + p) → 2 * D ≤ B
dominant B g p D x⁻ x x⁺ some h⁻ h h⁺ small = le_of_mul-le-mul_right scaled some
  where
    parts : 3 · (pos p +ℤ pos g) *ℤ x ≡ left_side g p x⁻ x x⁺ +ℤ (pos p *ℤ x⁻ +ℤ pos g *ℤ x⁺)
    parts =
        ring (pos g ∷ pos p ∷ x⁻ ∷ x ∷ x⁺ ∷ [])
        (λ g p x⁻ x x⁺. (# 3 :* (p :+ g) :* x, # 3 :* (p :+ g) :* x :- p :* x⁻ :- g :* x⁺ :+ (p :* x⁻ :+ g :* x⁺))) tt

    all : nat_abs (3 · (pos p +ℤ pos g) *ℤ x) ≤ nat_abs (left_side g p x⁻ x x⁺) + (p * nat_abs x⁻ + g * nat_abs x⁺)
    all = omega (
      arith,
      ap nat_abs parts,
      abs_add (left_side g p x⁻ x x⁺) (pos p *ℤ x⁻ +ℤ pos g *ℤ x⁺),
      abs_add (pos p *ℤ x⁻) (pos g *ℤ x⁺),
      abs_mul (pos p) x⁻,
      abs_mul (pos g) x⁺,
    )

    size : nat_abs (3 · (pos p +ℤ pos g) *ℤ x) ≡ 3 * (p + g) * nat_abs x
    size = abs_mul (3 · (pos p +ℤ pos g)) x

    scaled : 2 * D * (g + p) ≤ B * (g + p)
    scaled = omega (arith, all, size, mul-le-mul_left p h⁻, mul-le-mul_left g h⁺, ap (λ k. p * k) h, ap (λ k. g * k) h, small, mul_comm D p, mul_comm D g)

module _ (n : ℕ) (g p : ℕ → ℕ) (some : (i : ℕ) → i < n → 0 < g i + p i) where
  -- the left side at a place
  abbrev pub left_at : (ℕ → ℤ) → ℕ → ℤ
  left_at x i = left_side (g i) (p i) (x (before i)) (x i) (x (after n i))

  pub bounded_by : (B : ℕ) (x : ℕ → ℤ) → ((i : ℕ) → i < n → nat_abs (left_at x i) ≤ B * (g i + p i)) → (i : ℕ) → i < n → 2 * nat_abs (x i) ≤ B
  bounded_by B x small i h =
      le_trans (mul-le-mul_left 2 (top.most i (omega arith)))
      (dominant B (g k) (p k) (nat_abs (x k)) (x (before k)) (x k) (x (after n k)) (some k below)
      (top.most (before k) (omega (arith, top.below))) refl (top.most (after n k) (omega arith)) (small k below))
    where
      top : Greatest (λ j. nat_abs (x j)) (suc (n - 1))
      top = greatest (λ j. nat_abs (x j)) (n - 1)

      k : ℕ
      k = top.spot

      below : k < n
      below = omega (arith, top.below)

  pub only_zeros : (x : ℕ → ℤ) → ((i : ℕ) → i < n → left_at x i ≡ pos 0) → (i : ℕ) → i < n → x i ≡ pos 0
  only_zeros x none i h = zero_abs (x i) (omega (arith, bounded_by 0 x (λ j l. rw (none j l) (omega arith)) i h))

  module _ (r : ℕ → ℤ) where
    abbrev pub equation : ℕ → Equation
    equation i =
        record {
          left =
              record {
                of = λ x. left_at x i;
                linear = λ a b x y.
                    ring (pos (g i) ∷ pos (p i) ∷ a ∷ b ∷ x (before i) ∷ x i ∷ x (after n i) ∷ y (before i) ∷ y i ∷ y (after n i) ∷ [])
                    (λ g p a b x⁻ x x⁺ y⁻ y y⁺. (
                      # 3 :* (p :+ g) :* (a :* x :- b :* y) :- p :* (a :* x⁻ :- b :* y⁻) :- g :* (a :* x⁺ :- b :* y⁺),
                      a :* (# 3 :* (p :+ g) :* x :- p :* x⁻ :- g :* x⁺) :- b :* (# 3 :* (p :+ g) :* y :- p :* y⁻ :- g :* y⁺),
                    )) tt;
              };
          right = r i;
        }

    pub solved : Solution n equation
    solved = solution n equation (λ x holds. only_zeros x (λ i l. holds i l ∙ zero-*ℤ (r i)))
