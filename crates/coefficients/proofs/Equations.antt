-- In whole numbers A, L, R and k are the coefficients of document 01's equations, for all powers, ordinates, slopes and curvatures; and a row that an end replaces says
-- s = given or c = given, exactly where the equation is not asked. Assumes nothing.
use Prim.Native.Nat.{ℕ, zero, suc, ◌*◌, ◌≤◌}
use native.Mathlib.Omega.{arith}
use mathlib.Core.Path.{◌≡◌, refl, sym, ◌∙◌}
use mathlib.Core.Bool.{not}
use mathlib.Core.List.{List, [], ◌∷◌}
use lib.Dec.{T}
use lib.IntN.{ℤ, pos}
use Rattle.whole.proofs.Solve.{E as Expression, con, ◌:+◌, ◌:-◌, ◌:*◌, :neg, #, Sides, ring}
use Rattle.curve.specs.Formula.{Formula, num, ◌⊖◌, ◌⊛◌, worth, amount}
use Rattle.curve.specs.Curve.{Order, third, fourth, degree, equation, equals}
use Rattle.curve.specs.Kind.{end, quintic_asks}
use Rattle.curve.specs.Card.{Card, knot, gap, back, on}
use Rattle.curve.specs.Jump.{inverse, clear, over}
use Rattle.curve.specs.Exact.{Meets}
use Rattle.curve.proofs.Written.{amount_e, powers, equating}
use Rattle.coefficients.specs.Coefficients.{Arithmetic, exact, Column, Rows, column, rows, both_given, replaced, left_side}

-- the row of an order: the fourth derivative's is the first
abbrev pub row : {X : Type 0} → Order → Column X → X
row fourth v = v.s
row third v = v.c

-- in the solver's expressions
abbrev pub expressions : Arithmetic Expression
expressions =
    record {
      ◌⊕◌ = ◌:+◌;
      ◌⊖◌ = ◌:-◌;
      ◌⊗◌ = ◌:*◌;
      minus = :neg;
      n0 = con exact.n0;
      n1 = con exact.n1;
      n3 = con exact.n3;
      n8 = con exact.n8;
      n12 = con exact.n12;
      n20 = con exact.n20;
      n56 = con exact.n56;
      n64 = con exact.n64;
      n120 = con exact.n120;
    }

-- a knot with the powers p and the rise E of the gap on its left, g and D on its right
module _ (p : ℕ → ℤ) (E : Formula ℤ) (g : ℕ → ℤ) (D : Formula ℤ) where
  abbrev pub here : Rows ℤ
  here = rows exact p (amount E) g (amount D)

  -- k is the equation's right side
  pub right_is_equals : (o : Order) → row o here.k ≡ amount (equals o (λ i. num (g i)) (λ i. num (p i)) D E)
  unfolding amount worth equals
  right_is_equals fourth = refl
  right_is_equals third = refl

  -- the pairs of the knot before, its own, and of the next knot
  module _ (s⁻ c⁻ s c s⁺ c⁺ : ℤ) where
    abbrev left : Rows ℤ → Column ℤ
    left x = left_side exact x (column s⁻ c⁻) (column s c) (column s⁺ c⁺)

    abbrev numbers : List ℤ
    numbers = p 1 ∷ p 2 ∷ p 3 ∷ p 4 ∷ g 1 ∷ g 2 ∷ g 3 ∷ g 4 ∷ s⁻ ∷ c⁻ ∷ s ∷ c ∷ s⁺ ∷ c⁺ ∷ []

    abbrev both : Order → Sides numbers
    both o =
        λ p₁ p₂ p₃ p₄ g₁ g₂ g₃ g₄ s⁻ c⁻ s c s⁺ c⁺.
        let p : ℕ → Expression = powers p₁ p₂ p₃ p₄ in
        let g : ℕ → Expression = powers g₁ g₂ g₃ g₄ in
        (row o (left_side expressions (rows expressions p (# 0) g (# 0)) (column s⁻ c⁻) (column s c) (column s⁺ c⁺)), amount_e (equating g p o s⁻ c⁻ s c s⁺ c⁺))

    -- L·(pair before) + A·(pair) + R·(next pair) is the equation's left side
    pub left_is_equation : (o : Order) → row o (left here) ≡ amount (equating g p o s⁻ c⁻ s c s⁺ c⁺)
    unfolding amount worth equation
    left_is_equation fourth = ring numbers (both fourth) tt
    left_is_equation third = ring numbers (both third) tt

    -- ---- ends

    -- the row of an order says that this is equal to that
    pub record Says (x : Rows ℤ) (o : Order) (this that : ℤ) : Type 0 where
      pub left_is : row o (left x) ≡ this
      pub right_is : row o x.k ≡ that

    -- the equation
    abbrev pub Kept : Rows ℤ → Order → Type 0
    Kept x o = Says x o (amount (equating g p o s⁻ c⁻ s c s⁺ c⁺)) (amount (equals o (λ i. num (g i)) (λ i. num (p i)) D E))

    -- s = given, or c = given
    abbrev pub Given : Column ℤ → Rows ℤ → Order → Type 0
    Given given x o = Says x o (row o (column s c)) (row o given)

    abbrev at_end : ℕ → Column ℤ → Rows ℤ
    at_end code given = replaced exact code given here

    kept : (o : Order) → Kept here o
    kept o = record { left_is = left_is_equation o; right_is = right_is_equals o }

    -- a row of zeros but for a 1 at the number itself
    abbrev alone : Order → Sides (s⁻ ∷ c⁻ ∷ s ∷ c ∷ s⁺ ∷ c⁺ ∷ [])
    alone o = λ s⁻ c⁻ s c s⁺ c⁺. (row o (left_side expressions (both_given expressions s c) (column s⁻ c⁻) (column s c) (column s⁺ c⁺)), row o (column s c))

    itself : (o : Order) (given : Column ℤ) → Given given (at_end 1 given) o
    itself fourth given = record { left_is = ring (s⁻ ∷ c⁻ ∷ s ∷ c ∷ s⁺ ∷ c⁺ ∷ []) (alone fourth) tt; right_is = refl }
    itself third given = record { left_is = ring (s⁻ ∷ c⁻ ∷ s ∷ c ∷ s⁺ ∷ c⁺ ∷ []) (alone third) tt; right_is = refl }

    pub asked : (code : ℕ) (given : Column ℤ) (o : Order) → T (quintic_asks (end code) o) → Kept (at_end code given) o
    unfolding quintic_asks
    asked zero given o t = kept o
    asked (suc zero) given third t = absurd t
    asked (suc zero) given fourth t = absurd t
    asked (suc (suc zero)) given third t = absurd t
    asked (suc (suc zero)) given fourth t = record { left_is = left_is_equation fourth; right_is = right_is_equals fourth }
    asked (suc (suc (suc n))) given o t = kept o

    pub not_asked : (code : ℕ) → code ≤ 2 → (given : Column ℤ) (o : Order) → T (not (quintic_asks (end code) o)) → Given given (at_end code given) o
    unfolding quintic_asks
    not_asked zero h given third t = absurd t
    not_asked zero h given fourth t = absurd t
    not_asked (suc zero) h given o t = itself o given
    not_asked (suc (suc zero)) h given third t = record { left_is = (itself third given).left_is; right_is = refl }
    not_asked (suc (suc zero)) h given fourth t = absurd t
    not_asked (suc (suc (suc n))) h given o t = absurd (omega arith)

-- ---- a card's knot

-- slopes s i / q and curvatures c i / q; the rows of place i, multiplied by q and by the gaps' powers as `Meets` multiplies the equation of an order
module _ (card : Card) (q : ℕ) (s c : ℕ → ℤ) (i : ℕ) (o : Order) where
  abbrev pub powers_over : (h k : ℕ) → ℕ → ℤ
  powers_over h k j = pos (inverse h (degree o) j * clear k (degree o))

  abbrev pub rows_at : Rows ℤ
  rows_at =
      let a = knot card (back i) in
      let b = knot card i in
      let e = knot card (on card i) in
      here (powers_over (gap a b) (gap b e)) (q ⊛ (num b.y ⊖ num a.y)) (powers_over (gap b e) (gap a b)) (q ⊛ (num e.y ⊖ num b.y))

  abbrev pub pair_at : ℕ → Column ℤ
  pair_at j = column (s j) (c j)

  abbrev pub Solves : Type 0
  Solves = row o (left_side exact rows_at (pair_at (back i)) (pair_at i) (pair_at (on card i))) ≡ row o rows_at.k

  -- "An exact solution of a card": what meets the equation solves the row, and what solves the row meets the equation
  pub meets_solves : (Meets card q s c i o → Solves) × (Solves → Meets card q s c i o)
  unfolding Meets over
  meets_solves =
      let a = knot card (back i) in
      let b = knot card i in
      let e = knot card (on card i) in
      let p = powers_over (gap a b) (gap b e) in
      let g = powers_over (gap b e) (gap a b) in
      let E = q ⊛ (num b.y ⊖ num a.y) in
      let D = q ⊛ (num e.y ⊖ num b.y) in
      let l = left_is_equation p E g D (s (back i)) (c (back i)) (s i) (c i) (s (on card i)) (c (on card i)) o in
      let r = right_is_equals p E g D o in
      ((λ m. l ∙ m ∙ sym r), (λ m. sym l ∙ m ∙ r))
