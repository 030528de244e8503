-- Document 001, "Table for Third-Degree Spline Interpolation Using Equi-Spaced Knots", in whole numbers, as
-- document 02, order 10, asks for it: Table 1, the unknowns of a table of values at equal steps, the equations
-- that they meet, and the natural cubic between the values. Assumes nothing.
use Rattle.std.specs.Prelude.{ℕ, zero, suc, ◌+◌, ◌-◌, ◌*◌, ◌^◌, ◌≤◌, ◌<◌, ◌≡◌, List, ℤ, pos, nat_abs, ◌+ℤ◌, ◌-ℤ◌, ◌*ℤ◌, length, get_or}
use Rattle.whole.specs.Whole.{◌·◌}
use Rattle.curve.specs.Formula.{Formula, τ, num, ◌⊕◌, ◌⊖◌, ◌⊗◌, ◌^^◌, worth, ∂^}

-- "a plain table of equal steps, 3 to 20 values"
abbrev pub most_values : ℕ
most_values = 20

-- the value at a place, in hundredths
abbrev pub y : List ℤ → ℕ → ℤ
y ys i = get_or ys i (pos 0)

-- ---- Table 1

-- at place k the a with index k − 1, the first of which has index −1: "each entry is four times the last less
-- the one before" (3.7)
unfoldable pub a : ℕ → ℕ
a zero = 1
a (suc zero) = 4
a (suc (suc k)) = 4 * a (suc k) - a k

-- "with n values, Table 1's a with index n−3 times the unknowns (one sixth of each second derivative, step one)
-- are whole"
unfoldable pub scale : List ℤ → ℕ
scale ys = a (length ys - 2)

-- ---- the unknowns, times the scale

-- the second difference δ² at the value after place i
unfoldable pub δ² : List ℤ → ℕ → ℤ
δ² ys i = y ys i -ℤ 2 · y ys (suc i) +ℤ y ys (suc (suc i))

-- the sum of (3.13) over the k inner values after place i: the signs change, and the last value has the
-- coefficient 1
unfoldable pub sum : List ℤ → (i k : ℕ) → ℤ
sum ys i zero = pos 0
sum ys i (suc k) = a k · δ² ys i -ℤ sum ys (suc i) k

-- none at the first value (3.1), at the next by (3.13), from there on by the continuity equation (2.2)
unfoldable pub unknown : List ℤ → ℕ → ℤ
unknown ys zero = pos 0
unknown ys (suc zero) = sum ys 0 (length ys - 2)
unknown ys (suc (suc i)) = scale ys · δ² ys i -ℤ 4 · unknown ys (suc i) -ℤ unknown ys i

-- numbers that, each over d, are zero at both ends (3.1) and meet every continuity equation (2.2)
pub record Continuous (ys : List ℤ) (d : ℕ) (z : ℕ → ℤ) : Type 0 where
  pub first : z 0 ≡ pos 0
  pub inner : (i : ℕ) → i + 2 < length ys → z i +ℤ 4 · z (suc i) +ℤ z (suc (suc i)) ≡ d · δ² ys i
  pub last : z (length ys - 1) ≡ pos 0

-- ---- the cubic

-- (2.1) at τ of q parts from a value y to the next, marked ', with unknowns z over a: both sides times a·q³
unfoldable pub cubic : {A : Type 0} → (a q y y' z z' : Formula A) → Formula A
cubic a q y y' z z' =
    let σ = q ⊖ τ in
    (a ⊗ y ⊖ z) ⊗ σ ⊗ q ^^ 2 ⊕ (a ⊗ y' ⊖ z') ⊗ τ ⊗ q ^^ 2
    ⊕ z ⊗ σ ^^ 3 ⊕ z' ⊗ τ ^^ 3

-- from the value at place i to the next, in so many parts
unfoldable pub between : List ℤ → (parts i : ℕ) → Formula ℤ
between ys parts i =
    cubic (num (pos (scale ys))) (num (pos parts))
    (num (y ys i)) (num (y ys (suc i)))
    (num (unknown ys i)) (num (unknown ys (suc i)))

unfoldable pub denominator : List ℤ → (parts : ℕ) → ℕ
denominator ys parts = scale ys * parts ^ 3

-- that the steps are one natural cubic spline through the values: each goes from its value to the next; where
-- two meet, they have one slope and one second derivative, six times the unknown; at both ends that is zero
pub record Spline (ys : List ℤ) (parts : ℕ) : Type 0 where
  pub from : (i : ℕ) → i + 1 < length ys → worth (between ys parts i) (pos 0) ≡ denominator ys parts · y ys i
  pub to : (i : ℕ) → i + 1 < length ys → worth (between ys parts i) (pos parts) ≡ denominator ys parts · y ys (suc i)
  pub slopes : (i : ℕ) → i + 2 < length ys → worth (∂^ 1 (between ys parts i)) (pos parts) ≡ worth (∂^ 1 (between ys parts (suc i))) (pos 0)
  pub seconds : (i : ℕ) → i + 2 < length ys → worth (∂^ 2 (between ys parts i)) (pos parts) ≡ worth (∂^ 2 (between ys parts (suc i))) (pos 0)
  pub sixths : (i : ℕ) → i + 1 < length ys → worth (∂^ 2 (between ys parts i)) (pos 0) ≡ 6 · pos parts *ℤ unknown ys i
  pub first : worth (∂^ 2 (between ys parts 0)) (pos 0) ≡ pos 0
  pub last : worth (∂^ 2 (between ys parts (length ys - 2))) (pos parts) ≡ pos 0

-- ---- inside

-- every value is within ±most
pub record Within (most : ℕ) (ys : List ℤ) : Type 0 where
  pub each : (i : ℕ) → i < length ys → nat_abs (y ys i) ≤ most

-- the last entry that a table of values can ask for, and so the largest: at place most_values − 2
abbrev pub largest : ℕ
largest = 21_252_634_831
