-- A knot's two equations over any numbers, after document 01's "The equations" and the first paragraph of "The elimination": the matrices A, L and R, the right side k,
-- and the rows that an end replaces. In binary64 they are what the fit works out (`rows`), in whole numbers they are the equations themselves (proofs/Equations).
-- Powers are a function: `g 3` is the document's g3. Assumes nothing.
use Rattle.std.specs.Prelude.{ℕ, zero, suc, List, [], ◌∷◌, ℤ, pos, neg_ℤ, ◌+ℤ◌, ◌-ℤ◌, ◌*ℤ◌}

-- the operations and the numbers that they are written in
pub record Arithmetic (X : Type 0) : Type 0 where
  pub ◌⊕◌ : X → X → X
  pub ◌⊖◌ : X → X → X
  pub ◌⊗◌ : X → X → X
  pub minus : X → X
  pub n0 : X
  pub n1 : X
  pub n3 : X
  pub n8 : X
  pub n12 : X
  pub n20 : X
  pub n56 : X
  pub n64 : X
  pub n120 : X

abbrev pub exact : Arithmetic ℤ
exact =
    record {
      ◌⊕◌ = ◌+ℤ◌;
      ◌⊖◌ = ◌-ℤ◌;
      ◌⊗◌ = ◌*ℤ◌;
      minus = neg_ℤ;
      n0 = pos 0;
      n1 = pos 1;
      n3 = pos 3;
      n8 = pos 8;
      n12 = pos 12;
      n20 = pos 20;
      n56 = pos 56;
      n64 = pos 64;
      n120 = pos 120;
    }

abbrev pub listed : {X : Type 0} → Arithmetic X → List X
listed x = x.n0 ∷ x.n1 ∷ x.n3 ∷ x.n8 ∷ x.n12 ∷ x.n20 ∷ x.n56 ∷ x.n64 ∷ x.n120 ∷ []

-- by its rows
pub record Matrix (X : Type 0) : Type 0 where
  pub e11 : X
  pub e12 : X
  pub e21 : X
  pub e22 : X

-- (slope, curvature); also a right side
pub record Column (X : Type 0) : Type 0 where
  pub s : X
  pub c : X

-- L·(pair before) + A·(pair) + R·(next pair) = k
pub record Rows (X : Type 0) : Type 0 where
  pub a : Matrix X
  pub l : Matrix X
  pub r : Matrix X
  pub k : Column X

module _ {X : Type 0} where
  abbrev pub column : X → X → Column X
  column s c = record { s = s; c = c }

  abbrev pub matrix : X → X → X → X → Matrix X
  matrix e11 e12 e21 e22 = record { e11 = e11; e12 = e12; e21 = e21; e22 = e22 }

  -- the third-derivative row is the second
  abbrev pub second : Matrix X → X → X → Matrix X
  second m e21 e22 = matrix m.e11 m.e12 e21 e22

module _ {X : Type 0} (arithmetic : Arithmetic X) where
  open arithmetic use {◌⊕◌, ◌⊖◌, ◌⊗◌, minus, n0, n1, n3, n8, n12, n20, n56, n64, n120}

  infixl 60 ◌⊕◌
  infixl 60 ◌⊖◌
  infixl 70 ◌⊗◌
  -- ---- rows

  -- (64·(p3+g3), 12·(g2−p2)) and (12·(g2−p2), 3·(p+g))
  abbrev pub A : (p g : ℕ → X) → Matrix X
  A p g = matrix (n64 ⊗ (p 3 ⊕ g 3)) (n12 ⊗ (g 2 ⊖ p 2)) (n12 ⊗ (g 2 ⊖ p 2)) (n3 ⊗ (p 1 ⊕ g 1))

  -- (56·p3, 8·p2) and ((−8)·p2, −p)
  abbrev pub L : (p : ℕ → X) → Matrix X
  L p = matrix (n56 ⊗ p 3) (n8 ⊗ p 2) (minus n8 ⊗ p 2) (minus (p 1))

  -- (56·g3, (−8)·g2) and (8·g2, −g)
  abbrev pub R : (g : ℕ → X) → Matrix X
  R g = matrix (n56 ⊗ g 3) (minus n8 ⊗ g 2) (n8 ⊗ g 2) (minus (g 1))

  -- (120·(g4·D+p4·E), 20·(g3·D−p3·E))
  abbrev pub right_side : (p : ℕ → X) (E : X) (g : ℕ → X) (D : X) → Column X
  right_side p E g D = column (n120 ⊗ (g 4 ⊗ D ⊕ p 4 ⊗ E)) (n20 ⊗ (g 3 ⊗ D ⊖ p 3 ⊗ E))

  abbrev pub rows : (p : ℕ → X) (E : X) (g : ℕ → X) (D : X) → Rows X
  rows p E g D = record { a = A p g; l = L p; r = R g; k = right_side p E g D }

  -- ---- ends

  -- "Code 1 replaces both rows by s = given and c = given": 0 and 1 in A, zeros in L and R, the given number in k
  abbrev pub both_given : X → X → Rows X
  both_given s c = record { a = matrix n1 n0 n0 n1; l = matrix n0 n0 n0 n0; r = matrix n0 n0 n0 n0; k = column s c }

  -- "Code 2 replaces the third-derivative row by c = given"
  abbrev pub curvature_given : Rows X → X → Rows X
  curvature_given x c = record { a = second x.a n0 n1; l = second x.l n0 n0; r = second x.r n0 n0; k = column x.k.s c }

  -- by the code of an end and the numbers given for it; code 0 keeps both rows, as an inner knot does, and so does a code that 15 refuses
  abbrev pub replaced : (code : ℕ) → Column X → Rows X → Rows X
  replaced zero given x = x
  replaced (suc zero) given x = both_given given.s given.c
  replaced (suc (suc zero)) given x = curvature_given x given.c
  replaced (suc (suc (suc code))) given x = x

  -- ---- what the rows say

  -- each entry of a product is two products, then their sum
  abbrev pub on : Matrix X → Column X → Column X
  on m v = column (m.e11 ⊗ v.s ⊕ m.e12 ⊗ v.c) (m.e21 ⊗ v.s ⊕ m.e22 ⊗ v.c)

  abbrev pub plus : Column X → Column X → Column X
  plus v w = column (v.s ⊕ w.s) (v.c ⊕ w.c)

  -- L·(pair before) + A·(pair) + R·(next pair)
  abbrev pub left_side : Rows X → (before here next : Column X) → Column X
  left_side x before here next = plus (plus (on x.l before) (on x.a here)) (on x.r next)
