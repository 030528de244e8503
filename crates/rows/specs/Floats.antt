-- The operations and the numbers of document 01's "The elimination, rounded once per operation". Assumes nothing.
-- A number is written by its bit pattern, as the code has it; `numbers` of `proofs/Patterns` computes that each pattern is the number of the exact equations.
use Rattle.std.specs.Prelude.{Float}
use Rattle.std.specs.Float.Ieee as Ieee
use Rattle.std.specs.Float.{binary64}
use Rattle.std.specs.Float.Ieee.{of_bits, neg}
use Rattle.coefficients.specs.Coefficients.{Arithmetic}

infixl 60 ◌⊕◌
infixl 60 ◌⊖◌
infixl 70 ◌⊗◌
infixl 70 ◌⊘◌
abbrev pub ◌⊕◌ : Float → Float → Float
x ⊕ y = Ieee.add binary64 x y

abbrev pub ◌⊖◌ : Float → Float → Float
x ⊖ y = Ieee.sub binary64 x y

abbrev pub ◌⊗◌ : Float → Float → Float
x ⊗ y = Ieee.mul binary64 x y

abbrev pub ◌⊘◌ : Float → Float → Float
x ⊘ y = Ieee.div binary64 x y

abbrev pub f0 : Float
f0 = of_bits binary64 0

abbrev pub f1 : Float
f1 = of_bits binary64 0x3ff0_0000_0000_0000

abbrev pub f3 : Float
f3 = of_bits binary64 0x4008_0000_0000_0000

abbrev pub f8 : Float
f8 = of_bits binary64 0x4020_0000_0000_0000

abbrev pub f12 : Float
f12 = of_bits binary64 0x4028_0000_0000_0000

abbrev pub f20 : Float
f20 = of_bits binary64 0x4034_0000_0000_0000

abbrev pub f56 : Float
f56 = of_bits binary64 0x404c_0000_0000_0000

abbrev pub f64 : Float
f64 = of_bits binary64 0x4050_0000_0000_0000

abbrev pub f120 : Float
f120 = of_bits binary64 0x405e_0000_0000_0000

-- the arithmetic of binary64
abbrev pub floats : Arithmetic Float
floats =
    record {
      ◌⊕◌ = ◌⊕◌;
      ◌⊖◌ = ◌⊖◌;
      ◌⊗◌ = ◌⊗◌;
      minus = neg;
      n0 = f0;
      n1 = f1;
      n3 = f3;
      n8 = f8;
      n12 = f12;
      n20 = f20;
      n56 = f56;
      n64 = f64;
      n120 = f120;
    }
