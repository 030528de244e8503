-- A knot's matrices in binary64, multiplied and subtracted: each entry of a product is two products, then their sum.
-- Assumes nothing.
use Rattle.rows.specs.declared.Pair.{Pair}
use Rattle.rows.specs.declared.Block.{Block}
use Rattle.rows.specs.Floats.{◌⊕◌, ◌⊖◌, ◌⊗◌}
use Rattle.rows.specs.Equations.{pair, block}

infixl 60 ◌less◌
infixl 60 ◌minus◌
infixl 70 ◌times◌
infixl 70 ◌on◌
abbrev pub ◌times◌ : Block → Block → Block
m times n =
    block
    (m.e11 ⊗ n.e11 ⊕ m.e12 ⊗ n.e21)
    (m.e11 ⊗ n.e12 ⊕ m.e12 ⊗ n.e22)
    (m.e21 ⊗ n.e11 ⊕ m.e22 ⊗ n.e21)
    (m.e21 ⊗ n.e12 ⊕ m.e22 ⊗ n.e22)

abbrev pub ◌on◌ : Block → Pair → Pair
m on v = pair (m.e11 ⊗ v.s ⊕ m.e12 ⊗ v.c) (m.e21 ⊗ v.s ⊕ m.e22 ⊗ v.c)

abbrev pub ◌less◌ : Block → Block → Block
m less n = block (m.e11 ⊖ n.e11) (m.e12 ⊖ n.e12) (m.e21 ⊖ n.e21) (m.e22 ⊖ n.e22)

abbrev pub ◌minus◌ : Pair → Pair → Pair
v minus w = pair (v.s ⊖ w.s) (v.c ⊖ w.c)
