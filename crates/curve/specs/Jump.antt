-- Document 01, "The jump test": "All compared exactly, as fractions cleared to whole numbers."
-- Assumes nothing.
use Rattle.std.specs.Prelude.{ℕ, zero, suc, ◌-◌, ◌*◌, ◌^◌, Bool, not, ◌&&◌, ℤ, pos, nat_abs}
use Rattle.std.specs.Int.Signed.{le_z}
use Rattle.curve.specs.Formula.{Formula, num, ◌⊕◌, ◌⊖◌, ◌⊛◌, amount}
use Rattle.curve.specs.Curve.{Order, degree, rightward, leftward}
use Rattle.curve.specs.Kind.{Kind}
use Rattle.curve.specs.Card.{Knot, gap, Joint}

-- (1/h)^i times h^d, and h^d; for the gap 0, which is none: 0, and 1
unfoldable pub inverse : ℕ → ℕ → ℕ → ℕ
inverse zero d i = 0
inverse (suc h) d i = suc h ^ (d - i)

unfoldable pub clear : ℕ → ℕ → ℕ
clear zero d = 1
clear (suc h) d = suc h ^ d

-- the powers of 1/h, each times h^d·k^d
unfoldable pub over : ℕ → ℕ → ℕ → ℕ → Formula ℤ
over d h k i = num (pos (inverse h d i * clear k d))

-- "with D now 4096·D": the difference of two ordinates, in card units
unfoldable pub rise : Knot → Knot → Formula ℤ
rise a b = 4096 ⊛ (num b.y ⊖ num a.y)

-- right less left at the knot b between a and e, times h^d·k^d
unfoldable pub jump : Order → Knot → Knot → Knot → ℤ
jump o a b e =
    let h = gap b e in
    let k = gap a b in
    amount
    (rightward o (over (degree o) h k) (rise b e) (num b.m) (num e.m) (num b.M) (num e.M)
    ⊖ leftward o (over (degree o) k h) (rise a b) (num b.m) (num a.m) (num b.M) (num a.M))

-- "the two sides' sum", times h^d·k^d
unfoldable pub allowed : Kind → Order → Knot → Knot → Knot → ℤ
allowed K o a b e =
    let h = gap b e in
    let k = gap a b in
    amount (K.allowance o (over (degree o) h k) ⊕ K.allowance o (over (degree o) k h))

-- the size of the jump exceeds what is allowed, where it is asked
unfoldable pub jumps : Kind → Joint → Order → Bool
jumps K p o =
    K.asks p.spot o
    && not (le_z (pos (nat_abs (jump o p.before p.here p.after))) (allowed K o p.before p.here p.after))
