-- What a word's number is, by the tests that the code makes; a number with a sign from its digits.
-- Assumes nothing.
use Prim.Native.Nat.{ℕ, zero, suc, ◌-◌, ◌^◌, ◌≤◌, ◌<◌}
use mathlib.Core.Path.{◌≡◌, refl, ap}
use mathlib.Core.Bool.{Bool, true, false, cond}
use mathlib.Core.List.{List, [], ◌∷◌}
use native.Mathlib.Omega.{arith}
use lib.Dec.{ltb, eqb}
use lib.IntN.{negsuc}
use lib.ListN.{length, get_or}
use borrow.Author.Tests.{ltb-false}
use mir.Syntax.{w32}
use mir.Val.{to_z}
use mir.Facts.{to_z-of_z, to_z_pos}
use Rattle.decimal.specs.Decimal.{value}
use Rattle.numeral.specs.Number.{starts, all_digits, padded, at_most, natural, above, below}
use Rattle.numeral.specs.declared.Wrong.{Wrong}
use Rattle.std.specs.Prelude.{Ok, Err}

-- ---- the first byte

pub starts_by : (b : ℕ) (w : List ℕ) → 0 < length w → eqb (get_or w 0 0) b ≡ starts b w
unfolding starts
starts_by b [] h = absurd (omega arith)
starts_by b (x ∷ w) h = refl

pub starts_none : (b : ℕ) (w : List ℕ) → length w ≤ 0 → false ≡ starts b w
unfolding starts
starts_none b [] h = refl
starts_none b (x ∷ w) h = absurd (omega arith)

pub starts_some : (b : ℕ) (w : List ℕ) → starts b w ≡ true → 1 ≤ length w
unfolding starts
starts_some b [] e = let z : ◌≡◌ {A = ℕ} 0 1 = cc in absurd (omega arith)
starts_some b (x ∷ w) e = omega arith

-- ---- natural numbers

module _ (most : ℕ) (w : List ℕ) where
  module _ (d : all_digits w ≡ true) where
    pub is_value : padded w ≡ false → at_most most (value w) ≡ natural most w
    unfolding natural
    is_value e = rw (d, e)

  pub natural_upto : {n : ℕ} → natural most w ≡ Ok n → n ≤ most
  unfolding natural at_most
  natural_upto {n} e = go (all_digits w) (padded w) (ltb most (value w)) refl e
    where
      go : (a p l : Bool) → ltb most (value w) ≡ l → cond a (cond p (Err Wrong.LeadingZero) (cond l (Err Wrong.TooLarge) (Ok (value w)))) (Err Wrong.NotWhole) ≡ Ok n → n ≤ most
      go false p l t e = let z : ◌≡◌ {A = ℕ} 0 1 = cc in absurd (omega arith)
      go true true l t e = let z : ◌≡◌ {A = ℕ} 0 1 = cc in absurd (omega arith)
      go true false true t e = let z : ◌≡◌ {A = ℕ} 0 1 = cc in absurd (omega arith)
      go true false false t e = let v : value w ≡ n = cc in omega (arith, ltb-false most (value w) t)

-- ---- with a sign

module _ (w : List ℕ) {n : ℕ} where
  pub is_above : natural 2147483647 w ≡ Ok n → Ok (to_z w32 n) ≡ above (natural 2147483647 w)
  unfolding above
  is_above e = let h = natural_upto 2147483647 w e in rw (e, to_z_pos w32 {n = n} (omega arith))

  module _ (e : natural 2147483648 w ≡ Ok n) where
    pub is_below : (n ≡ 0 → ⊥) → Ok (to_z w32 (4294967295 - (n - 1))) ≡ below (natural 2147483648 w)
    unfolding below
    is_below z = rw e (go n z (natural_upto 2147483648 w e))
      where
        go : (n : ℕ) → (n ≡ 0 → ⊥) → n ≤ 2147483648 → Ok (to_z w32 (4294967295 - (n - 1))) ≡ below (Ok n)
        go zero z h = absurd (z refl)
        go (suc k) z h =
            let m : 4294967295 - (suc k - 1) ≡ 4294967296 - suc k = omega arith in
            let f : k < 2 ^ 31 = omega arith in
            rw m (ap Ok (to_z-of_z {w = w32} {z = negsuc k} (record { sfits = f })))
