-- Formulas as they are written, what one is worth at a τ, and its derivative in τ, by the rules.
-- A is the type of the numbers in it: ℤ. A proof also takes a solver's expressions for A, so that no formula is written twice. Assumes nothing.
use Rattle.std.specs.Prelude.{ℕ, zero, suc, ℤ, pos, ◌+ℤ◌, ◌-ℤ◌, ◌*ℤ◌}

infixl 6 ◌⊕◌ ◌⊖◌
infixl 7 ◌⊗◌
infixr 8 ◌⊛◌
infix 9 ◌^^◌
pub data Formula (A : Type 0) : Type 0 where
  τ : Formula A
  num : A → Formula A
  nat : ℕ → Formula A
  ◌⊕◌ ◌⊖◌ ◌⊗◌ : Formula A → Formula A → Formula A
  ◌^^◌ : Formula A → ℕ → Formula A

-- `20 ⊛ D`: so many times
abbrev pub ◌⊛◌ : {A : Type 0} → ℕ → Formula A → Formula A
n ⊛ a = nat n ⊗ a

unfoldable pub power : ℤ → ℕ → ℤ
power z zero = pos 1
power z (suc n) = z *ℤ power z n

unfoldable pub worth : Formula ℤ → ℤ → ℤ
worth τ t = t
worth (num k) t = k
worth (nat n) t = pos n
worth (a ⊕ b) t = worth a t +ℤ worth b t
worth (a ⊖ b) t = worth a t -ℤ worth b t
worth (a ⊗ b) t = worth a t *ℤ worth b t
worth (a ^^ n) t = power (worth a t) n

-- the derivative
unfoldable pub ∂ : {A : Type 0} → Formula A → Formula A
∂ τ = nat 1
∂ (num k) = nat 0
∂ (nat n) = nat 0
∂ (a ⊕ b) = ∂ a ⊕ ∂ b
∂ (a ⊖ b) = ∂ a ⊖ ∂ b
∂ (a ⊗ b) = ∂ a ⊗ b ⊕ a ⊗ ∂ b
∂ (a ^^ zero) = nat 0
∂ (a ^^ suc n) = suc n ⊛ (a ^^ n ⊗ ∂ a)

-- so many times
unfoldable pub ∂^ : {A : Type 0} → ℕ → Formula A → Formula A
∂^ zero a = a
∂^ (suc n) a = ∂ (∂^ n a)

-- of a formula without τ
unfoldable pub amount : Formula ℤ → ℤ
amount a = worth a (pos 0)
