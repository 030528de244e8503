-- "The promise of a public function leaves its caller one possible outcome: number, place, results and the lent lists afterwards, refused calls too" (document 01,
-- "What a promise says"). A promise is `Post`, as the prover reads it from the source: of the type parameters, the arguments, the result and the parameters at exit.
-- Assumes nothing.
use Rattle.std.specs.Prelude.{◌≡◌}

module _ {K A X S : Type 0} (Post : K → A → X → S → Type 0) where
  -- two outcomes that meet it mean the same beside the arguments
  abbrev pub Means : {B : Type 0} → (K → A → X → S → B) → Type 0
  Means meaning = (κs : K) (a : A) (x y : X) (s t : S) → Post κs a x s → Post κs a y t → meaning κs a x s ≡ meaning κs a y t

  -- two outcomes that meet it are the same in what is left to the caller
  abbrev pub Leaves : {B : Type 0} → (X → S → B) → Type 0
  Leaves left = (κs : K) (a : A) (x y : X) (s t : S) → Post κs a x s → Post κs a y t → left x s ≡ left y t

  -- in its result
  abbrev pub Once : Type 0
  Once = Leaves (λ x s. x)

  -- in a list that it was lent to change
  abbrev pub Lent : {B : Type 0} → (S → B) → Type 0
  Lent list = Leaves (λ x s. list s)
