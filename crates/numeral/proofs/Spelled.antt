-- What the listing writes is read back: a number in decimal, and an ordinate with its sign.
-- Assumes nothing.
use Prim.Native.Nat.{ℕ, zero, suc, ◌+◌, ◌*◌, ◌/◌, ◌%◌, ◌^◌, ◌≤◌, ◌<◌}
use mathlib.Core.Path.{◌≡◌, refl, sym, ◌∙◌}
use mathlib.Core.Bool.{Bool, true, false, cond, and-false}
use mathlib.Core.List.{List, [], ◌∷◌, ◌++◌}
use native.Mathlib.Nat.{pow-suc}
use native.Mathlib.Omega.{arith}
use lib.Dec.{ltb, eqb}
use lib.IntN.{ℤ, pos, negsuc}
use lib.Signed.{mag}
use lib.ListN.{length, length-append}
use borrow.Author.Tests.{ltb-true, ltb-false, lt-ltb, le-ltb, eq-eqb, ne_eqb}
use Rattle.decimal.specs.Decimal.{digits, places, decimal, minus, signed}
use mir.Syntax.{w16, w32}
use mir.Val.{SFits}
use Rattle.decimal.proofs.Digits.{decimal_one, value_digits}
use Rattle.split.specs.Parts.{marks, stop}
use Rattle.numeral.specs.Number.{starts, all_digits, padded, at_most, natural, above, below, signed_number, narrowed, lone_minus, ordinate}
use Rattle.std.specs.Prelude.{Ok, Some}
use Rattle.split.specs.declared.Mark.{Mark}
use Rattle.split.specs.declared.Mark.TheVariants.{NoDigit}
use Rattle.split.proofs.Unmarked.{unmarked_more}
use Rattle.numeral.proofs.Numbers.{is_value}

-- ---- no byte is marked

-- a mark that no digit has
abbrev pub NoDigits : Mark → Type 0
NoDigits m = (d : ℕ) → d < 10 → marks m (48 + d) ≡ false

pub digits_unmarked : (m : Mark) → NoDigits m → (k n : ℕ) → stop m (digits k n) ≡ length (digits k n)
unfolding stop digits
digits_unmarked m f zero n = refl
digits_unmarked m f (suc k) n = go (ltb n 10) (digits_unmarked m f k (n / 10))
  where
    go : (b : Bool) → stop m (digits k (n / 10)) ≡ length (digits k (n / 10))
        → stop m (cond b [] (digits k (n / 10)) ++ ((48 + n % 10) ∷ [])) ≡ length (cond b [] (digits k (n / 10)) ++ ((48 + n % 10) ∷ []))
    go true e = unmarked_more m [] (48 + n % 10) refl (f (n % 10) (omega arith))
    go false e = unmarked_more m (digits k (n / 10)) (48 + n % 10) e (f (n % 10) (omega arith))

pub no_no_digit : NoDigits NoDigit
unfolding marks
no_no_digit d h = rw (le-ltb (48 + d) 48 (omega arith), le-ltb 57 (48 + d) (omega arith))

pub some_digit : (k n : ℕ) → 0 < length (digits (suc k) n)
unfolding digits
some_digit k n = omega (arith, length-append (cond (ltb n 10) [] (digits k (n / 10))) ((48 + n % 10) ∷ []))

-- ---- the first digit

starts_before : (b : ℕ) (xs ys : List ℕ) → 0 < length xs → starts b (xs ++ ys) ≡ starts b xs
unfolding starts
starts_before b [] ys h = absurd (omega arith)
starts_before b (x ∷ xs) ys h = refl

-- none begins with a byte below the digits, and one above zero does not begin with a zero
first_digit : (b k n : ℕ) → n < 10 ^ k → b ≤ 48 → b < 48 + n → starts b (digits k n) ≡ false
unfolding digits starts
first_digit b zero n h l g = refl
first_digit b (suc zero) n h l g = rw (lt-ltb n 10 (omega arith)) (ne_eqb (48 + n % 10) b (λ e. omega arith))
first_digit b (suc (suc k)) n h l g =
    let p : n < 10 ^ suc k * 10 = rw pow-suc at h in
    go (ltb n 10) refl (first_digit b (suc k) (n / 10) (omega arith) l)
  where
    go : (t : Bool) → ltb n 10 ≡ t → (b < 48 + n / 10 → starts b (digits (suc k) (n / 10)) ≡ false)
        → starts b (cond t [] (digits (suc k) (n / 10)) ++ ((48 + n % 10) ∷ [])) ≡ false
    go true t f = let few = ltb-true n 10 t in ne_eqb (48 + n % 10) b (λ e. omega arith)
    go false t f =
        let many = ltb-false n 10 t in
        starts_before b (digits (suc k) (n / 10)) ((48 + n % 10) ∷ []) (some_digit k (n / 10)) ∙ f (omega arith)

-- ---- there and back

module _ (n : ℕ) (h : n < 10 ^ places) where
  all_of_them : all_digits (decimal n) ≡ true
  all_of_them = rw (lt-ltb 0 (length (decimal n)) (some_digit _ n), eq-eqb (stop NoDigit (decimal n)) (length (decimal n)) (digits_unmarked NoDigit no_no_digit places n))

  not_padded : padded (decimal n) ≡ false
  not_padded = go (ltb n 10) refl
    where
      go : (t : Bool) → ltb n 10 ≡ t → padded (decimal n) ≡ false
      go true t = rw (decimal_one n (ltb-true n 10 t))
      go false t = let l = ltb-false n 10 t in rw (first_digit 48 places n h (omega arith) (omega arith)) (and-false (ltb 1 (length (decimal n))))

  pub decimal_read : (most : ℕ) → n ≤ most → natural most (decimal n) ≡ Ok n
  unfolding at_most
  decimal_read most l = sym (is_value most (decimal n) all_of_them not_padded) ∙ rw (value_digits places n h, le-ltb most n l)

-- a minus with digits behind it, or none at all, is no hole
not_lone : (z : ℤ) → SFits w16 z → lone_minus (signed z) ≡ false
unfolding signed starts
not_lone (pos n) f =
    let l : n < 32768 = f.sfits in
    rw (first_digit minus places n (omega arith) (omega arith) (omega arith)) (and-false (eqb (length (decimal n)) 1))
not_lone (negsuc n) f = rw (ne_eqb (suc (length (decimal (suc n)))) 1 (λ e. omega (arith, some_digit 19 (suc n))))

pub signed_read : (z : ℤ) → SFits w32 z → signed_number (signed z) ≡ Ok z
unfolding signed signed_number above below starts
signed_read (pos n) f =
    let l : n < 2147483648 = f.sfits in
    rw (first_digit minus places n (omega arith) (omega arith) (omega arith), decimal_read n (omega arith) 2147483647 (omega arith))
signed_read (negsuc n) f =
    let l : n < 2147483648 = f.sfits in
    rw (decimal_read (suc n) (omega arith) 2147483648 (omega arith))

-- a number of 16 bits is not too large for an ordinate
narrow_enough : (z : ℤ) → SFits w16 z → narrowed (Ok z) ≡ Ok (Some z)
unfolding narrowed
narrow_enough (pos n) f = let l : n < 32768 = f.sfits in rw (le-ltb 32767 n (omega arith))
narrow_enough (negsuc n) f = let l : n < 32768 = f.sfits in rw (le-ltb 32767 n (omega arith))

pub ordinate_read : (z : ℤ) → SFits w16 z → ordinate (signed z) ≡ Ok (Some z)
unfolding ordinate
ordinate_read z f =
    let l : mag z < 32768 = f.sfits in
    rw (not_lone z f, signed_read z (record { sfits = omega arith })) (narrow_enough z f)
