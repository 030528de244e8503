-- A number has one spelling: a word that is read as a number, with a sign or without, or as an ordinate, is
-- that number in decimal; and a hole is a minus alone. Assumes nothing.
use Prim.Native.Nat.{ℕ, zero, suc, ◌+◌, ◌-◌, ◌*◌, ◌/◌, ◌%◌, ◌^◌, ◌≤◌, ◌<◌}
use mathlib.Core.Path.{◌≡◌, refl, sym, ap, ◌∙◌}
use mathlib.Core.Bool.{Bool, true, false, cond, ◌&&◌, ◌||◌, true≢false}
use mathlib.Core.List.{List, [], ◌∷◌}
use native.Mathlib.Nat.{pow-suc}
use native.Mathlib.Omega.{arith}
use native.Mathlib.Decide.{dec_lt}
use lib.Dec.{ltb, eqb, lit<}
use lib.IntN.{ℤ, pos, negsuc}
use lib.Signed.{lt_z}
use lib.ListN.{length, take, drop, get_or}
use lib.Seq.{take-suc, take_all, drop-length}
use borrow.Author.Tests.{lt-ltb, le-ltb, ltb-true, ltb-false, eqb-true, eqb-false}
use Rattle.decimal.specs.Decimal.{digits, places, decimal, value_from, value, minus, signed}
use Rattle.split.specs.Parts.{marks, stop}
use Rattle.split.specs.declared.Mark.TheVariants.{NoDigit}
use Rattle.split.proofs.Stops.{before_stop}
use Rattle.numeral.specs.Number.{starts, all_digits, padded, at_most, natural, above, below, signed_number, narrowed, lone_minus, ordinate}
use Rattle.numeral.specs.declared.Wrong.{Wrong}
use Rattle.std.specs.Prelude.{Result, Ok, Err, Some, None}
use Rattle.numeral.proofs.Values.{second, digits_from, grows}
use Rattle.decimal.proofs.Digits.{value_append}

-- ---- digits and no zero in front

pub record Spelt (w : List ℕ) : Type 0 where
  pub some : 0 < length w
  pub from_0 : (i : ℕ) → i < length w → 48 ≤ get_or w i 0
  pub to_9 : (i : ℕ) → i < length w → get_or w i 0 ≤ 57
  pub no_zero : 1 < length w → 48 < get_or w 0 0

neither : (a b : Bool) → (a || b) ≡ false → b ≡ false
neither true b e = absurd (true≢false e)
neither false b e = e

first_and : (a b : Bool) → (a && b) ≡ true → a ≡ true
first_and true b e = refl
first_and false b e = absurd (true≢false (sym e))

up_to_9 : (b : ℕ) → marks NoDigit b ≡ false → b ≤ 57
unfolding marks
up_to_9 b e = ltb-false 57 b (neither (ltb b 48) (ltb 57 b) e)

-- ---- digit by digit

-- the first digits are worth no more than all
front_less : (a : ℕ) (ds : List ℕ) (j : ℕ) → value_from a (take j ds) ≤ value_from a ds
unfolding value_from
front_less a [] zero = omega arith
front_less a [] (suc j) = omega arith
front_less a (d ∷ ds) zero = grows a (d ∷ ds)
front_less a (d ∷ ds) (suc j) = front_less (10 * a + (d - 48)) ds j

module _ {w : List ℕ} (s : Spelt w) where
  -- what the first digits are worth
  abbrev worth : ℕ → ℕ
  worth j = value (take j w)

  one_more : (j : ℕ) → j < length w → worth (suc j) ≡ 10 * worth j + (get_or w j 0 - 48)
  one_more j h = ap value (take-suc w j 0 h) ∙ value_append 0 (get_or w j 0) (take j w)

  at_least : (j : ℕ) → 1 < length w → j < length w → 10 ^ j ≤ worth (suc j)
  at_least zero l h = omega (arith, one_more 0 h, s.no_zero l)
  at_least (suc j) l h = rw pow-suc (omega (arith, one_more (suc j) h, at_least j l (omega arith)))

  positive : (j : ℕ) → 1 < length w → j < length w → 0 < worth (suc j)
  positive zero l h = omega (arith, one_more 0 h, s.no_zero l)
  positive (suc j) l h = omega (arith, one_more (suc j) h, positive j l (omega arith))

  nothing : worth 0 ≡ 0
  unfolding value_from
  nothing = refl

  spelled_back : (k j : ℕ) → j < length w → j < k → digits k (worth (suc j)) ≡ take (suc j) w
  unfolding digits
  spelled_back zero j h l = absurd (omega arith)
  spelled_back (suc k) zero h l =
      let d = get_or w 0 0 in
      let n : worth 1 ≡ d - 48 = omega (arith, one_more 0 h, nothing) in
      let f = s.from_0 0 h in
      let t = s.to_9 0 h in
      let e : 48 + (d - 48) % 10 ≡ d = omega arith in
      rw (n, lt-ltb (d - 48) 10 (omega arith), e) (sym (take-suc w 0 0 h))
  spelled_back (suc k) (suc j) h l =
      let d = get_or w (suc j) 0 in
      let v = worth (suc j) in
      let f = s.from_0 (suc j) h in
      let t = s.to_9 (suc j) h in
      let p = positive j (omega arith) (omega arith) in
      let q : (10 * v + (d - 48)) / 10 ≡ v = omega arith in
      let r : 48 + (10 * v + (d - 48)) % 10 ≡ d = omega arith in
      rw (one_more (suc j) h, le-ltb (10 * v + (d - 48)) 10 (omega arith), q, r, spelled_back k j (omega arith) (omega arith)) (sym (take-suc w (suc j) 0 h))

  -- a number below 10^20 has no more than 20 digits
  not_longer : value w < 10 ^ places → length w ≤ places
  not_longer h = elim (dec_lt places (length w)) [ yes l ↦ absurd (omega (arith, at_least places (omega arith) l, front_less 0 w (suc places))) | no l ↦ omega arith ]

  pub is_decimal : value w < 10 ^ places → w ≡ decimal (value w)
  is_decimal h =
      let j = length w - 1 in
      let e : suc j ≡ length w = omega (arith, s.some) in
      let a : take (suc j) w ≡ w = take_all (suc j) w (omega arith) in
      sym (rw a at (spelled_back places j (omega (arith, s.some)) (omega (arith, s.some, not_longer h))))

-- ---- what is read as a number

starts_no_zero : (w : List ℕ) → starts 48 w ≡ false → 0 < length w → 48 ≤ get_or w 0 0 → 48 < get_or w 0 0
unfolding starts
starts_no_zero [] e l f = absurd (omega arith)
starts_no_zero (b ∷ w) e l f = omega (arith, eqb-false b 48 e)

spelt : (w : List ℕ) → all_digits w ≡ true → padded w ≡ false → Spelt w
spelt w d p =
    let n : stop NoDigit w ≡ length w = eqb-true _ _ (second (ltb 0 (length w)) _ d) in
    let l : 0 < length w = ltb-true 0 (length w) (first_and (ltb 0 (length w)) _ d) in
    record {
      some = l;
      from_0 = digits_from w d;
      to_9 = λ i h. up_to_9 (get_or w i 0) (before_stop NoDigit w i (omega arith));
      no_zero = λ h. starts_no_zero w (rw (lt-ltb 1 (length w) h) at p) l (digits_from w d 0 l);
    }

pub one_spelling : (most : ℕ) (w : List ℕ) {n : ℕ} → most < 10 ^ places → natural most w ≡ Ok n → w ≡ decimal n
unfolding natural at_most
one_spelling most w {n} few e = go (all_digits w) refl (padded w) refl (ltb most (value w)) refl e
  where
    go : (a : Bool) → all_digits w ≡ a → (p : Bool) → padded w ≡ p → (l : Bool) → ltb most (value w) ≡ l
        → cond a (cond p (Err Wrong.LeadingZero) (cond l (Err Wrong.TooLarge) (Ok (value w)))) (Err Wrong.NotWhole) ≡ Ok n → w ≡ decimal n
    go false d p z l t e = let z : ◌≡◌ {A = ℕ} 0 1 = cc in absurd (omega arith)
    go true d true z l t e = let z : ◌≡◌ {A = ℕ} 0 1 = cc in absurd (omega arith)
    go true d false z true t e = let z : ◌≡◌ {A = ℕ} 0 1 = cc in absurd (omega arith)
    go true d false z false t e =
        let v : value w ≡ n = cc in
        rw v at (is_decimal (spelt w d z) (omega (arith, ltb-false most (value w) t)))

-- ---- with a sign, and as an ordinate

-- the word behind a minus
behind_minus : (w : List ℕ) → starts minus w ≡ true → w ≡ minus ∷ drop 1 w
unfolding starts
behind_minus [] e = absurd (true≢false (sym e))
behind_minus (b ∷ w) e = ap (λ b. b ∷ w) (eqb-true b minus e)

spelled_above : (w : List ℕ) (a : Result ℕ Wrong) → natural 2147483647 w ≡ a → {z : ℤ} → above a ≡ Ok z → w ≡ signed z
unfolding above signed
spelled_above w (Err wrong) e g = let z : ◌≡◌ {A = ℕ} 0 1 = cc in absurd (omega arith)
spelled_above w (Ok n) e {z} g = let i : pos n ≡ z = cc in rw (← i) (one_spelling 2147483647 w (lit< tt) e)

spelled_below : (w : List ℕ) (a : Result ℕ Wrong) → natural 2147483648 w ≡ a → {z : ℤ} → below a ≡ Ok z → (minus ∷ w) ≡ signed z
unfolding below signed
spelled_below w (Err wrong) e g = let z : ◌≡◌ {A = ℕ} 0 1 = cc in absurd (omega arith)
spelled_below w (Ok zero) e g = let z : ◌≡◌ {A = ℕ} 0 1 = cc in absurd (omega arith)
spelled_below w (Ok (suc n)) e {z} g = let i : negsuc n ≡ z = cc in rw (← i) (ap (λ ds. minus ∷ ds) (one_spelling 2147483648 w (lit< tt) e))

pub one_signed : (w : List ℕ) {z : ℤ} → signed_number w ≡ Ok z → w ≡ signed z
unfolding signed_number
one_signed w {z} e = go (starts minus w) refl e
  where
    go : (b : Bool) → starts minus w ≡ b → cond b (below (natural 2147483648 (drop 1 w))) (above (natural 2147483647 w)) ≡ Ok z → w ≡ signed z
    go true t e = behind_minus w t ∙ spelled_below (drop 1 w) (natural 2147483648 (drop 1 w)) refl e
    go false t e = spelled_above w (natural 2147483647 w) refl e

-- an ordinate is the number that it was narrowed from, and no number is a hole
narrowed_told : (a : Result ℤ Wrong) {z : ℤ} → narrowed a ≡ Ok (Some z) → a ≡ Ok z
unfolding narrowed
narrowed_told (Err wrong) e = let z : ◌≡◌ {A = ℕ} 0 1 = cc in absurd (omega arith)
narrowed_told (Ok y) {z} e = go (lt_z y (negsuc 32767) || lt_z (pos 32767) y) e
  where
    go : (b : Bool) → cond b (Err Wrong.TooLarge) (Ok (Some y)) ≡ Ok (Some z) → ◌≡◌ {A = Result ℤ Wrong} (Ok y) (Ok z)
    go true e = let z : ◌≡◌ {A = ℕ} 0 1 = cc in absurd (omega arith)
    go false e = cc

narrowed_no_hole : (a : Result ℤ Wrong) → (narrowed a ≡ Ok None) → ⊥
unfolding narrowed
narrowed_no_hole (Err wrong) e = let z : ◌≡◌ {A = ℕ} 0 1 = cc in absurd (omega arith)
narrowed_no_hole (Ok y) e = go (lt_z y (negsuc 32767) || lt_z (pos 32767) y) e
  where
    go : (b : Bool) → (cond b (Err Wrong.TooLarge) (Ok (Some y)) ≡ Ok None) → ⊥
    go true e = let z : ◌≡◌ {A = ℕ} 0 1 = cc in absurd (omega arith)
    go false e = let z : ◌≡◌ {A = ℕ} 0 1 = cc in absurd (omega arith)

module _ (w : List ℕ) where
  pub one_ordinate : {z : ℤ} → ordinate w ≡ Ok (Some z) → w ≡ signed z
  unfolding ordinate
  one_ordinate {z} e = go (lone_minus w) e
    where
      go : (lone : Bool) → cond lone (Ok None) (narrowed (signed_number w)) ≡ Ok (Some z) → w ≡ signed z
      go true e = let z : ◌≡◌ {A = ℕ} 0 1 = cc in absurd (omega arith)
      go false e = one_signed w (narrowed_told (signed_number w) e)

  is_lone : lone_minus w ≡ true → w ≡ minus ∷ []
  is_lone e =
      let l : length w ≡ 1 = eqb-true (length w) 1 (first_and (eqb (length w) 1) _ e) in
      behind_minus w (second (eqb (length w) 1) _ e) ∙ ap (λ v. minus ∷ v) (rw l at (drop-length w))

  pub one_hole : ordinate w ≡ Ok None → w ≡ minus ∷ []
  unfolding ordinate
  one_hole e = go (lone_minus w) refl e
    where
      go : (lone : Bool) → lone_minus w ≡ lone → cond lone (Ok None) (narrowed (signed_number w)) ≡ Ok None → w ≡ minus ∷ []
      go true l e = is_lone l
      go false l e = absurd (narrowed_no_hole (signed_number w) e)
