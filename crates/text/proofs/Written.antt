-- A knot as the listing writes its first two numbers, minute and ordinate, is read as that knot; a line that is a knot has these two words and no other, one that is a hole its minute and a minus, and one
-- that is a log its minute and a '@' with a name; a third word is a slope. Assumes nothing.
use Prim.Native.Nat.{ℕ, suc, ◌+◌, ◌≤◌, ◌<◌}
use mathlib.Core.Path.{◌≡◌, refl, ap, ◌∙◌}
use mathlib.Core.Bool.{Bool, true, false, cond}
use mathlib.Core.List.{List, [], ◌∷◌, ◌++◌}
use native.Mathlib.Omega.{arith}
use lib.Dec.{lit<, eqb}
use lib.IntN.{ℤ, pos, negsuc}
use lib.ListN.{length, length-append}
use lib.Seq.{take_all}
use borrow.Author.Tests.{ne_eqb, eqb-true, eqb-false}
use mir.Syntax.{w16}
use mir.Val.{SFits}
use Rattle.decimal.specs.Decimal.{places, decimal, minus, signed}
use Rattle.split.specs.Parts.{marks, stop, split, some, words, bare}
use Rattle.split.specs.declared.Mark.{Mark}
use Rattle.split.specs.declared.Mark.TheVariants.{Note, Blank, NoDigit}
use Rattle.split.proofs.Unmarked.{stop_behind, cut, uncut}
use Rattle.split.proofs.Words.{kept}
use Rattle.numeral.specs.Number.{starts, natural, signed_number, ordinate}
use Rattle.numeral.proofs.OneSpelling.{one_spelling, one_signed, one_ordinate, one_hole}
use Rattle.numeral.proofs.Numbers.{starts_some}
use Rattle.numeral.proofs.Spelled.{NoDigits, digits_unmarked, no_no_digit, some_digit, decimal_read, ordinate_read}
use Rattle.curve.specs.Card.{latest}
use Rattle.std.specs.Prelude.{Option, Some, None, Result, Ok, Err}
use Rattle.numeral.specs.declared.Wrong.{Wrong}
use Rattle.text.specs.Sheet.{at_sign, with_ordinate, behind, knot_by, knot, with_slope, line_by, line, named, named_by}
use Rattle.text.specs.declared.Line.{Line}
use Rattle.text.specs.declared.Line.TheVariants.{Empty, Knot, Hole, Log}

no_note : NoDigits Note
unfolding marks
no_note d h = ne_eqb (48 + d) 35 (λ e. omega arith)

no_blank : NoDigits Blank
unfolding marks
no_blank d h = rw (ne_eqb (48 + d) 32 (λ e. omega arith), ne_eqb (48 + d) 9 (λ e. omega arith), ne_eqb (48 + d) 13 (λ e. omega arith))

signed_unmarked : (m : Mark) → NoDigits m → marks m minus ≡ false → (z : ℤ) → stop m (signed z) ≡ length (signed z)
unfolding stop signed
signed_unmarked m f e (pos n) = digits_unmarked m f places n
signed_unmarked m f e (negsuc n) = rw (e, digits_unmarked m f places (suc n))

abbrev written : ℕ → ℤ → List ℕ
written x y = decimal x ++ (32 ∷ signed y)

no_comment : (x : ℕ) (y : ℤ) → bare (written x y) ≡ written x y
unfolding marks stop
no_comment x y =
    take_all (stop Note (written x y)) (written x y)
    (omega (arith, stop_behind Note (decimal x) (32 ∷ signed y) (digits_unmarked Note no_note places x), signed_unmarked Note no_note refl y, length-append (decimal x) (32 ∷ signed y)))

some_byte : (z : ℤ) → 0 < length (signed z)
unfolding signed
some_byte (pos n) = some_digit _ n
some_byte (negsuc n) = omega arith

its_words : (x : ℕ) (y : ℤ) → words (written x y) ≡ decimal x ∷ signed y ∷ []
unfolding marks some words
its_words x y =
    ap some (cut Blank (decimal x) 32 (signed y) (digits_unmarked Blank no_blank places x) refl)
    ∙ kept (decimal x) (split Blank (signed y)) (some_digit _ x)
    ∙ ap (λ ps. decimal x ∷ some ps) (uncut Blank (signed y) (signed_unmarked Blank no_blank refl y))
    ∙ ap (λ ps. decimal x ∷ ps) (kept (signed y) [] (some_byte y))

-- a word without marks does not start with a byte that is marked
unmarked : (m : Mark) (w : List ℕ) (b : ℕ) → stop m w ≡ length w → marks m b ≡ true → starts b w ≡ false
unfolding stop starts
unmarked m [] b e t = refl
unmarked m (x ∷ w) b e t = go (eqb x b) refl
  where
    go : (same : Bool) → eqb x b ≡ same → same ≡ false
    go false s = refl
    go true s = let x-marked : marks m x ≡ true = ap (marks m) (eqb-true x b s) ∙ t in absurd (let h = rw x-marked at e in omega arith)

no_at_sign : (z : ℤ) → starts at_sign (signed z) ≡ false
unfolding marks signed starts
no_at_sign (pos n) = unmarked NoDigit (decimal n) at_sign (digits_unmarked NoDigit no_no_digit places n) refl
no_at_sign (negsuc n) = refl

-- a knot as the listing writes its first two numbers
pub line_read : (x : ℕ) (y : ℤ) → x ≤ latest → SFits w16 y → line (written x y) ≡ Ok (Knot x y None)
unfolding with_ordinate behind knot_by line_by line
line_read x y l f = rw (no_comment x y, its_words x y, decimal_read x (omega arith) latest l, no_at_sign y, ordinate_read y f)

-- ---- the other way

-- the words of a line by what it is
abbrev Two : Result Line Wrong → List (List ℕ) → Type 0
Two (Err wrong) ws = Unit {0}
Two (Ok Empty) ws = Unit {0}
Two (Ok (Knot n z None)) ws = ws ≡ decimal n ∷ signed z ∷ []
Two (Ok (Knot n z (Some m))) ws = ws ≡ decimal n ∷ signed z ∷ signed m ∷ []
Two (Ok (Log n (Some m))) ws = (ws ≡ decimal n ∷ (at_sign ∷ named_by ws) ∷ signed m ∷ []) × (0 < length (named_by ws))
Two (Ok (Hole n)) ws = ws ≡ decimal n ∷ (minus ∷ []) ∷ []
Two (Ok (Log n None)) ws = (ws ≡ decimal n ∷ (at_sign ∷ named_by ws) ∷ []) × (0 < length (named_by ws))

-- behind a minute
module _ (n : ℕ) (w : List ℕ) where
  two_with_ordinate : (y : Result (Option ℤ) Wrong) → ordinate w ≡ y → Two (with_ordinate n y) (decimal n ∷ w ∷ [])
  unfolding with_ordinate
  two_with_ordinate (Err wrong) e = tt
  two_with_ordinate (Ok None) e = rw (one_hole w e)
  two_with_ordinate (Ok (Some z)) e = rw (one_ordinate w e)

two_named : (n : ℕ) (w : List ℕ) → starts at_sign w ≡ true → Two (cond (eqb (length w) 1) (Err Wrong.Nameless) (Ok (Log n None))) (decimal n ∷ w ∷ [])
unfolding starts named named_by
two_named n [] e = absurd (omega (arith, starts_some at_sign [] e))
two_named n (b ∷ w) e = go (eqb (suc (length w)) 1) refl
  where
    go : (bare : Bool) → eqb (suc (length w)) 1 ≡ bare → Two (cond bare (Err Wrong.Nameless) (Ok (Log n None))) (decimal n ∷ (b ∷ w) ∷ [])
    go true s = tt
    go false s = rw (e, eqb-true b at_sign e) (refl, omega (arith, eqb-false (suc (length w)) 1 s))

two_behind : (n : ℕ) (w : List ℕ) → Two (behind n w) (decimal n ∷ w ∷ [])
unfolding behind
two_behind n w = go (starts at_sign w) refl
  where
    go : (named : Bool) → starts at_sign w ≡ named → Two (cond named (cond (eqb (length w) 1) (Err Wrong.Nameless) (Ok (Log n None))) (with_ordinate n (ordinate w))) (decimal n ∷ w ∷ [])
    go true e = two_named n w e
    go false e = two_with_ordinate n w (ordinate w) refl

two_of_knot : (x w : List ℕ) → Two (knot x w) (x ∷ w ∷ [])
unfolding knot_by
two_of_knot x w = go (natural latest x) refl
  where
    go : (a : Result ℕ Wrong) → natural latest x ≡ a → Two (knot_by a w) (x ∷ w ∷ [])
    go (Err wrong) d = tt
    go (Ok n) d = rw (one_spelling latest x (lit< tt) d) (two_behind n w)

-- behind two words
module _ (x w v : List ℕ) where
  third_word : (l : Result Line Wrong) → Two l (x ∷ w ∷ []) → (a : Result ℤ Wrong) → signed_number v ≡ a → Two (with_slope l a) (x ∷ w ∷ v ∷ [])
  unfolding with_slope named_by
  third_word (Err wrong) t a e = tt
  third_word (Ok Empty) t a e = tt
  third_word (Ok (Hole n)) t a e = tt
  third_word (Ok (Knot n z None)) t (Err wrong) e = tt
  third_word (Ok (Knot n z None)) t (Ok m) e = rw (← one_signed v e) (ap (λ ws. ws ++ (v ∷ [])) t)
  third_word (Ok (Log n None)) t (Err wrong) e = tt
  third_word (Ok (Log n None)) t (Ok m) e = (rw (← one_signed v e) (ap (λ ws. ws ++ (v ∷ [])) t.0), t.1)
  third_word (Ok (Knot n z (Some m))) t a e = absurd (let f : ◌≡◌ {A = ℕ} 2 3 = ap length t in omega arith)
  third_word (Ok (Log n (Some m))) t a e = absurd (let f : ◌≡◌ {A = ℕ} 2 3 = ap length t.0 in omega arith)

two_words : (ws : List (List ℕ)) → Two (line_by ws) ws
unfolding line_by
two_words [] = tt
two_words (x ∷ []) = tt
two_words (x ∷ w ∷ []) = two_of_knot x w
two_words (x ∷ w ∷ v ∷ []) = third_word x w v (knot x w) (two_of_knot x w) (signed_number v) refl
two_words (x ∷ w ∷ v ∷ u ∷ ws) = tt

module _ (ws : List (List ℕ)) {n : ℕ} where
  pub knot_is_two_words : {z : ℤ} → line_by ws ≡ Ok (Knot n z None) → ws ≡ decimal n ∷ signed z ∷ []
  knot_is_two_words e = rw e at (two_words ws)

  pub sloped_is_three_words : {z m : ℤ} → line_by ws ≡ Ok (Knot n z (Some m)) → ws ≡ decimal n ∷ signed z ∷ signed m ∷ []
  sloped_is_three_words e = rw e at (two_words ws)

  pub hole_is_two_words : line_by ws ≡ Ok (Hole n) → ws ≡ decimal n ∷ (minus ∷ []) ∷ []
  hole_is_two_words e = rw e at (two_words ws)

  -- the second is a '@' and the name, which has a byte
  pub log_is_two_words : line_by ws ≡ Ok (Log n None) → (ws ≡ decimal n ∷ (at_sign ∷ named_by ws) ∷ []) × (0 < length (named_by ws))
  log_is_two_words e = rw e at (two_words ws)

  pub sloped_log_is_three_words : {m : ℤ} → line_by ws ≡ Ok (Log n (Some m)) → (ws ≡ decimal n ∷ (at_sign ∷ named_by ws) ∷ signed m ∷ []) × (0 < length (named_by ws))
  sloped_log_is_three_words e = rw e at (two_words ws)
