-- A knot that is a log's stands on a line whose first words are its first minute and, behind a '@', the name
-- that is told by that line's number. Assumes nothing.
use Prim.Native.Nat.{ℕ, zero, suc, ◌<◌}
use mathlib.Core.Path.{◌≡◌, refl, sym, ap, ◌∙◌}
use mathlib.Core.Logic.{◌≢◌}
use mathlib.Core.Bool.{Bool, true, false, cond, true≢false}
use mathlib.Core.List.{List, [], ◌∷◌}
use native.Mathlib.Omega.{arith}
use lib.IntN.{ℤ, pos}
use lib.ListN.{length, take, drop, get_or}
use lib.Seq.{get_or-set_same, get_or-set_other}
use borrow.Author.Count.{below_more}
use Rattle.decimal.specs.Decimal.{decimal}
use Rattle.split.specs.Parts.{lines, words}
use Rattle.holes.specs.Hole.{hole}
use Rattle.std.specs.Prelude.{Option, Some, None, Result, Ok, Err, IfOk}
use Rattle.numeral.specs.declared.Wrong.{Wrong}
use Rattle.text.specs.Sheet.{at_sign, line_by, line, bare_line, log_name, most, no_knots, with_knot, without_slope, unsloped, sloping, taken, with_line, read, sheet}
use Rattle.text.specs.declared.Line.{Line}
use Rattle.text.specs.declared.Line.TheVariants.{Empty, Knot, Hole, Log}
use Rattle.text.specs.declared.Sheet.{Sheet}
use Rattle.text.proofs.Room.{Roomy, roomy_none, roomy_line, of_line, of_lines, of_sheet, both}
use Rattle.text.proofs.Written.{log_is_two_words, sloped_log_is_three_words}

-- the line of that number
abbrev on_line : List ℕ → ℕ → Result Line Wrong
on_line s n = line_by (words (bare_line s n))

-- a log's from a minute on, with a slope or without
abbrev LogLine : ℕ → Result Line Wrong → Type 0
LogLine x l = (m : Option ℤ) × (l ≡ Ok (Log x m))

abbrev NamedAt : List ℕ → Sheet → ℕ → Type 0
NamedAt s a i = get_or a.logs i false ≡ true → LogLine (get_or a.minutes i 0) (on_line s (get_or a.lines i 0))

abbrev Named : List ℕ → Sheet → Type 0
Named s a = (i : ℕ) → i < a.knots → NamedAt s a i

named_none : (s : List ℕ) → Named s no_knots
unfolding no_knots
named_none s i h = absurd (omega arith)

module _ (s : List ℕ) {a : Sheet} (room : Roomy a) (h : a.knots < most) (named : Named s a) (n : ℕ) where
  named_with_knot : (x : ℕ) (y : ℤ) (log sloped : Bool) (m : ℤ) → (log ≡ true → LogLine x (on_line s n)) → Named s (with_knot a n x y log sloped m)
  unfolding with_knot
  named_with_knot x y log sloped m e = below_more (NamedAt s (with_knot a n x y log sloped m)) a.knots before here
    where
      before : (i : ℕ) → i < a.knots → NamedAt s (with_knot a n x y log sloped m) i
      before i l =
          let other : i ≢ a.knots = λ p. omega arith in
          rw (get_or-set_other a.logs a.knots i log false other, get_or-set_other a.lines a.knots i n 0 other, get_or-set_other a.minutes a.knots i x 0 other) (named i l)

      here : NamedAt s (with_knot a n x y log sloped m) a.knots
      here =
          rw (get_or-set_same a.logs a.knots log false (omega (arith, room.logs)), get_or-set_same a.lines a.knots n 0 (omega (arith, room.lines)), get_or-set_same a.minutes a.knots x 0 (omega (arith, room.minutes))) e

  named_without : (x : ℕ) (y : ℤ) (log : Bool) → (log ≡ true → LogLine x (on_line s n)) → IfOk (without_slope a n x y log) (Named s)
  unfolding without_slope
  named_without x y log e = go a.sloped
    where
      go : (b : Bool) → IfOk (cond b (Err Wrong.Slopeless) (Ok (with_knot a n x y log false (pos 0)))) (Named s)
      go true = tt
      go false = named_with_knot x y log false (pos 0) e

  named_sloping : (mends : Bool) (x : ℕ) (y : ℤ) (log : Bool) (m : ℤ) → (log ≡ true → LogLine x (on_line s n)) → IfOk (sloping mends a n x y log m) (Named s)
  unfolding sloping
  named_sloping true x y log m e = tt
  named_sloping false x y log m e = go (unsloped a)
    where
      go : (b : Bool) → IfOk (cond b (Err Wrong.OddSlope) (Ok (with_knot a n x y log true m))) (Named s)
      go true = tt
      go false = named_with_knot x y log true m e

  no_log : {x : ℕ} → false ≡ true → LogLine x (on_line s n)
  no_log f = absurd (true≢false (sym f))

  named_taken : (mends : Bool) (l : Line) → on_line s n ≡ Ok l → IfOk (taken mends a n l) (Named s)
  unfolding taken
  named_taken mends Empty e = named
  named_taken mends (Knot x y None) e = named_without x y false no_log
  named_taken mends (Knot x y (Some m)) e = named_sloping mends x y false m no_log
  named_taken mends (Log x None) e = named_without x (pos 0) true (λ t. (None, e))
  named_taken mends (Log x (Some m)) e = named_sloping mends x (pos 0) true m (λ t. (Some m, e))
  named_taken true (Hole x) e = named_without x hole false no_log
  named_taken false (Hole x) e = tt

-- ---- line by line

next_line : (ls : List (List ℕ)) (m : ℕ) {l : List ℕ} {rest : List (List ℕ)} → drop m ls ≡ l ∷ rest → (get_or ls m [] ≡ l) × (drop (suc m) ls ≡ rest)
next_line [] zero e = (cc, cc)
next_line [] (suc m) e = (cc, cc)
next_line (x ∷ ls) zero e = (cc, cc)
next_line (x ∷ ls) (suc m) e = next_line ls m e

module _ (mends : Bool) (s : List ℕ) where
  abbrev Kept : Sheet → Type 0
  Kept a = Roomy a × Named s a

  named_read : {a : Sheet} → Kept a → (m : ℕ) (ls : List (List ℕ)) → drop m (lines s) ≡ ls → IfOk (read mends a (suc m) ls) Kept
  named_read {a} k m [] e = unfold read in k
  named_read {a} k m (l ∷ ls) e =
      of_lines Kept mends a (suc m) l ls k
      (λ h. both Roomy (Named s) (with_line mends a (suc m) l) (roomy_line mends k.0 h (suc m) l) (of_line (Named s) mends a (suc m) (line l) (λ x f. named_taken s k.0 h k.1 (suc m) mends x (here ∙ f))))
      (λ b q. named_read {a = b} q (suc m) ls (next_line (lines s) m e).1)
    where
      here : on_line s (suc m) ≡ line l
      here = unfold line in unfold bare_line in rw (next_line (lines s) m e).0

  named_sheet : IfOk (sheet mends s) Kept
  named_sheet = of_sheet Kept mends s (named_read (roomy_none, named_none s) 0 (lines s) refl)

  module _ {a : Sheet} (is : sheet mends s ≡ Ok a) (i : ℕ) (inside : i < a.knots) (log : get_or a.logs i false ≡ true) where
    abbrev n : ℕ
    n = get_or a.lines i 0

    -- and the name has a byte
    pub log_is_named : (take 2 (words (bare_line s n)) ≡ decimal (get_or a.minutes i 0) ∷ (at_sign ∷ log_name s n) ∷ []) × (0 < length (log_name s n))
    log_is_named =
        let k : Kept a = rw is at named_sheet in
        let l = k.1 i inside log in
        go l.0 l.1
      where
        ws : List (List ℕ)
        ws = words (bare_line s n)

        two : {rest : List (List ℕ)} → (ws ≡ decimal (get_or a.minutes i 0) ∷ (at_sign ∷ log_name s n) ∷ rest) × (0 < length (log_name s n))
            → (take 2 ws ≡ decimal (get_or a.minutes i 0) ∷ (at_sign ∷ log_name s n) ∷ []) × (0 < length (log_name s n))
        two p = (ap (take 2) p.0, p.1)

        go : (m : Option ℤ) → line_by ws ≡ Ok (Log (get_or a.minutes i 0) m)
            → (take 2 ws ≡ decimal (get_or a.minutes i 0) ∷ (at_sign ∷ log_name s n) ∷ []) × (0 < length (log_name s n))
        go None e = two (log_is_two_words ws e)
        go (Some m) e = two (sloped_log_is_three_words ws e)
