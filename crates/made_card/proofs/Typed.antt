-- The minutes of a sheet of text are numbers of two bytes, in every place of its array, and those of its knots with its logs too.
-- Assumes nothing.
use Prim.Native.Nat.{ℕ, zero, suc, ◌^◌, ◌<◌}
use mathlib.Core.Path.{◌≡◌, refl}
use mathlib.Core.Bool.{Bool, true, false, cond}
use mathlib.Core.List.{List, [], ◌∷◌, map}
use native.Mathlib.Omega.{arith}
use lib.Dec.{ltb, eqb}
use lib.IntN.{ℤ, pos}
use lib.ListN.{length, take, get_or, set, replicate}
use lib.Seq.{sets}
use Rattle.answer.specs.Answer.{Answer, refused as refuses, given, Verdict, ◌then◌}
use Rattle.curve.specs.Card.{latest}
use Rattle.log_mean.proofs.Fits.{fits}
use Rattle.gather.specs.declared.Gathered.{Gathered}
use Rattle.gather.specs.Gathered.{plain, logged, logs, filled, gathering, settled}
use Rattle.split.specs.Parts.{lines, bare, words}
use Rattle.numeral.specs.Number.{starts, natural, signed_number, ordinate}
use Rattle.numeral.proofs.Numbers.{natural_upto}
use Rattle.holes.specs.Hole.{hole}
use Rattle.std.specs.Prelude.{Option, Some, None, Result, Ok, Err, IfOk}
use Rattle.numeral.specs.declared.Wrong.{Wrong}
use Rattle.text.specs.declared.Blame.{Blame}
use Rattle.text.specs.Sheet.{at_sign, with_ordinate, behind, knot_by, knot, with_slope, line_by, line, most, no_knots, with_knot, without_slope, unsloped, sloping, taken, read, sheet}
use Rattle.text.proofs.Room.{Roomy, roomy_none, roomy, of_line, of_lines, of_sheet}
use Rattle.made_card.specs.Made.{read_sheet, the_sheet}
use Rattle.text.specs.declared.Line.{Line}
use Rattle.text.specs.declared.Line.TheVariants.{Empty, Knot, Hole, Log}
use Rattle.text.specs.declared.Sheet.{Sheet}
use Rattle.reply.specs.Knots.{log_at, knot_at, knots_from, gathered}
use Rattle.kaihveto.specs.Types.{Minutes}

-- ---- lists of minutes

minutes_zeros : (n : ℕ) → Minutes (replicate n 0)
unfolding Minutes
minutes_zeros zero i = omega arith
minutes_zeros (suc n) zero = omega arith
minutes_zeros (suc n) (suc i) = minutes_zeros n i

minutes_set : (l : List ℕ) (k x : ℕ) → x < 2 ^ 16 → Minutes l → Minutes (set l k x)
unfolding Minutes
minutes_set [] k x h m i = m i
minutes_set (a ∷ l) zero x h m zero = h
minutes_set (a ∷ l) zero x h m (suc i) = m (suc i)
minutes_set (a ∷ l) (suc k) x h m zero = m zero
minutes_set (a ∷ l) (suc k) x h m (suc i) = minutes_set l k x h (λ j. m (suc j)) i

pub minutes_front : (n : ℕ) (l : List ℕ) → Minutes l → Minutes (take n l)
unfolding Minutes
minutes_front zero l m i = omega arith
minutes_front (suc n) [] m i = omega arith
minutes_front (suc n) (a ∷ l) m zero = m zero
minutes_front (suc n) (a ∷ l) m (suc i) = minutes_front n l (λ j. m (suc j)) i

-- ---- a line's minute

abbrev Small : Result Line Wrong → Type 0
Small (Err wrong) = Unit {0}
Small (Ok Empty) = Unit {0}
Small (Ok (Knot x y m)) = x < 2 ^ 16
Small (Ok (Hole x)) = x < 2 ^ 16
Small (Ok (Log x m)) = x < 2 ^ 16

small_with_ordinate : (n : ℕ) → n < 2 ^ 16 → (y : Result (Option ℤ) Wrong) → Small (with_ordinate n y)
unfolding with_ordinate
small_with_ordinate n h (Err wrong) = tt
small_with_ordinate n h (Ok None) = h
small_with_ordinate n h (Ok (Some y)) = h

small_behind : (n : ℕ) → n < 2 ^ 16 → (w : List ℕ) → Small (behind n w)
unfolding behind
small_behind n h w = go (starts at_sign w) (eqb (length w) 1)
  where
    go : (named bare : Bool) → Small (cond named (cond bare (Err Wrong.Nameless) (Ok (Log n None))) (with_ordinate n (ordinate w)))
    go true true = tt
    go true false = h
    go false bare = small_with_ordinate n h (ordinate w)

small_knot : (x w : List ℕ) → Small (knot x w)
unfolding knot_by
small_knot x w = go (natural latest x) refl
  where
    go : (n : Result ℕ Wrong) → natural latest x ≡ n → Small (knot_by n w)
    go (Err wrong) e = tt
    go (Ok n) e = small_behind n (omega (arith, natural_upto latest x e)) w

small_with_slope : (l : Result Line Wrong) → Small l → (m : Result ℤ Wrong) → Small (with_slope l m)
unfolding with_slope
small_with_slope (Err wrong) h m = tt
small_with_slope (Ok Empty) h m = tt
small_with_slope (Ok (Knot x y None)) h (Ok m) = h
small_with_slope (Ok (Knot x y None)) h (Err wrong) = tt
small_with_slope (Ok (Knot x y (Some z))) h m = h
small_with_slope (Ok (Log x None)) h (Ok m) = h
small_with_slope (Ok (Log x None)) h (Err wrong) = tt
small_with_slope (Ok (Log x (Some z))) h m = h
small_with_slope (Ok (Hole x)) h m = tt

small_line : (l : List ℕ) → Small (line l)
unfolding line line_by
small_line l = go (words (bare l))
  where
    go : (ws : List (List ℕ)) → Small (line_by ws)
    go [] = tt
    go (x ∷ []) = tt
    go (x ∷ w ∷ []) = small_knot x w
    go (x ∷ w ∷ v ∷ []) = small_with_slope (knot x w) (small_knot x w) (signed_number v)
    go (x ∷ w ∷ v ∷ u ∷ ws) = tt

-- ---- a sheet's minutes

abbrev Timed : Sheet → Type 0
Timed a = Minutes a.minutes

minutes_none : Timed no_knots
unfolding no_knots
minutes_none = minutes_zeros most

minutes_cond : (b : Bool) (r r' : Result Sheet Wrong) → IfOk r Timed → IfOk r' Timed → IfOk (cond b r r') Timed
minutes_cond true r r' h k = h
minutes_cond false r r' h k = k

module _ (a : Sheet) (m : Timed a) (n x : ℕ) (h : x < 2 ^ 16) (y : ℤ) (log : Bool) where
  minutes_with_knot : (sloped : Bool) (slope : ℤ) → Timed (with_knot a n x y log sloped slope)
  unfolding with_knot
  minutes_with_knot sloped slope = minutes_set a.minutes a.knots x h m

  minutes_without_slope : IfOk (without_slope a n x y log) Timed
  unfolding without_slope
  minutes_without_slope = minutes_cond a.sloped _ (Ok (with_knot a n x y log false (pos 0))) tt (minutes_with_knot false (pos 0))

  minutes_sloping : (mends : Bool) (slope : ℤ) → IfOk (sloping mends a n x y log slope) Timed
  unfolding sloping
  minutes_sloping mends slope =
      minutes_cond mends _ _ tt (minutes_cond (unsloped a) (Err Wrong.OddSlope) (Ok (with_knot a n x y log true slope)) tt (minutes_with_knot true slope))

module _ (mends : Bool) where
  minutes_taken : (a : Sheet) → Timed a → (n : ℕ) (l : Line) → Small (Ok l) → IfOk (taken mends a n l) Timed
  unfolding taken
  minutes_taken a m n Empty h = m
  minutes_taken a m n (Knot x y None) h = minutes_without_slope a m n x h y false
  minutes_taken a m n (Knot x y (Some z)) h = minutes_sloping a m n x h y false mends z
  minutes_taken a m n (Log x None) h = minutes_without_slope a m n x h (pos 0) true
  minutes_taken a m n (Log x (Some z)) h = minutes_sloping a m n x h (pos 0) true mends z
  minutes_taken a m n (Hole x) h = minutes_cond mends _ _ (minutes_without_slope a m n x h hole false) tt

  minutes_read : (a : Sheet) → Timed a → (n : ℕ) (ls : List (List ℕ)) → IfOk (read mends a n ls) Timed
  minutes_read a m n [] = unfold read in m
  minutes_read a m n (l ∷ ls) =
      of_lines Timed mends a n l ls m (λ few. of_line Timed mends a n (line l) (λ x e. minutes_taken a m n x (rw e at (small_line l)))) (λ b k. minutes_read b k (suc n) ls)

  -- what holds of a sheet, where nothing is wrong, and of one without knots
  of_the_sheet : (P : Sheet → Type 0) → P no_knots → (r : Result Sheet Blame) → IfOk r P → P (read_sheet r)
  of_the_sheet P z (Err b) h = z
  of_the_sheet P z (Ok a) h = h

  pub minutes_typed : (s : List ℕ) → Minutes (the_sheet mends s).minutes
  minutes_typed s = of_the_sheet Timed minutes_none (sheet mends s) (of_sheet Timed mends s (minutes_read no_knots minutes_none 1 (lines s)))

  pub roomy_sheet : (s : List ℕ) → Roomy (the_sheet mends s)
  roomy_sheet s = of_the_sheet Roomy roomy_none (sheet mends s) (roomy mends s)

-- ---- with its logs

module _ (a : Sheet) (m : Minutes a.minutes) (ls : List ℕ) where
  small_at : (i : ℕ) → (knot_at a ls i).minute < 2 ^ 16
  unfolding Minutes knot_at plain logged
  small_at i = go (get_or a.logs i false)
    where
      go : (log : Bool) → (cond log (logged (get_or a.minutes i 0) (log_at ls i)) (plain (get_or a.minutes i 0) (get_or a.ordinates i (pos 0)))).minute < 2 ^ 16
      go true = omega (arith, (fits (get_or a.minutes i 0) (log_at ls i)).minute)
      go false = m i

  minutes_sets : (l : List ℕ) (j : ℕ) → Minutes l → (i n : ℕ) → Minutes (sets l j (map (λ k. k.minute) (knots_from a ls i n)))
  unfolding knots_from
  minutes_sets l j h i zero = h
  minutes_sets l j h i (suc n) = minutes_sets (set l j (knot_at a ls i).minute) (suc j) (minutes_set l j (knot_at a ls i).minute (small_at i) h) (suc i) n

  minutes_then : (v : Verdict) (b : Answer Gathered) → Minutes (settled b).minutes → Minutes (settled (v then b)).minutes
  unfolding settled ◌then◌
  minutes_then (refuses number place) b h = minutes_zeros most
  minutes_then (given u) b h = h

  pub minutes_gathered : Minutes (gathered a ls).minutes
  unfolding settled gathering filled
  minutes_gathered = minutes_then _ _ (minutes_then (logs 0 (knots_from a ls 0 a.knots)) (given (filled (knots_from a ls 0 a.knots))) (minutes_sets (replicate most 0) 0 (minutes_zeros most) 0 a.knots))
