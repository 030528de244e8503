-- Sheets with logs: P8's log among knots, what stands in other slots, a list that ends too soon; each refusal of a log with the knot as place, the first of two, and 1 before it; and the line over a hole,
-- which is laid to the log's middle. Computed from the definitions; assumes nothing.
use Prim.Native.Nat.{ℕ, ◌-◌}
use Prim.Native.String.{String}
use mathlib.Core.Path.{◌≡◌, refl}
use mathlib.Core.Bool.{true, false}
use mathlib.Core.List.{List, [], ◌∷◌, ◌++◌}
use lib.IntN.{pos}
use lib.ListN.{length, take, replicate}
use Rattle.whole.specs.Whole.{nearest}
use Rattle.answer.specs.Answer.{refused, ◌then◌, refuse, each}
use Rattle.curve.specs.Kind.{quintic}
use Rattle.curve.specs.Steps.{counted}
use Rattle.curve.specs.Log.{count, sum, faults, mean_of, long, readable, some_good, half_good, reachable, mean}
use Rattle.log_mean.specs.Answers.{answered}
use Rattle.listing.specs.Text.{no_log}
use Rattle.gather.specs.declared.Gathered.{Gathered}
use Rattle.gather.specs.Gathered.{plain, logged, logs, filled, gathering, settled}
use Rattle.decimal.specs.Decimal.{spelled, value_from}
use Rattle.split.specs.Parts.{marks, stop, split, some, words}
use Rattle.numeral.specs.Number.{starts, at_most, natural, above, below, signed_number, narrowed, ordinate}
use Rattle.holes.specs.Hole.{is_hole, line as over, hole_at, before, after, left_of, right_of, line_at, put_at, filled_at, filled as filled-holes, mended}
use Rattle.text.specs.Sheet.{with_ordinate, behind, knot_by, with_slope, line_by, line, no_knots, with_knot, without_slope, sloping, taken, blaming, line_taken, then, read, sheet}
use Rattle.std.specs.Prelude.{Some, Result, Ok, Err}
use Rattle.text.specs.declared.Blame.{Blame}
use Rattle.text.specs.declared.Sheet.{Sheet}
use Rattle.reply.specs.Knots.{log_at, knot_at, knots_from, gathered}

abbrev written : List String → List ℕ
written [] = []
written (s ∷ ss) = spelled s ++ (10 ∷ written ss)

-- a log in its slot; the other bytes of the slot count for nothing
abbrev in_slot : List ℕ → List ℕ
in_slot log = (length log ∷ log) ++ replicate (61 - length log) 7

abbrev no_slot : List ℕ
no_slot = replicate 62 9

-- the sheet, where nothing is wrong
abbrev of : Result Sheet Blame → Sheet
of (Ok a) = a
of (Err b) = no_knots

-- three knots, the second by its log
abbrev with_log : (second : String) → (log : List ℕ) → Gathered
with_log second log = gathered (of (sheet false (written ("0 500" ∷ second ∷ "120 0" ∷ [])))) (no_slot ++ in_slot log ++ no_slot)

abbrev p8 : List ℕ
p8 = 100 ∷ 255 ∷ 102 ∷ []

pub logs_of_a_sheet :
    ((with_log "60 @a" p8).number ≡ 0) × ((with_log "60 @a" p8).knots ≡ 3) × (take 4 (with_log "60 @a" p8).minutes ≡ 0 ∷ 61 ∷ 120 ∷ 0 ∷ [])
    × (take 4 (with_log "60 @a" p8).ordinates ≡ pos 500 ∷ pos 5050 ∷ pos 0 ∷ pos 0 ∷ []) × (take 4 (with_log "60 @a" p8).faults ≡ no_log ∷ Some 1 ∷ no_log ∷ no_log ∷ [])
    × (take 4 (with_log "60 51" p8).ordinates ≡ pos 500 ∷ pos 51 ∷ pos 0 ∷ pos 0 ∷ []) × (take 4 (with_log "60 51" p8).faults ≡ replicate 4 no_log)
unfolding nearest refuse ◌then◌ each quintic counted count sum faults mean_of long readable some_good half_good reachable mean answered
    plain logged logs filled gathering settled spelled value_from marks stop split some words starts at_most natural above below signed_number narrowed ordinate with_ordinate behind knot_by with_slope line_by line no_knots with_knot without_slope sloping taken blaming line_taken then read sheet log_at knot_at knots_from
logs_of_a_sheet = (refl, refl, refl, refl, refl, refl, refl)

-- a knot 1 that is refused; 12's own place is the byte
abbrev refuses : Gathered → ℕ → Type 0
refuses g number = g ≡ settled (refused number 1)

pub refused_logs :
    (refuses (with_log "60 @a" []) 16) × (refuses (with_log "60 @a" (replicate 61 100)) 16) × (refuses (with_log "60 @a" (100 ∷ 100 ∷ 201 ∷ [])) 12) × (refuses (with_log "60 @a" (255 ∷ [])) 13)
    × (refuses (with_log "60 @a" (100 ∷ 255 ∷ 255 ∷ [])) 23) × ((with_log "60 @a" (100 ∷ 255 ∷ [])).number ≡ 0) × (refuses (with_log "65535 @a" (100 ∷ 102 ∷ [])) 19)
unfolding nearest refuse ◌then◌ each quintic counted count sum faults mean_of long readable some_good half_good reachable mean answered
    plain logged logs filled gathering settled spelled value_from marks stop split some words starts at_most natural above below signed_number narrowed ordinate with_ordinate behind knot_by with_slope line_by line no_knots with_knot without_slope sloping taken blaming line_taken then read sheet log_at knot_at knots_from
refused_logs = (refl, refl, refl, refl, refl, refl, refl)

-- knots by these lines, with these logs
abbrev gathering_of : List String → List (List ℕ) → Gathered
gathering_of ss ls = gathered (of (sheet false (written ss))) (slots ls)
  where
    slots : List (List ℕ) → List ℕ
    slots [] = []
    slots (l ∷ ls) = in_slot l ++ slots ls

-- the first of two, though the second would be 12; 1 before a log's; a list that ends before a log, or within it
pub in_order :
    (gathering_of ("0 0" ∷ "60 @a" ∷ "120 @b" ∷ []) ([] ∷ (255 ∷ []) ∷ (201 ∷ []) ∷ []) ≡ settled (refused 13 1)) × (gathering_of ("0 @a" ∷ "60 0" ∷ []) ((201 ∷ []) ∷ []) ≡ settled (refused 1 0))
    × (gathering_of ("0 0" ∷ "60 0" ∷ "90 @a" ∷ []) (p8 ∷ []) ≡ settled (refused 16 2)) × (take 1 (gathered (of (sheet false (written ("0 @a" ∷ "60 0" ∷ "90 0" ∷ [])))) (3 ∷ 100 ∷ 102 ∷ [])).minutes ≡ 1 ∷ [])
unfolding nearest refuse ◌then◌ each quintic counted count sum faults mean_of long readable some_good half_good reachable mean answered
    plain logged logs filled gathering settled spelled value_from marks stop split some words starts at_most natural above below signed_number narrowed ordinate with_ordinate behind knot_by with_slope line_by line no_knots with_knot without_slope sloping taken blaming line_taken then read sheet log_at knot_at knots_from
in_order = (refl, refl, refl, refl)

-- a log of 4 bytes from minute 0 stands at 2, so that minute 50 lies half way to 98
abbrev with_hole : Gathered
with_hole = gathered (of (sheet true (written ("0 @a" ∷ "50 -" ∷ "98 200" ∷ [])))) (in_slot (replicate 4 100))

pub over_a_hole : mended (take 3 with_hole.minutes) (take 3 with_hole.ordinates) ≡ pos 5000 ∷ pos 2600 ∷ pos 200 ∷ []
unfolding nearest refuse ◌then◌ each quintic counted count sum faults mean_of long readable some_good half_good reachable mean answered is_hole over hole_at before after left_of right_of line_at put_at filled_at filled-holes
    plain logged logs filled gathering settled spelled value_from marks stop split some words starts at_most natural above below signed_number narrowed ordinate with_ordinate behind knot_by with_slope line_by line no_knots with_knot without_slope sloping taken blaming line_taken then read sheet log_at knot_at knots_from
over_a_hole = refl
