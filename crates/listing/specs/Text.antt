-- What both programs print, as bytes: document 01, "Two programs", and document 02, order 4. "Both print a line per knot, then `ok n`; or one line `refused NUMBER at PLACE`."
-- Assumes nothing.
use Rattle.std.specs.Prelude.{ℕ, zero, suc, ◌*◌, ◌^◌, ◌≤◌, ◌<◌, ◌≡◌, cond, List, [], ◌∷◌, ◌++◌, eqb, ℤ, pos, length, get_or, Option, Some, None}
use Rattle.decimal.specs.Decimal.{field, worded}
use Rattle.decimal.specs.Put.{Put}

abbrev pub space : ℕ
space = 32

-- each line ends with it
abbrev pub line_feed : ℕ
line_feed = 10

-- "x y m M", and the byte behind them
unfoldable pub four_fields : ℕ → ℤ → ℤ → ℤ → ℕ → List ℕ
four_fields x y m M last = field (pos x) space ++ field y space ++ field m space ++ field M last

unfoldable pub knot_line : ℕ → ℤ → ℤ → ℤ → List ℕ
knot_line x y m M = four_fields x y m M line_feed

-- with a count behind them
unfoldable pub counted_line : ℕ → ℤ → ℤ → ℤ → ℕ → List ℕ
counted_line x y m M count = four_fields x y m M space ++ field (pos count) line_feed

-- in the place of a knot's faults, where it is no log's
abbrev pub no_log : Option ℕ
no_log = None

-- of a log "its line has the faults printed behind the curvature", and no other knot's
unfoldable pub listed_line : ℕ → ℤ → ℤ → ℤ → Option ℕ → List ℕ
listed_line x y m M None = knot_line x y m M
listed_line x y m M (Some faults) = counted_line x y m M faults

unfoldable pub ok_line : ℕ → List ℕ
ok_line n = worded "ok " n ++ (line_feed ∷ [])

unfoldable pub refused_line : ℕ → ℕ → List ℕ
refused_line number place = worded "refused " number ++ worded " at " place ++ (line_feed ∷ [])

-- the first n lines
unfoldable pub lines : (ℕ → List ℕ) → ℕ → List ℕ
lines line zero = []
lines line (suc n) = lines line n ++ line n

-- a knot behind the end of the list of faults is no log's
unfoldable pub line_of : List ℕ → List ℤ → List ℤ → List ℤ → List (Option ℕ) → ℕ → List ℕ
line_of xs ys ms Ms fs i = listed_line (get_or xs i 0) (get_or ys i (pos 0)) (get_or ms i (pos 0)) (get_or Ms i (pos 0)) (get_or fs i no_log)

-- number and place of a refusal, 0 and 0 where there is none; then the lists of minutes, ordinates, slopes, curvatures and faults
unfoldable pub listing : ℕ → ℕ → List ℕ → List ℤ → List ℤ → List ℤ → List (Option ℕ) → List ℕ
listing number place xs ys ms Ms fs =
    cond (eqb number 0) (lines (line_of xs ys ms Ms fs) (length xs) ++ ok_line (length xs)) (refused_line number place)

-- a count of faults has 8 bits
abbrev pub Counted : Option ℕ → Type 0
Counted None = Unit {0}
Counted (Some faults) = faults < 2 ^ 8

-- of each of n knots it was answered which faults it has, as a list of them says
abbrev pub Answered : (ℕ → Option ℕ → Type 0) → ℕ → List (Option ℕ) → Type 0
Answered answers n fs = (length fs ≡ n) × ((i : ℕ) → i < n → answers i (get_or fs i no_log) × Counted (get_or fs i no_log))

-- ---- inside

-- the most bytes that a line has
abbrev pub longest_line : ℕ
longest_line = 60

-- n lines at the front of a buffer
pub record Lines (line : ℕ → List ℕ) (n : ℕ) (entry exit : List ℕ) (next : ℕ) : Type 0 where
  pub put : Put (lines line n) entry exit 0 next
  pub short : next ≤ longest_line * n
