-- A record: "two-byte length of the body, two-byte kind, body, little-endian" (document 01, "Card bytes"), and what is
-- answered where one is due. Assumes nothing.
use Rattle.std.specs.Prelude.{ℕ, ◌+◌, List, ◌++◌, Bool, not, ◌&&◌, length, leb, eqb, Result, Ok, Err}
use Rattle.answer.specs.Answer.{Answer, refused, given, ◌then◌, refuse}
use Rattle.little_endian.specs.Numbers.{le, num_at}
use Rattle.record.specs.declared.Body.{Body}

-- the four bytes before a body
unfoldable pub header : ℕ → ℕ → List ℕ
header kind long = le 2 long ++ le 2 kind

-- a whole record of the kind and the length stands at `at`
unfoldable pub is_at : List ℕ → ℕ → ℕ → ℕ → Bool
is_at s at kind long =
    leb (at + (4 + long)) (length s) && (eqb (num_at 2 s at) long && eqb (num_at 2 s (at + 2)) kind)

-- a body's start, and the offset of the next record
pub record Span : Type 0 where
  pub start : ℕ
  pub next : ℕ

abbrev pub span : ℕ → ℕ → Span
span start next = record { start = start; next = next }

-- what the code answers where a record is due
abbrev pub found_of : Result Body ℕ → Answer Span
found_of (Ok body) = given (span body.start body.next.at)
found_of (Err at) = refused 14 at

-- 14: "record cut short, wrong kind or length", at the "offset of that record"
unfoldable pub record_at : List ℕ → ℕ → ℕ → ℕ → Answer Span
record_at s at kind long = refuse 14 at (not (is_at s at kind long)) then given (span (at + 4) (at + (4 + long)))
