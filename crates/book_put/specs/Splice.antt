-- What a record put into the middle of a book's bytes leaves. Assumes nothing.
use Rattle.std.specs.Prelude.{ℕ, ◌+◌, ◌-◌, List, ◌++◌, length, take, drop}

-- vs in place of the `old` bytes at `at` of the `used` at the front of s; no byte behind what is then in use is written
unfoldable pub spliced : List ℕ → (at old used : ℕ) → List ℕ → List ℕ
spliced s at old used vs = take at s ++ (vs ++ (take (used - (at + old)) (drop (at + old) s) ++ drop (at + (length vs + (used - (at + old)))) s))
