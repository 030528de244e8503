-- Document 02, order 11: the bytes that a book has in use, as a sum over its rooms, and 21 by them alone. Assumes nothing.
use Rattle.std.specs.Prelude.{ℕ, ◌+◌, ◌-◌, ◌||◌, List, [], ◌∷◌, ltb, length}
use Rattle.answer.specs.Answer.{Verdict, refuse}
use Rattle.book.specs.Book.{Entry, most}
use Rattle.book.specs.Steps.{there}

unfoldable pub sum_over : List Entry → (Entry → ℕ) → ℕ
sum_over [] f = 0
sum_over (e ∷ es) f = f e + sum_over es f

-- "the sum over rooms present of 6 plus the card's length, plus 4"
abbrev pub in_use_by : List Entry → ℕ
in_use_by es = sum_over es (λ e. 6 + length e.card) + 4

-- the same after a card c is put in for r: its record comes, and the one that is there goes
abbrev pub then_in_use : ℕ → List ℕ → List Entry → ℕ
then_in_use r c es = in_use_by es - there r es + (6 + length c)

-- 21 "exactly when" a book of n bytes "is over the limit or over the lent buffer"
abbrev pub full : (n lent : ℕ) → Verdict
full n lent = refuse 21 0 (ltb most n || ltb lent n)
