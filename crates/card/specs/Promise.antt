-- What the reader leaves its caller: its answer, and the four lent lists at exit. Document 01, "Numbers of
-- refusal": "Card into lent lists: 3, the card's, 26." Assumes nothing.
use Rattle.std.specs.Prelude.{◌≡◌, ℕ, List, ℤ, length}
use Rattle.std.specs.Borrow.{MutBor}
use Rattle.answer.specs.Answer.{Verdict}
use Rattle.answer.specs.Lent.{lent_after}
use Rattle.curve.specs.Card.{knots}
use Rattle.curve.specs.Orders.{lists_order}
use Rattle.card_bytes.specs.Held.{card_of}
use Rattle.card_bytes.specs.Records.{kind_by}
use Rattle.card.specs.declared.Checked.{Checked}
use Rattle.card.specs.Answers.{own, checked}

-- four lists that are lent, at one moment
pub record Lists : Type 0 where
  pub minutes : List ℕ
  pub ordinates : List ℤ
  pub slopes : List ℤ
  pub curvatures : List ℤ

-- what is behind four parameters
abbrev pub lists : MutBor (List ℕ) → (ys ms Ms : MutBor (List ℤ)) → Lists
lists xs ys ms Ms = record { minutes = xs.now; ordinates = ys.now; slopes = ms.now; curvatures = Ms.now }

-- of the lists at entry, and the card's bytes
unfoldable pub into : Lists → List ℕ → Verdict
into l s = lists_order (length l.minutes) (length l.ordinates) (length l.slopes) (length l.curvatures) (own s) (knots (card_of s))

-- the bytes; the lists at entry and at exit
pub record Reads (s : List ℕ) (entry exit : Lists) (r : Checked) : Type 0 where
  pub answer : r ≡ checked (into entry s) (kind_by s) (card_of s)
  pub minutes : exit.minutes ≡ lent_after (into entry s) (card_of s).minutes entry.minutes
  pub ordinates : exit.ordinates ≡ lent_after (into entry s) (card_of s).ordinates entry.ordinates
  pub slopes : exit.slopes ≡ lent_after (into entry s) (card_of s).slopes entry.slopes
  pub curvatures : exit.curvatures ≡ lent_after (into entry s) (card_of s).curvatures entry.curvatures
