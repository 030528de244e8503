-- What fitting a card anew leaves its caller: its answer, and both lent lists at exit. Document 01, "Numbers of refusal": "A refusal returns zeros beside number and
-- place, and writes to no lent list"; "On acceptance only the n places are written". Assumes nothing.
use Rattle.std.specs.Prelude.{◌≡◌, ℕ, ◌+◌, List, ◌++◌, ℤ, length, drop}
use Rattle.std.proofs.Math.IntN.{ℤ_discrete}
use Rattle.answer.specs.Answer.{Answer, refused, given}
use Rattle.curve.specs.Kind.{Kind}
use Rattle.curve.specs.Card.{Card, knots}
use Rattle.fit.specs.Promise.{slopes_after, curvatures_after}
use Rattle.card_bytes.specs.Held.{card_of}
use Rattle.refit.specs.declared.Refitted.{Refitted}
use Rattle.refit.specs.Differing.{differing}
use Rattle.refit.specs.Fresh.{fresh, refit}

-- how many of a card's slopes and curvatures are not these
unfoldable pub changed : Card → (ms Ms : List ℤ) → ℕ
changed c ms Ms = differing ℤ_discrete c.slopes ms + differing ℤ_discrete c.curvatures Ms

-- of a card and its fresh fit: the number of knots, and how many of the card's numbers are not the fit's
unfoldable pub refitted : Card → Answer Card → Refitted
refitted c (refused n p) = record { number = n; place = p; knots = 0; changed = 0 }
refitted c (given d) = record { number = 0; place = 0; knots = knots c; changed = changed c d.slopes d.curvatures }

-- a lent list at exit: the numbers that the fit gives, over its front
unfoldable pub after : Answer Card → (Card → List ℤ) → List ℤ → List ℤ
after (refused n p) numbers list = list
after (given d) numbers list = numbers d ++ drop (length (numbers d)) list

-- the card's bytes; ms and Ms are the lent lists at entry, ms' and Ms' at exit
pub record Refits (s : List ℕ) (ms Ms ms' Ms' : List ℤ) (r : Refitted) : Type 0 where
  pub answer : r ≡ refitted (card_of s) (refit (length ms) (length Ms) s)
  pub slopes : ms' ≡ after (refit (length ms) (length Ms) s) (λ d. d.slopes) ms
  pub curvatures : Ms' ≡ after (refit (length ms) (length Ms) s) (λ d. d.curvatures) Ms

-- ---- inside

-- the same of an accepted card, and lists of its n places
pub record Renews (K : Kind) (c : Card) (ms Ms ms' Ms' : List ℤ) (r : Refitted) : Type 0 where
  pub answer : r ≡ refitted c (fresh K c)
  pub slopes : ms' ≡ slopes_after (fresh K c) ms
  pub curvatures : Ms' ≡ curvatures_after (fresh K c) Ms
