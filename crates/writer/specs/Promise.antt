-- What the writer leaves its caller: number, place and how many bytes were written, and the lent buffer at
-- exit. Document 01, "Numbers of refusal": "Writer: 3, 1, 2, 15; per knot 4, 5, 6; 9; 10; 26." Assumes
-- nothing.
use Rattle.std.specs.Prelude.{ℕ, ◌≡◌, List, length}
use Rattle.answer.specs.Answer.{refused, given, Verdict}
use Rattle.answer.specs.Lent.{lent_after}
use Rattle.curve.specs.Kind.{Kind}
use Rattle.curve.specs.Card.{Card, knots}
use Rattle.curve.specs.Steps.{size}
use Rattle.curve.specs.Orders.{write_order}
use Rattle.card_bytes.specs.Bytes.{bytes_of}
use Rattle.writer.specs.declared.Written.{Written}

-- zeros behind a refusal
unfoldable pub written : Verdict → ℕ → Written
written (refused n p) bytes = record { number = n; place = p; bytes = 0 }
written (given u) bytes = record { number = 0; place = 0; bytes = bytes }

-- the card c in the lent lists; the buffer at entry and at exit
pub record Writes (K : Kind) (c : Card) (entry exit : List ℕ) (r : Written) : Type 0 where
  pub answer : r ≡ written (write_order K c (length entry)) (size (knots c))
  pub buffer : exit ≡ lent_after (write_order K c (length entry)) (bytes_of K c) entry
