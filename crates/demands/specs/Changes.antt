-- Calls that change one book, one after the other, and the card that a room should then have, by their answers. Document 02, order 11.
-- Assumes nothing.
use Rattle.std.specs.Prelude.{ℕ, ◌≡◌, ◌&&◌, cond, List, eqb}
use Rattle.answer.specs.Answer.{Answer, refused, given}
use Rattle.demands.specs.Calls.{put_card, AChange, by_put, by_removal, changed_book, changed_book', changed_room, change_answer}

-- "any sequence of puts and removals, refused ones included": the first finds the bytes in `from`, each other what the one before it left
pub data Changes (from : List ℕ) : List ℕ → Type 0 where
  none : Changes from from
  more : {s : List ℕ} (c : AChange) → changed_book c ≡ s → Changes from s → Changes from (changed_book' c)

-- what its room has by an accepted call
abbrev pub brought : AChange → Answer (List ℕ)
brought (by_put c) = given (put_card c)
brought (by_removal c) = refused 20 0

-- "each room's last accepted card not since removed, else 20"
unfoldable pub last_card : {from to : List ℕ} → ℕ → Changes from to → Answer (List ℕ)
last_card q none = refused 20 0
last_card q (more c e cs) = cond (eqb (change_answer c).number 0 && eqb (changed_room c) q) (brought c) (last_card q cs)
