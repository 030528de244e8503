-- Document 02, order 11: puts and removals in one lent buffer, one after the other, and the card that a room should then have.
-- Assumes nothing.
use Rattle.std.specs.Prelude.{ℕ, ◌<◌, ◌^◌, ◌≡◌, Bool, true, false, ◌&&◌, cond, List, eqb}
use Rattle.answer.specs.Answer.{Answer, refused, given}
use Rattle.book_put.specs.Put.{put, after}
use Rattle.book_remove.specs.Remove.{remove}

-- "any sequence of puts and removals, refused ones included": each finds the bytes that the one before it left, the first those in `from`
pub data Deeds (from : List ℕ) : List ℕ → Type 0 where
  none : Deeds from from
  putting : {s t : List ℕ} (room : ℕ) (card : List ℕ) → room < 2 ^ 16 → t ≡ after (put room card s) s → Deeds from s → Deeds from t
  removing : {s t : List ℕ} (room : ℕ) → t ≡ after (remove room s) s → Deeds from s → Deeds from t

unfoldable pub accepts : {A : Type 0} → Answer A → Bool
accepts (refused n p) = false
accepts (given a) = true

-- "each room's last accepted card not since removed, else 20"
unfoldable pub last_card : {from to : List ℕ} → ℕ → Deeds from to → Answer (List ℕ)
last_card q none = refused 20 0
last_card q (putting {s = s} r c l e ds) = cond (accepts (put r c s) && eqb r q) (given c) (last_card q ds)
last_card q (removing {s = s} r e ds) = cond (accepts (remove r s) && eqb r q) (refused 20 0) (last_card q ds)
