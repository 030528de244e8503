-- The log of a knot, as the code cuts it out of the list.
-- Assumes nothing.
use Prim.Native.Nat.{ℕ, ◌+◌, ◌*◌, ◌≤◌, ◌<◌}
use mathlib.Core.Path.{◌≡◌, sym, ◌∙◌}
use mathlib.Core.List.{List, []}
use native.Mathlib.Numerals.{add-one}
use lib.ListN.{length, take, drop, get_or, drop_of_length-le}
use lib.Seq.{drop-cons, take_all}
use Rattle.reply.specs.Knots.{slot, log_at}

module _ (logs : List ℕ) (i : ℕ) where
  pub no_slot : length logs ≤ slot * i → [] ≡ log_at logs i
  unfolding log_at
  no_slot h = rw (drop_of_length-le logs h)

  module _ (h : slot * i < length logs) {bytes : List ℕ} (behind : bytes ≡ drop (slot * i + 1) logs) where
    pub in_slot : take (get_or logs (slot * i) 0) bytes ≡ log_at logs i
    unfolding log_at
    in_slot = rw (behind, add-one (slot * i), drop-cons logs (slot * i) 0 h)

    pub short_slot : length bytes ≤ get_or logs (slot * i) 0 → bytes ≡ log_at logs i
    short_slot l = sym (take_all (get_or logs (slot * i) 0) bytes l) ∙ in_slot
