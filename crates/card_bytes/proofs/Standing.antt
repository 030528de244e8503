-- Bytes in which every record of a card stands where it is due: that none is refused with 14, both ways, and how long they are.
-- Assumes nothing.
use Prim.Native.Nat.{ℕ, ◌≤◌, ◌<◌}
use mathlib.Core.Path.{◌≡◌, ap}
use mathlib.Core.Bool.{true, not}
use mathlib.Core.List.{List}
use native.Mathlib.Omega.{arith}
use lib.ListN.{length}
use borrow.Author.Tests.{not-false, le-ltb, ltb-false}
use Rattle.answer.specs.Answer.{accepted}
use Rattle.answer.proofs.Steps.{first_accepts, next_accepts, both_accept, refuse_accepts, accepts_refuse, each_accepts, accepts_each}
use Rattle.front.proofs.Listed.{length_listed}
use Rattle.record.specs.Record.{is_at}
use Rattle.record.proofs.Records.{standing}
use Rattle.curve.specs.Card.{knots}
use Rattle.curve.specs.Steps.{size}
use Rattle.card_bytes.specs.Held.{start, minute_at, count_at, card_of}
use Rattle.card_bytes.specs.Records.{due, head_due, knot_due, end_due, records_due}

pub knots_of : (s : List ℕ) → knots (card_of s) ≡ count_at s
unfolding knots card_of
knots_of s = length_listed (minute_at s) (count_at s)

module _ (s : List ℕ) (at kind long : ℕ) where
  pub due_stands : due s at kind long ≡ accepted → is_at s at kind long ≡ true
  unfolding due
  due_stands e = not-false _ (refuse_accepts 14 at _ e)

  stands_due : is_at s at kind long ≡ true → due s at kind long ≡ accepted
  unfolding due
  stands_due t = accepts_refuse 14 at (ap not t)

pub record Whole (head : ℕ) (s : List ℕ) (n : ℕ) : Type 0 where
  pub headed : is_at s 0 head 6 ≡ true
  pub knotted : (i : ℕ) → i < n → is_at s (start i) 2 12 ≡ true
  pub ended : is_at s (start n) 3 0 ≡ true
  pub nothing_behind : length s ≤ size n

module _ {head : ℕ} {s : List ℕ} {n : ℕ} where
  pub whole : head_due head s ≡ accepted → records_due s n ≡ accepted → Whole head s n
  unfolding head_due records_due knot_due end_due
  whole h r =
      let e = next_accepts _ _ r in
      record {
        headed = due_stands s 0 head 6 h;
        knotted = λ i l. due_stands s (start i) 2 12 (each_accepts _ 0 n (first_accepts _ _ r) i (omega arith) (omega arith));
        ended = due_stands s (start n) 3 0 (first_accepts _ _ e);
        nothing_behind = ltb-false _ _ (refuse_accepts 14 (size n) _ (next_accepts _ _ e));
      }

  pub whole_headed : Whole head s n → head_due head s ≡ accepted
  unfolding head_due
  whole_headed w = stands_due s 0 head 6 w.headed

  pub whole_recorded : Whole head s n → records_due s n ≡ accepted
  unfolding records_due knot_due end_due
  whole_recorded w =
      both_accept (accepts_each _ 0 n (λ i p l. stands_due s (start i) 2 12 (w.knotted i (omega arith))))
      (both_accept (stands_due s (start n) 3 0 w.ended) (accepts_refuse 14 (size n) (le-ltb _ _ w.nothing_behind)))

  pub whole_size : Whole head s n → length s ≡ size n
  whole_size w = omega (arith, w.nothing_behind, (standing s (start n) 3 0 w.ended).whole)
