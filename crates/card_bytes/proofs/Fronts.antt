-- What stands behind the longest card of a kind, and one byte more, decides nothing: longer bytes are judged
-- as their front is, and as the same kind of card. Assumes nothing.
use Prim.Native.Nat.{ℕ, ◌+◌, ◌≤◌, ◌<◌}
use mathlib.Core.Path.{◌≡◌, sym, ap, ap₂, ◌∙◌}
use mathlib.Core.Bool.{not}
use mathlib.Core.List.{List}
use native.Mathlib.Omega.{arith}
use lib.ListN.{length, take}
use lib.Seq.{length-take-le}
use borrow.Author.Tests.{ltb-false, lt-ltb}
use Rattle.answer.specs.Answer.{accepted, refuse}
use Rattle.answer.proofs.Steps.{then_same, each_same, next_accepts, refuse_accepts}
use Rattle.little_endian.proofs.Fronts.{number_in_front}
use Rattle.record.proofs.Fronts.{record_in_front}
use Rattle.curve.specs.Kind.{Kind, quintic}
use Rattle.curve.specs.Card.{knots}
use Rattle.curve.specs.Steps.{size, counted, codes}
use Rattle.curve.specs.Orders.{card_order}
use Rattle.card_bytes.specs.Held.{start, card_of}
use Rattle.card_bytes.specs.Records.{due, head_due, knot_due, end_due, records_due, kind_by, card_verdict}
use Rattle.card_bytes.proofs.Standing.{knots_of}
use Rattle.card_bytes.proofs.ByHead.{known_by, limits, kind_in_front}

module _ (K : Kind) (n : ℕ) (enough : size K.most_knots < n) (s : List ℕ) (longer : n < length s) where
  abbrev front : List ℕ
  front = take n s

  front_long : length front ≡ n
  front_long = length-take-le n s (omega arith)

  due_same : (at kind long : ℕ) → at + (4 + long) ≤ n → due front at kind long ≡ due s at kind long
  unfolding due
  due_same at kind long h = ap (λ b. refuse 14 at (not b)) (record_in_front n s at kind long (omega arith) h)

  count_same : knots (card_of front) ≡ knots (card_of s)
  count_same = knots_of front ∙ number_in_front n s 2 4 (omega arith) ∙ sym (knots_of s)

  module _ (k : ℕ) (few : k ≤ K.most_knots) where
    -- bytes follow the end in both
    records_same : records_due front k ≡ records_due s k
    unfolding records_due knot_due end_due
    records_same =
        then_same (each_same 0 k (λ j l g. due_same (start j) 2 12 (omega arith)))
        (λ e. then_same (due_same (start k) 3 0 (omega arith)) (λ f. ap (refuse 14 (size k)) (lt-ltb (size k) (length front) (omega (arith, front_long)) ∙ sym (lt-ltb (size k) (length s) (omega arith)))))

    never_whole : records_due s k ≡ accepted → ⊥
    unfolding records_due end_due
    never_whole e = omega (arith, ltb-false (size k) (length s) (refuse_accepts 14 (size k) _ (next_accepts _ _ (next_accepts _ _ e))))

  pub front_decides : card_verdict K front ≡ card_verdict K s
  unfolding card_verdict card_order
  front_decides =
      then_same (unfold head_due in due_same 0 K.head 6 (omega arith))
      (λ headed. then_same (ap (counted K) count_same)
      (λ e. let few = many e in
      then_same coded
      (λ known. then_same (ap (records_due front) count_same ∙ records_same _ few) (λ whole. absurd (never_whole _ few whole)))))
    where
      many : counted K (knots (card_of s)) ≡ accepted → knots (card_of s) ≤ K.most_knots
      many e = unfold counted in ltb-false K.most_knots (knots (card_of s)) (refuse_accepts 2 0 _ (next_accepts _ _ e))

      coded : codes K (card_of front).left (card_of front).right ≡ codes K (card_of s).left (card_of s).right
      coded = unfold card_of in ap₂ (codes K) (number_in_front n s 2 6 (omega arith)) (number_in_front n s 2 8 (omega arith))

pub front_decides_by_head : (n : ℕ) → size quintic.most_knots < n → (s : List ℕ) → n < length s → card_verdict (kind_by (take n s)) (take n s) ≡ card_verdict (kind_by s) s
front_decides_by_head n enough s longer =
    let e : (kind_by s).most_knots ≡ quintic.most_knots = (limits (known_by s)).most in
    ap (λ K. card_verdict K (take n s)) (kind_in_front n s (omega arith) (omega arith)) ∙ front_decides (kind_by s) n (omega arith) s longer
