-- Order 9 as it stands, of any bytes: what `explain` says of them. Assumes nothing.
use Prim.Native.Nat.{ℕ, ◌≤◌}
use mathlib.Core.Path.{◌≡◌, sym, subst}
use mathlib.Core.Logic.{⊎_elim}
use mathlib.Core.List.{List}
use native.Mathlib.Omega.{arith}
use Rattle.answer.specs.Answer.{refused}
use Rattle.curve.specs.Curve.{Order}
use Rattle.curve.specs.Card.{knots}
use Rattle.knots.proofs.Accepted.{stood}
use Rattle.card_bytes.specs.Held.{card_of}
use Rattle.card_bytes.specs.Records.{kind_by}
use Rattle.card_bytes.proofs.ByHead.{known_by}
use Rattle.card.specs.Answers.{own}
use Rattle.opened.proofs.Shape.{shape_some}
use Rattle.opened.proofs.Jumping.{jumped_before_10, jumped_inside, ten_of_bytes}
use Rattle.explain.specs.Explain.{explain}
use Rattle.reasons.specs.Reasons.{Because, OverGaps, Tested, Says}
use Rattle.reasons.proofs.Parts.{passes}
use Rattle.reasons.proofs.Named.{named_exactly}
use Rattle.reasons.proofs.Reason.{ten_because}
use Rattle.reasons.proofs.Fractions.{over_gaps}
use Rattle.reasons.proofs.Fits.{quintic_tested, sloped_tested, bytes_fit}

module _ (s : List ℕ) where
  tested : Tested (kind_by s)
  tested = ⊎_elim (λ e. subst Tested (sym e) quintic_tested) (λ e. subst Tested (sym e) sloped_tested) (known_by s)

  module _ (p : ℕ) (e : own s ≡ refused 10 p) where
    says_because : (minute : ℕ) → Because (kind_by s) (card_of s) p (explain s minute)
    unfolding explain
    says_because minute = subst (Because (kind_by s) (card_of s) p) (sym ((named_exactly (kind_by s) (card_of s) (own s) minute).named p e)) (ten_because (kind_by s) (card_of s) p (ten_of_bytes (kind_by s) s e).1)

    says_over_gaps : (o : Order) → OverGaps (card_of s) p o
    unfolding knots
    says_over_gaps =
        let c = card_of s in
        let ten = ten_of_bytes (kind_by s) s e in
        let some : 2 ≤ knots c = omega (arith, tested.some, shape_some (kind_by s) s ten.0) in
        over_gaps c some (stood (jumped_before_10 (kind_by s) c ten.1).stand).rising p (jumped_inside (kind_by s) c ten.1)

  pub explain_says : (minute : ℕ) → Says s minute (explain s minute)
  unfolding explain
  explain_says minute =
      record {
        reading = passes (kind_by s) (own s) (card_of s) minute;
        exactly = named_exactly (kind_by s) (card_of s) (own s) minute;
        reasons = λ p e. says_because p e minute;
        over_gaps = says_over_gaps;
        fits = bytes_fit tested s minute;
      }
