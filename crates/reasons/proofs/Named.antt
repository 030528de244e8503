-- "A reason is named exactly when the test refuses with 10", with zeros where the parts would stand; and none
-- stands beside the parts or another refusal. Assumes nothing.
use Prim.Native.Nat.{ℕ}
use mathlib.Core.Path.{◌≡◌, refl, sym, ap, ◌∙◌}
use mathlib.Core.Logic.{◌≢◌, ◌⊎◌, inl, inr}
use native.Mathlib.Omega.{arith}
use Rattle.answer.specs.Answer.{refused, Verdict}
use Rattle.answer.proofs.Steps.{not_both}
use Rattle.curve.specs.Curve.{degree}
use Rattle.curve.specs.Kind.{Kind}
use Rattle.curve.specs.Card.{Card}
use Rattle.explain.specs.declared.Explained.{Explained}
use Rattle.explain.specs.declared.Jump.{Jump}
use Rattle.explain.specs.Explain.{parted, because, reason, zeros, explained}
use Rattle.reasons.specs.Reasons.{NoParts, NamedExactly}
use Rattle.reasons.proofs.Told.{reason_one_of, explained_one_of}

-- ---- what a reason has

record Reasoned (p : ℕ) (e : Explained) : Type 0 where
  number_10 : e.number ≡ 10
  place_p : e.place ≡ p
  ordered : (e.order ≡ 3) ⊎ (e.order ≡ 4)
  no_parts : NoParts e

because_has : (p o : ℕ) (j : Jump) → (o ≡ 3) ⊎ (o ≡ 4) → Reasoned p (because p o j)
unfolding because
because_has p o j h =
    record {
      number_10 = refl;
      place_p = refl;
      ordered = h;
      no_parts = record { gap_0 = refl; minutes_0 = refl; y_0 = refl; y'_0 = refl; m_0 = refl; m'_0 = refl; M0 = refl; M'0 = refl; under_0 = refl };
    }

module _ (K : Kind) (c : Card) where
  reasoned : (p : ℕ) → Reasoned p (reason K c p)
  unfolding degree
  reasoned p = reason_one_of K c p (Reasoned p) (λ e. because_has p 3 _ (inl refl)) (λ e. because_has p 4 _ (inr refl))

  -- ---- the four answers

  reason_named : {own : Verdict} (p : ℕ) → own ≡ refused 10 p → NamedExactly K own c (reason K c p)
  reason_named {own} p f =
      let r = reasoned p in
      let here : own ≡ refused 10 (reason K c p).place = f ∙ ap (refused 10) (sym r.place_p) in
      record {
        named = λ q g. let z : p ≡ q = cc in ap (reason K c) z;
        only = λ h. here;
        tens = λ h. here;
        ten_ordered = λ h. r.ordered;
        else_none = λ h. absurd (h r.number_10);
        refused_parts = λ h. r.no_parts;
      }

  zeros_named : {own : Verdict} (n p : ℕ) → n ≢ 10 → ((q : ℕ) → own ≢ refused 10 q) → NamedExactly K own c (zeros n p)
  zeros_named n p h not =
      record {
        named = λ q g. absurd (not q g);
        only = λ z. absurd (z refl);
        tens = λ z. absurd (h z);
        ten_ordered = λ z. absurd (h z);
        else_none = λ z. record { knot_0 = refl; order_0 = refl; jump_0 = refl; allowance_0 = refl };
        refused_parts = λ z. record { gap_0 = refl; minutes_0 = refl; y_0 = refl; y'_0 = refl; m_0 = refl; m'_0 = refl; M0 = refl; M'0 = refl; under_0 = refl };
      }

  parts_named : {own : Verdict} (i minute : ℕ) → ((q : ℕ) → own ≢ refused 10 q) → NamedExactly K own c (parted c i minute)
  unfolding parted
  parts_named i minute not =
      record {
        named = λ q g. absurd (not q g);
        only = λ z. absurd (z refl);
        tens = λ z. absurd (omega arith);
        ten_ordered = λ z. absurd (omega arith);
        else_none = λ z. record { knot_0 = refl; order_0 = refl; jump_0 = refl; allowance_0 = refl };
        refused_parts = λ z. absurd (z refl);
      }

  pub named_exactly : (own : Verdict) (minute : ℕ) → NamedExactly K own c (explained K own c minute)
  named_exactly own minute =
      explained_one_of K c own minute (NamedExactly K own c) reason_named
      (λ n p h f. zeros_named n p h (λ q g. let z : n ≡ 10 = number_of (sym f ∙ g) in h z))
      (λ f g. zeros_named 11 0 (λ z. omega arith) (λ q h. not_both (sym h ∙ f)))
      (λ f g. parts_named _ minute (λ q h. not_both (sym h ∙ f)))
    where
      number_of : {n p q : ℕ} → ◌≡◌ {A = Verdict} (refused n p) (refused 10 q) → n ≡ 10
      number_of e = cc
