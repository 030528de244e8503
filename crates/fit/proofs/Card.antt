-- An accepted fit gives a card that the card's test accepts, with as many places as there are knots and the codes of its ends. Assumes nothing.
use Prim.Native.Nat.{ℕ}
use mathlib.Core.Path.{◌≡◌, sym, ap, ap₂, subst, ◌∙◌}
use mathlib.Core.List.{List}
use borrow.Author.Tests.{ltb-false}
use lib.IntN.{ℤ}
use lib.ListN.{length}
use lib.Ieee.{Float}
use Rattle.answer.specs.Answer.{Answer, refused, given, Verdict, accepted, ◌then◌}
use Rattle.answer.proofs.Steps.{first_accepts, next_accepts, both_accept, refuse_accepts, accepts_refuse}
use Rattle.curve.specs.Kind.{quintic}
use Rattle.curve.specs.Card.{Card, knots}
use Rattle.curve.specs.Steps.{lengths, codes}
use Rattle.curve.specs.Orders.{sound, verdict, fit_order}
use Rattle.curve.proofs.Accepted.{same_lengths}
use Rattle.rows.specs.declared.End.{End}
use Rattle.front.proofs.Listed.{length_listed}
use Rattle.rows.specs.Equations.{code}
use Rattle.passes.specs.Passes.{pairs_in}
use Rattle.ends.specs.Ends.{end_by}
use Rattle.ends.proofs.Codes.{code_known, code_asked}
use Rattle.numbers.specs.Numbers.{slope_at, curvature_at}
use Rattle.fit.specs.Fit.{solved, card_of, fit_of, fit_codes, default_left, default_right, fit}

abbrev pub card_in : Card → Answer Card → Card
card_in d (given c) = c
card_in d (refused n p) = d

pub codes_known : (left right : End) → codes quintic (code left) (code right) ≡ accepted
unfolding codes quintic
codes_known left right = both_accept (accepts_refuse 15 0 (code_known left)) (accepts_refuse 15 1 (code_known right))

-- of the fit's order: 3; 1, 2; 15; 4, 5, 6; 9, 10
pub shared : (a b c d e f g : Verdict) → (a then b then c then d then e then f then g) ≡ accepted → (a ≡ accepted) × (b ≡ accepted) × (c ≡ accepted) × (d ≡ accepted) × (g ≡ accepted)
shared a b c d e f g h =
    let i = next_accepts a _ h in
    let j = next_accepts b _ i in
    let k = next_accepts c _ j in
    (first_accepts a _ h, first_accepts b _ i, first_accepts c _ j, first_accepts d _ k, next_accepts f _ (next_accepts e _ (next_accepts d _ k)))

module _ (xs : List ℕ) (ys : List ℤ) (left right : End) (ms Ms : ℕ) (named : Verdict) {c : Card} (e : fit_of xs ys left right ms Ms named ≡ given c) where
  pub its_card : c ≡ card_of xs ys left right
  unfolding fit_of
  its_card = sym (ap (card_in c) (next_accepts _ _ e))

  -- what was lent has the card's n places
  pub places_lent : (ms ≡ length xs) × (Ms ≡ length xs)
  unfolding fit_of fit_order card_of knots
  places_lent = let l = same_lengths (length xs) (length ys) ms Ms (shared _ _ _ _ _ _ _ (first_accepts _ _ e)).0 in (l.1, l.2)

  pub places_written : (length c.slopes ≡ length xs) × (length c.curvatures ≡ length xs)
  unfolding card_of
  places_written =
      let pairs = pairs_in (solved xs ys left right) in
      (ap (λ d. length d.slopes) its_card ∙ length_listed (slope_at pairs) (length xs), ap (λ d. length d.curvatures) its_card ∙ length_listed (curvature_at pairs) (length xs))

  named_accepts : named ≡ accepted
  unfolding fit_of fit_order
  named_accepts = (shared _ _ _ _ _ _ _ (first_accepts _ _ e)).2

  own_verdict : verdict quintic (card_of xs ys left right) ≡ accepted
  unfolding fit_of fit_order verdict sound card_of knots
  own_verdict =
      let s = shared _ _ _ _ _ _ _ (first_accepts _ _ e) in
      let pairs = pairs_in (solved xs ys left right) in
      let n = length xs in
      let lent = ap₂ (lengths n (length ys)) (length_listed (slope_at pairs) n ∙ sym places_lent.0) (length_listed (curvature_at pairs) n ∙ sym places_lent.1) in
      both_accept (lent ∙ s.0) (both_accept s.1 (both_accept (codes_known left right) (both_accept s.3 s.4)))

  -- the card's test accepts it
  pub accepted_card : verdict quintic c ≡ accepted
  accepted_card = subst (λ d. verdict quintic d ≡ accepted) (sym its_card) own_verdict

-- codes that were asked are the card's
pub its_codes : (xs : List ℕ) (ys : List ℤ) (ms Ms left : ℕ) (slope curvature : Float) (right : ℕ) (slope' curvature' : Float) {c : Card}
    → fit_codes xs ys ms Ms left slope curvature right slope' curvature' ≡ given c → (c.left ≡ left) × (c.right ≡ right)
unfolding codes quintic card_of
its_codes xs ys ms Ms left slope curvature right slope' curvature' e =
    let is = its_card xs ys (end_by left slope curvature) (end_by right slope' curvature') ms Ms _ e in
    let k = named_accepts xs ys (end_by left slope curvature) (end_by right slope' curvature') ms Ms _ e in
    let known-left = ltb-false 2 left (refuse_accepts 15 0 _ (first_accepts _ _ k)) in
    let known-right = ltb-false 2 right (refuse_accepts 15 1 _ (next_accepts _ _ k)) in
    (ap (λ d. d.left) is ∙ code_asked left slope curvature known-left, ap (λ d. d.right) is ∙ code_asked right slope' curvature' known-right)

-- of a fit without ends they are 1 and 0
pub default_codes : (xs : List ℕ) (ys : List ℤ) (ms Ms : ℕ) {c : Card} → fit xs ys ms Ms ≡ given c → (c.left ≡ 1) × (c.right ≡ 0)
unfolding card_of
default_codes xs ys ms Ms e = let is = its_card xs ys default_left default_right ms Ms accepted e in (ap (λ d. d.left) is, ap (λ d. d.right) is)
